-- The marks that flags tell are those of analyses.
use Rattle.std.specs.Prelude.{◌≡◌, ℕ}
use Rattle.adj_tree.specs.declared.marks.Marks as flags
use Rattle.def_names.specs.Numbers.{Vars}
use Rattle.def_planned.specs.ProgramFacts.{program_facts}
use Rattle.adj_reach.specs.Edges.{flag}
use Rattle.adj_flow.specs.Asked.{units_of}
use Rattle.adj_flow.specs.declared.units.Flow.{Flow}
use Rattle.adj_flow.specs.Marked.{activity_of, liveness_of, saved_of}
use Rattle.adj_weave.specs.Marked.{marks_told}

-- the marks that flags tell over a flow are those of what they tell as analyses, whatever is needed and held
abbrev pub PlansAreAnalyses : Type 0
PlansAreAnalyses =
    (f : Flow) (t : flags.Marks) (needed held : ℕ → Vars) → marks_told f t ≡ (program_facts (units_of f) (flag f.split) (activity_of f t.activity) (liveness_of needed f t.kept) (saved_of f t.saved) held).marks
