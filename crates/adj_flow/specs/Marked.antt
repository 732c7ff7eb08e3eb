-- What the flags that the analyses give say.
use Rattle.std.specs.Prelude.{ℕ}
use Rattle.adj_tree.specs.Code.{plain}
use Rattle.adj_tree.specs.declared.marks.Activity as flags
use Rattle.adj_tree.specs.declared.marks.Kept.{Kept}
use Rattle.adj_tree.specs.declared.marks.Saved.{Saved}
use Rattle.def_names.specs.Numbers.{Vars}
use Rattle.def_names.specs.Numbering.{point_before}
use Rattle.def_flow.specs.Activity.{Activity}
use Rattle.def_flow.specs.Live.{Liveness}
use Rattle.adj_reach.specs.Edges.{flag}
use Rattle.adj_flow.specs.Told.{unit_at, told_in, told_of}
use Rattle.adj_flow.specs.Scoped.{scope_by}
use Rattle.adj_flow.specs.Asked.{units_of, variables_of}
use Rattle.adj_flow.specs.declared.units.Flow.{Flow}
use Rattle.adj_flow.specs.ActivityTold.{activity_told}

-- what the flags that are given say
abbrev pub activity_of : Flow → flags.Activity → Activity
activity_of f a = activity_told a.varied a.useful a.shadowed a.adjointed (scope_by (variables_of f) (flag f.taking) (units_of f)) f.width

-- with these variables that are needed, which statements are kept and which dummies are wanted by the flags
abbrev pub liveness_of : (ℕ → Vars) → Flow → Kept → Liveness
liveness_of needed f t = record {
  needed = needed;
  kept = flag t.kept;
  wanted = λ u d. told_of t.entry (scope_by (variables_of f) (flag f.taking) (units_of f)) f.width u (plain d);
}

-- the variables that the i-th statement saves: those of its unit whose flags are set at i
abbrev pub saved_of : Flow → Saved → ℕ → Vars
saved_of f s i =
    told_in s.saved (scope_by (variables_of f) (flag f.taking) (units_of f)) f.width i (unit_at (scope_by (variables_of f) (flag f.taking) (units_of f)).parts (point_before i))
