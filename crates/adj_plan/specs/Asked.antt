-- What is asked of the marks: that with the values that are needed and held they are what exact analyses say.
use Rattle.std.specs.Prelude.{ℕ}
use Rattle.adj_tree.specs.declared.marks.Marks as flags
use Rattle.def_names.specs.Numbers.{Vars}
use Rattle.def_flow.specs.Problem.{Problem}
use Rattle.def_flow.specs.Analysed.{Analysed}
use Rattle.adj_flow.specs.declared.units.Flow.{Flow}
use Rattle.adj_flow.specs.Marked.{activity_of, liveness_of, saved_of}

-- the flags tell all of it
pub record IsPlan (f : Flow) (k : Problem) (m : flags.Marks) : Type 0 where
  pub needed : ℕ → Vars
  pub held : ℕ → Vars
  pub analysed : Analysed k (activity_of f m.activity) (liveness_of needed f m.kept) (saved_of f m.saved) held
