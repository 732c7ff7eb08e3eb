-- What is asked of the analysis.
use Rattle.std.specs.Prelude.{ℕ}
use Rattle.adj_tree.specs.declared.marks.Kept.{Kept}
use Rattle.def_names.specs.Numbers.{Vars}
use Rattle.def_flow.specs.Problem.{Problem}
use Rattle.def_flow.specs.Activity.{Activity}
use Rattle.def_flow.specs.Live.{IsLive}
use Rattle.adj_flow.specs.declared.units.Flow.{Flow}
use Rattle.adj_flow.specs.Marked.{liveness_of}

-- with some variables that are needed, the flags say just what is live
pub record TellsLive (f : Flow) (k : Problem) (a : Activity) (t : Kept) : Type 0 where
  pub needed : ℕ → Vars
  pub live : IsLive k a (liveness_of needed f t)
