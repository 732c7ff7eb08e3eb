-- What is asked of the analysis.
use Rattle.std.specs.Prelude.{ℕ}
use Rattle.adj_tree.specs.declared.marks.Kept.{Kept}
use Rattle.adj_tree.specs.declared.marks.Saved.{Saved}
use Rattle.def_names.specs.Numbers.{Vars}
use Rattle.def_flow.specs.Problem.{Problem}
use Rattle.def_flow.specs.Activity.{Activity}
use Rattle.def_flow.specs.Held.{IsSaved}
use Rattle.def_flow.specs.Analysed.{IsHeld}
use Rattle.adj_flow.specs.declared.units.Flow.{Flow}
use Rattle.adj_flow.specs.Marked.{liveness_of, saved_of}

-- whatever is needed, the flags say just what is saved, and some variables at points are just those that are held
pub record TellsSaved (f : Flow) (k : Problem) (a : Activity) (t : Kept) (s : Saved) : Type 0 where
  pub held : ℕ → Vars
  pub holds : (needed : ℕ → Vars) → IsHeld k a (liveness_of needed f t) held
  pub saves : (needed : ℕ → Vars) → IsSaved k a (liveness_of needed f t) (saved_of f s)
