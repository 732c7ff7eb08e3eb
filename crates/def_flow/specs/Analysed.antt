-- What it means that analyses are exact.
use Rattle.std.specs.Prelude.{◌↔◌, ℕ}
use Rattle.adj_tree.specs.Code.{Var}
use Rattle.def_names.specs.Numbers.{Vars}
use Rattle.def_sweep.specs.Facts.{In}
use Rattle.def_flow.specs.Problem.{Problem}
use Rattle.def_flow.specs.Activity.{Activity, IsActivity}
use Rattle.def_flow.specs.Live.{Liveness, IsLive}
use Rattle.def_flow.specs.Held.{Held, IsSaved}

-- what is held at the points, as a set
pub record IsHeld (k : Problem) (a : Activity) (l : Liveness) (held : ℕ → Vars) : Type 0 where
  pub exact : (p : ℕ) (v : Var) → In v (held p) ↔ Held k a l (p, v)

-- what the analyses say, all of it exact
pub record Analysed (k : Problem) (a : Activity) (l : Liveness) (saved held : ℕ → Vars) : Type 0 where
  pub active : IsActivity k a
  pub live : IsLive k a l
  pub holds : IsHeld k a l held
  pub saves : IsSaved k a l saved
