-- Scenes that agree on some cells, and runs that end alike from them.
use Rattle.std.specs.Prelude.{◌≡◌, ℕ}
use Rattle.adj_tree.specs.Code.{Var}
use Rattle.def_meaning.specs.Scene.{Scene, Outcome, Done, Trapped, More, Full}

-- the scenes have equal numbers in some cells, and are otherwise the same
pub record AgreeOn {C : Type 0} (cells : Var → ℕ → Type 0) (s t : Scene C) : Type 0 where
  pub store : (x : Var) (i : ℕ) → cells x i → s.store x i ≡ t.store x i
  pub tape : s.tape ≡ t.tape
  pub opened : s.opened ≡ t.opened
  pub events : s.events ≡ t.events

-- both are done with as many statements left, in scenes that agree; or both trap alike, or both have more to do, or both are full
abbrev pub EndAlike : {C : Type 0} → (Var → ℕ → Type 0) → Outcome (Scene C) → Outcome (Scene C) → Type 0
EndAlike cells (Done s j) (Done t k) = AgreeOn cells s t × (j ≡ k)
EndAlike cells (Trapped a line w) (Trapped b other x) = (a ≡ b) × (line ≡ other) × (w ≡ x)
EndAlike cells (More w) (More x) = w ≡ x
EndAlike cells (Full w) (Full x) = w ≡ x
EndAlike cells _ _ = ⊥
