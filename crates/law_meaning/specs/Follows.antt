-- When one run follows another that takes fewer statements: it ends where that ends, in the same way, after at least as many
-- statements and at most `w` times as many, and some more that are named `slack`.
use Rattle.std.specs.Prelude.{◌≡◌, ℕ, ◌+◌, ◌*◌, ◌<◌, ◌≤◌}
use Rattle.def_meaning.specs.Trap.{Trap}
use Rattle.def_meaning.specs.Scene.{Stand, Outcome, Done, Trapped, Full, IsMore}

-- a run with any number of statements
abbrev pub Runs : Type 0 → Type 0
Runs A = ℕ → Outcome A

-- both are done, with results that are related
pub record BothDone {A B : Type 0} (R : A → B → Type 0) (w slack : ℕ) (o : Runs A) (p : Runs B) (k : ℕ) : Type 0 where
  pub first : A
  pub spent : ℕ
  pub left : ℕ
  pub is : k ≡ spent + left
  pub done : o k ≡ Done first left
  pub second : B
  pub cost : ℕ
  pub least : spent ≤ cost
  pub most : cost ≤ w * spent + slack
  pub early : (j : ℕ) → j < cost → IsMore (p j)
  pub by : (j : ℕ) → p (cost + j) ≡ Done second j
  pub related : R first second

-- both trap at one line, perhaps with traps of two kinds
pub record BothTrap {A B : Type 0} (o : Runs A) (p : Runs B) (k : ℕ) : Type 0 where
  pub kind : Trap
  pub line : ℕ
  pub stands : Stand
  pub done : o k ≡ Trapped kind line stands
  pub other : Trap
  pub stands_there : Stand
  pub cost : ℕ
  pub by : (j : ℕ) → p (cost + j) ≡ Trapped other line stands_there

-- both find the tape full
pub record BothFull {A B : Type 0} (o : Runs A) (p : Runs B) (k : ℕ) : Type 0 where
  pub stands : Stand
  pub done : o k ≡ Full stands
  pub stands_there : Stand
  pub cost : ℕ
  pub by : (j : ℕ) → p (cost + j) ≡ Full stands_there

-- the run p follows the run o, which has k statements
pub data Follows {A B : Type 0} (R : A → B → Type 0) (w slack : ℕ) (o : Runs A) (p : Runs B) (k : ℕ) : Type 0 where
  both_more : IsMore (o k) → ((j : ℕ) → j ≤ k → IsMore (p j)) → Follows R w slack o p k
  both_done : BothDone R w slack o p k → Follows R w slack o p k
  both_trap : BothTrap o p k → Follows R w slack o p k
  both_full : BothFull o p k → Follows R w slack o p k
