-- What the assignments of the temporaries do.
use Rattle.std.proofs.Common.{◌≡◌, ℕ, ◌<◌}
use Rattle.std.specs.Prelude.{ℤ}
use Rattle.adj_tree.specs.Code.{helper, Role, role_code, temp}
use Rattle.def_meaning.specs.Store.{Store}
use Rattle.law_sweep.specs.Pairs.{SamePlain}

-- the helpers of loops and branches are as they were
pub record SameLoops (s s' : Store ℤ) : Type 0 where
  pub at : (r : Role) (i c : ℕ) → 1 < role_code r → s' (helper r i) c ≡ s (helper r i) c

-- the variables of the text, those helpers, and the temporaries below m are as they were
pub record SameBelow (m : ℕ) (s s' : Store ℤ) : Type 0 where
  pub plains : SamePlain s s'
  pub below : (i : ℕ) → i < m → s' (helper temp i) 0 ≡ s (helper temp i) 0
