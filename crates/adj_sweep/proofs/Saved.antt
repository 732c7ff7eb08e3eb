-- Actuals that are saved, at the end of the dummies.
use Rattle.std.proofs.Common.{◌≡◌, ℕ, ◌≤◌, Bool, false, List, [], ◌∷◌, length, drop, refl, ap, ◌∙◌}
use Rattle.std.proofs.lemmas.List.{drop_all}
use Rattle.adj_sweep.specs.declared.callees.Dummy.{Dummy}
use Rattle.adj_sweep.specs.Uses.{saves_some}

saves_without : (saved : List ℕ → Bool) (given : List (List ℕ)) → saves_some saved [] given ≡ false
saves_without saved [] = refl
saves_without saved (a ∷ given) = refl

-- no actual is saved without a dummy
pub saves_past : (saved : List ℕ → Bool) (ds : List Dummy) (n : ℕ) (given : List (List ℕ)) → length ds ≤ n → saves_some saved (drop n ds) given ≡ false
saves_past saved ds n given h = ap (λ z. saves_some saved z given) (drop_all n ds h) ∙ saves_without saved given
