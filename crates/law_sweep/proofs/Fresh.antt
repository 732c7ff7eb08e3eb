-- A fresh name isn't taken, and a text may have it where it may have the name wanted.
pub use Rattle.def_names.proofs.Fresh.{digits_same, digits-one, digits-last, digits_pass, digits-decimal, candidates_apart, fresh-is_free}
use Rattle.std.proofs.Common.{◌≡◌, ℕ, zero, suc, false, List, [], ◌∷◌, ◌++◌, refl, ap, ◌∙◌}
use Rattle.def_names.specs.Fresh.{digits, candidate, fresh}
use Rattle.def_sweep.specs.Naming.{begins_outside}
use Rattle.def_names.proofs.Fresh.{fresh-candidate}

pub behind-begins : (b x : List ℕ) → begins_outside b ≡ false → begins_outside x ≡ false → begins_outside (b ++ x) ≡ false
behind-begins [] x h g = g
behind-begins (a ∷ b) x h g = h

candidate-begins : (b : List ℕ) (i : ℕ) → begins_outside b ≡ false → begins_outside (candidate b i) ≡ false
candidate-begins b zero h = h
candidate-begins b (suc i) h = behind-begins b (95 ∷ digits (suc i)) h refl

pub fresh-begins : (b : List ℕ) (taken : List (List ℕ)) → begins_outside b ≡ false → begins_outside (fresh b taken) ≡ false
fresh-begins b taken h = let c = fresh-candidate b taken in ap begins_outside c.1 ∙ candidate-begins b c.0 h
