-- Values or traps that are alike.
use Rattle.std.proofs.Common.{◌≡◌, refl, subst}
use Rattle.std.specs.Prelude.{Result, Ok, Err}
use Rattle.def_meaning.specs.Trap.{Trap, then_ok}

-- both are traps of one kind, or values that are alike
abbrev pub AlikeResults : {A B : Type 0} → (A → B → Type 0) → Result A Trap → Result B Trap → Type 0
AlikeResults R (Ok a) (Ok b) = R a b
AlikeResults R (Ok a) (Err t) = ⊥
AlikeResults R (Err t) (Ok b) = ⊥
AlikeResults R (Err t) (Err t') = t ≡ t'

-- what goes on from values that are alike may be alike
pub results_then : {A B A' B' : Type 0} (R : A → A' → Type 0) (Q : B → B' → Type 0) (v : Result A Trap) (w : Result A' Trap) (f : A → Result B Trap) (g : A' → Result B' Trap) → AlikeResults R v w → ((a : A) (b : A') → R a b → AlikeResults Q (f a) (g b)) → AlikeResults Q (then_ok v f) (then_ok w g)
results_then R Q (Ok a) (Ok b) f g e d = d a b e
results_then R Q (Ok a) (Err t) f g e d = absurd e
results_then R Q (Err t) (Ok b) f g e d = absurd e
results_then R Q (Err t) (Err t') f g e d = e

-- and from values that are the same
pub results_same : {A B B' : Type 0} (Q : B → B' → Type 0) (v w : Result A Trap) (f : A → Result B Trap) (g : A → Result B' Trap) → v ≡ w → ((a : A) → v ≡ Ok a → AlikeResults Q (f a) (g a)) → AlikeResults Q (then_ok v f) (then_ok w g)
results_same Q (Ok a) w f g e d = subst (λ z. AlikeResults Q (f a) (then_ok z g)) e (d a refl)
results_same Q (Err t) w f g e d = subst (λ z. AlikeResults Q (Err t) (then_ok z g)) e refl
