-- A run that found its tape full, or is the same as another: how such pairs are put together.
use Rattle.std.proofs.Common.{◌≡◌, ℕ, zero, suc, Bool, true, false, List, [], ◌∷◌, refl, ap, subst}
use Rattle.std.specs.Prelude.{Result, Ok, Err, if◌then◌else◌}
use Rattle.def_meaning.specs.Trap.{Trap}
use Rattle.def_meaning.specs.Scene.{Stand, Outcome, Done, Trapped, More, Full, then_do, with_value, counted, with_top}

-- the first run found its tape full, or both are the same
pub data Kept {A : Type 0} (o o' : Outcome A) : Type 0 where
  full : (w : Stand) → o ≡ Full w → Kept o o'
  same : o ≡ o' → Kept o o'

-- what goes on from both
pub kept_then : {A B : Type 0} (o o' : Outcome A) (f f' : A → ℕ → Outcome B) → Kept o o' → ((a : A) (k : ℕ) → Kept (f a k) (f' a k)) → Kept (then_do o f) (then_do o' f')
kept_then o o' f f' (full w e) h = full w (ap (λ z. then_do z f) e)
kept_then {A} {B} o o' f f' (same e) h = subst (λ z. Kept (then_do o f) (then_do z f')) e (go o)
  where
    go : (z : Outcome A) → Kept (then_do z f) (then_do z f')
    go (Done a k) = h a k
    go (Trapped t line w) = same refl
    go (More w) = same refl
    go (Full w) = same refl

-- one statement is counted in both
pub kept_counted : {B : Type 0} (w : Stand) (k : ℕ) (f f' : ℕ → Outcome B) → ((j : ℕ) → Kept (f j) (f' j)) → Kept (counted w k f) (counted w k f')
kept_counted w zero f f' h = same refl
kept_counted w (suc k) f f' h = h k

-- one of two branches
pub kept_if : {B : Type 0} (b : Bool) (o p o' p' : Outcome B) → Kept o o' → Kept p p' → Kept (if b then o else p) (if b then o' else p')
kept_if true o p o' p' h g = h
kept_if false o p o' p' h g = g

-- what follows a value
pub kept_value : {A B : Type 0} (v v' : Result A Trap) (line : ℕ) (w : Stand) (f f' : A → Outcome B) → v ≡ v' → ((a : A) → Kept (f a) (f' a)) → Kept (with_value v line w f) (with_value v' line w f')
kept_value {A} {B} v v' line w f f' e h = subst (λ z. Kept (with_value v line w f) (with_value z line w f')) e (go v)
  where
    go : (z : Result A Trap) → Kept (with_value z line w f) (with_value z line w f')
    go (Ok a) = h a
    go (Err t) = same refl

-- what follows the word on top
pub kept_top : {B C : Type 0} (cs : List C) (line : ℕ) (w : Stand) (f f' : C → List C → Outcome B) → ((c : C) (t : List C) → Kept (f c t) (f' c t)) → Kept (with_top cs line w f) (with_top cs line w f')
kept_top [] line w f f' h = same refl
kept_top (c ∷ cs) line w f f' h = h c cs
