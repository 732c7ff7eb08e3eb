-- When truth values and variables are the same.
use Rattle.std.proofs.Common.{◌≡◌, ℕ, Bool, true, false, List, refl, subst}
use Rattle.std.specs.Prelude.{◌&&◌, ◌||◌}
use Rattle.adj_tree.specs.Code.{Var, name_eq, var_eq}
use Rattle.adj_tree.proofs.Names.{name_same}
use Rattle.def_meaning.specs.Apart.{has_name}
use Rattle.def_meaning.proofs.Variables.{var_refl, var_same}

pub and_true : (a b : Bool) → (a && b) ≡ true → (a ≡ true) × (b ≡ true)
and_true true b h = (refl, h)
and_true false b h = (h, cc)

pub or_false : (a b : Bool) → (a || b) ≡ false → (a ≡ false) × (b ≡ false)
or_false true b h = (h, cc)
or_false false b h = (refl, h)

pub or_assoc : (a b c : Bool) → ((a || b) || c) ≡ (a || (b || c))
or_assoc true b c = refl
or_assoc false b c = refl

pub or_left : (a b : Bool) → a ≡ true → (a || b) ≡ true
or_left true b h = refl
or_left false b h = cc

pub or_right : (a b : Bool) → b ≡ true → (a || b) ≡ true
or_right true b h = refl
or_right false b h = h

-- a truth value that isn't true is false
pub not_true : (b : Bool) → (b ≡ true → ⊥) → b ≡ false
not_true true h = absurd (h refl)
not_true false h = refl

pub var_comm : (v w : Var) → var_eq v w ≡ false → var_eq w v ≡ false
var_comm v w h = not_true (var_eq w v) (λ e. let p : var_eq v w ≡ true = subst (λ z. var_eq z w ≡ true) (var_same w v e) (var_refl w) in cc)

-- a name that stands in a list differs from one that doesn't
pub has_apart : (x y : List ℕ) (ys : List (List ℕ)) → has_name x ys ≡ true → has_name y ys ≡ false → name_eq x y ≡ false
has_apart x y ys h n = not_true (name_eq x y) (λ e. let p : has_name y ys ≡ true = subst (λ z. has_name z ys ≡ true) (name_same x y e) h in cc)
