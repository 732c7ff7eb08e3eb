-- Sets of variables.
use Rattle.std.proofs.Common.{◌≡◌, Bool, true, false, refl, sym, ap, ◌∙◌}
use Rattle.std.specs.Prelude.{◌&&◌, not}
use Rattle.adj_tree.specs.Code.{Var}
use Rattle.def_names.specs.Numbers.{Vars}
use Rattle.def_sweep.specs.Facts.{In, without}

-- both parts hold
pub both : (a b : Bool) → (a && b) ≡ true → (a ≡ true) × (b ≡ true)
both true b h = (refl, h)
both false b h = absurd cc

pub isnt : (b : Bool) → not b ≡ true → b ≡ false
isnt true h = absurd cc
isnt false h = refl

-- what is left of a set without another
pub left_in : (a b : Vars) (v : Var) → In v (without a b) → In v a
left_in a b v h = (both (a v) (not (b v)) h).0

pub left_out : (a b : Vars) (v : Var) → In v (without a b) → b v ≡ false
left_out a b v h = isnt (b v) (both (a v) (not (b v)) h).1

pub and_both : {a b : Bool} → a ≡ true → b ≡ true → (a && b) ≡ true
and_both {a} {b} h e = ap (λ z. z && b) h ∙ e

pub left_make : (a b : Vars) (v : Var) → In v a → b v ≡ false → In v (without a b)
left_make a b v h e = and_both h (ap not e)

pub and_false : (b : Bool) → (b && false) ≡ false
and_false true = refl
and_false false = refl

-- two truth values that hold together are the same
pub same_truth : (b c : Bool) → (b ≡ true → c ≡ true) → (c ≡ true → b ≡ true) → b ≡ c
same_truth true true f g = refl
same_truth true false f g = sym (f refl)
same_truth false true f g = g refl
same_truth false false f g = refl
