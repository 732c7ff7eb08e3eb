-- When two variables or names are the same.
use Rattle.std.proofs.Common.{◌≡◌, ℕ, zero, suc, Bool, true, false, List, refl, sym, ap, ◌∙◌}
use Rattle.std.specs.Prelude.{◌==◌}
use Rattle.adj_tree.specs.Code.{Role, work, temp, control, first, stride, count, turn, entry, entries, kind, lower, upper, slots, role_code, Var, plain, shadow, helper, name_eq, var_eq}
use Rattle.def_meaning.proofs.Booleans.{and_true}
use Rattle.adj_tree.proofs.Names.{nat_same, nat_refl, name_refl, name_same}

-- names that differ do so in either order
pub name_comm : (x y : List ℕ) → name_eq x y ≡ false → name_eq y x ≡ false
name_comm x y h = go (name_eq y x) refl
  where
    go : (b : Bool) → name_eq y x ≡ b → b ≡ false
    go true e = let p : name_eq x y ≡ true = ap (λ z. name_eq z y) (sym (name_same y x e)) ∙ name_refl y in sym p ∙ h
    go false e = refl

-- each variable compares equal to itself
pub var_refl : (x : Var) → var_eq x x ≡ true
var_refl (plain x) = name_refl x
var_refl (shadow x) = name_refl x
var_refl (helper r j) = rw (nat_refl (role_code r), nat_refl j) refl

-- the role of a number
role_of : ℕ → Role
role_of zero = work
role_of (suc zero) = temp
role_of (suc (suc zero)) = control
role_of (suc (suc (suc zero))) = first
role_of (suc (suc (suc (suc zero)))) = stride
role_of (suc (suc (suc (suc (suc zero))))) = count
role_of (suc (suc (suc (suc (suc (suc zero)))))) = turn
role_of (suc (suc (suc (suc (suc (suc (suc zero))))))) = entry
role_of (suc (suc (suc (suc (suc (suc (suc (suc zero)))))))) = entries
role_of (suc (suc (suc (suc (suc (suc (suc (suc (suc zero))))))))) = kind
role_of (suc (suc (suc (suc (suc (suc (suc (suc (suc (suc zero)))))))))) = lower
role_of (suc (suc (suc (suc (suc (suc (suc (suc (suc (suc (suc zero))))))))))) = upper
role_of (suc (suc (suc (suc (suc (suc (suc (suc (suc (suc (suc (suc n)))))))))))) = slots

-- no two roles have one number
role_back : (r : Role) → role_of (role_code r) ≡ r
unfolding role_of
role_back work = refl
role_back temp = refl
role_back control = refl
role_back first = refl
role_back stride = refl
role_back count = refl
role_back turn = refl
role_back entry = refl
role_back entries = refl
role_back kind = refl
role_back lower = refl
role_back upper = refl
role_back slots = refl

-- variables that compare equal are equal
pub var_same : (x y : Var) → var_eq x y ≡ true → x ≡ y
var_same (plain x) (plain y) h = ap plain (name_same x y h)
var_same (plain x) (shadow y) h = absurd cc
var_same (plain x) (helper r j) h = absurd cc
var_same (shadow x) (plain y) h = absurd cc
var_same (shadow x) (shadow y) h = ap shadow (name_same x y h)
var_same (shadow x) (helper r j) h = absurd cc
var_same (helper r j) (plain y) h = absurd cc
var_same (helper r j) (shadow y) h = absurd cc
var_same (helper r j) (helper o k) h =
    let p = and_true (role_code r == role_code o) (j == k) h in
    let role : r ≡ o = sym (role_back r) ∙ ap role_of (nat_same (role_code r) (role_code o) p.0) ∙ role_back o in
    λ i. helper (role i) (nat_same j k p.1 i)
