-- Helpers of different roles and numbers are different.
use Rattle.std.proofs.Common.{◌≡◌, ℕ, zero, suc, Bool, true, false, List, [], ◌∷◌, ◌++◌, ◌+◌, ◌-◌, ◌<◌, map, refl, sym, ap, ◌∙◌, arith, append_assoc, add-one}
use Rattle.std.specs.Prelude.{◌||◌, ◌&&◌, ◌==◌}
use Rattle.std.proofs.lemmas.List.{map_push}
use Rattle.adj_tree.specs.Code.{Var, plain, shadow, helper, var_eq, role_code}
use Rattle.adj_tree.specs.Code as code
use Rattle.adj_tree.proofs.Names.{nat_same, nat_refl}
use Rattle.def_sweep.specs.Declared.{helpers_from}
use Rattle.def_names.proofs.Variables.{or_assoc, or_right, not_true}
use Rattle.def_meaning.proofs.Variables.{var_refl, var_same}
use Rattle.adj_naming.specs.declared.role.Role.{Role}
use Rattle.adj_naming.specs.declared.role.Helper.{Helper}
use Rattle.adj_naming.specs.Roles.{role_of, variable_of}
use Rattle.adj_naming.specs.Sets.{has_variable, AreDifferent}

-- one helper more stands behind the others
pub helper_pushed : (r : Role) (made : List Helper) (done count : ℕ) → done < count → map variable_of (made ++ (record { role = r; number = done + 1 } ∷ [])) ++ helpers_from (role_of r) (suc (done + 1)) (count - (done + 1)) ≡ map variable_of made ++ helpers_from (role_of r) (suc done) (count - done)
helper_pushed r made done count lt =
    let q = role_of r in
    let h : Helper = record { role = r; number = done + 1 } in
    let left : count - done ≡ suc (count - (done + 1)) = omega arith in
    let others = helpers_from q (suc (suc done)) (count - (done + 1)) in
    ap (λ k. map variable_of (made ++ (h ∷ [])) ++ helpers_from q (suc k) (count - (done + 1))) (add-one done)
    ∙ ap (λ z. z ++ others) (map_push variable_of made h)
    ∙ append_assoc (map variable_of made) (variable_of h ∷ []) others
    ∙ ap (λ k. map variable_of made ++ (helper q k ∷ others)) (add-one done)
    ∙ ap (λ m. map variable_of made ++ helpers_from q (suc done) m) (sym left)

-- ---- lists of helpers of a role

-- whether a variable is a helper of the role
abbrev pub is_of : code.Role → Var → Bool
is_of r (plain x) = false
is_of r (shadow x) = false
is_of r (helper q i) = role_code q == role_code r

-- each variable of the list is one
abbrev pub AreOf : code.Role → List Var → Type 0
AreOf r [] = Unit {0}
AreOf r (v ∷ vs) = (is_of r v ≡ true) × AreOf r vs

-- what the list has is one
of_role : (r : code.Role) (vs : List Var) (v : Var) → AreOf r vs → has_variable v vs ≡ true → is_of r v ≡ true
of_role r [] v a h = cc
of_role r (w ∷ vs) v a h = go (var_eq v w) refl h (of_role r vs v a.1)
  where
    go : (b : Bool) → var_eq v w ≡ b → (b || has_variable v vs) ≡ true → (has_variable v vs ≡ true → is_of r v ≡ true) → is_of r v ≡ true
    go true e g ih = ap (is_of r) (var_same v w e) ∙ a.0
    go false e g ih = ih g

-- one of another role isn't in the list
unlike : (r : code.Role) (vs : List Var) (v : Var) → AreOf r vs → is_of r v ≡ false → has_variable v vs ≡ false
unlike r vs v a h = not_true (has_variable v vs) (λ e. let is : is_of r v ≡ true = of_role r vs v a e in cc)

roles_apart : (q r : code.Role) (v : Var) → (role_code q == role_code r) ≡ false → is_of q v ≡ true → is_of r v ≡ false
roles_apart q r (plain x) h e = refl
roles_apart q r (shadow x) h e = refl
roles_apart q r (helper p i) h e = ap (λ n. n == role_code r) (nat_same (role_code p) (role_code q) e) ∙ h

-- lists of different roles have no variable in common
pub none_common : (q r : code.Role) (vs ws : List Var) → (role_code q == role_code r) ≡ false → AreOf q vs → AreOf r ws → (v : Var) → has_variable v vs ≡ true → has_variable v ws ≡ false
none_common q r vs ws h a b v e = unlike r ws v b (roles_apart q r v h (of_role q vs v a e))

pub has_variable-append : (u : Var) (vs ws : List Var) → has_variable u (vs ++ ws) ≡ (has_variable u vs || has_variable u ws)
has_variable-append u [] ws = refl
has_variable-append u (v ∷ vs) ws = ap (λ b. var_eq u v || b) (has_variable-append u vs ws) ∙ sym (or_assoc (var_eq u v) (has_variable u vs) (has_variable u ws))

-- two lists that have no variable in common
pub different-append : (vs ws : List Var) → AreDifferent vs → AreDifferent ws → ((v : Var) → has_variable v vs ≡ true → has_variable v ws ≡ false) → AreDifferent (vs ++ ws)
different-append [] ws a b h = b
different-append (v ∷ vs) ws a b h =
    let here : has_variable v (v ∷ vs) ≡ true = ap (λ t. t || has_variable v vs) (var_refl v) in
    (has_variable-append v vs ws ∙ (λ i. a.0 i || h v here i), different-append vs ws a.1 b (λ w e. h w (or_right (var_eq w v) (has_variable w vs) e)))

-- ---- helpers with numbers that rise

-- a lower number isn't there
lower : (r : code.Role) (i k n : ℕ) → i < k → has_variable (helper r i) (helpers_from r k n) ≡ false
lower r i k zero h = refl
lower r i k (suc n) h =
    let e : (i == k) ≡ false = grind arith in
    (λ j. (nat_refl (role_code r) j && e j) || has_variable (helper r i) (helpers_from r (suc k) n)) ∙ lower r i (suc k) n (omega arith)

pub different-from : (r : code.Role) (k n : ℕ) → AreDifferent (helpers_from r k n)
different-from r k zero = tt
different-from r k (suc n) = (lower r k (suc k) n (omega arith), different-from r (suc k) n)

pub are_of-from : (r : code.Role) (k n : ℕ) → AreOf r (helpers_from r k n)
are_of-from r k zero = tt
are_of-from r k (suc n) = (nat_refl (role_code r), are_of-from r (suc k) n)
