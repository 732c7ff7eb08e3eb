-- Helpers that a set has.
use Rattle.std.proofs.Common.{◌≡◌, ℕ, Bool, false, List, [], ◌∷◌, ◌++◌, map, length, drop, get_or, nat_lt, cond, ◌+◌, ◌<◌, Some, None, refl, sym, ap, ◌∙◌, subst, append_assoc, if◌then◌else◌}
use Rattle.std.specs.Prelude.{◌||◌, ◌&&◌, ◌==◌, not, position}
use Rattle.std.specs.List.{list_any, position_or_len}
use Rattle.std.proofs.lemmas.List.{length-map, map-append}
use Rattle.adj_tree.specs.Code.{Var, var_eq, role_code}
use Rattle.def_names.proofs.Variables.{or_false, or_assoc, var_comm}
use Rattle.adj_naming.specs.declared.role.Helper.{Helper}
use Rattle.adj_naming.specs.Roles.{role_of, variable_of}
use Rattle.adj_naming.specs.declared.role.Role.{Role}
use Rattle.adj_naming.specs.declared.role.Role.TheVariants.{Work, Temp, Control, First, Stride, Count, Turn, Entry, Entries, Kind, Lower, Upper, Slots}
use Rattle.adj_naming.specs.Sets.{has_variable, AreDifferent}
use Rattle.adj_naming.specs.contracts.role.RolePartialEq.TheImpl.{eq-value as role_eq}
use Rattle.adj_naming.specs.contracts.role.HelperPartialEq.TheImpl.{eq-value as helper_eq}
use Rattle.adj_naming.proofs.Places.{from_here}

-- roles are the same where their numbers are
role_same : (a b : Role) → role_eq.it a b ≡ (role_code (role_of a) == role_code (role_of b))
role_same Work Work = refl
role_same Temp Temp = refl
role_same Control Control = refl
role_same First First = refl
role_same Stride Stride = refl
role_same Count Count = refl
role_same Turn Turn = refl
role_same Entry Entry = refl
role_same Entries Entries = refl
role_same Kind Kind = refl
role_same Lower Lower = refl
role_same Upper Upper = refl
role_same Slots Slots = refl
role_same a b = refl

-- helpers are the same where their variables are
pub helper_same : (a b : Helper) → helper_eq.it a b ≡ var_eq (variable_of a) (variable_of b)
helper_same a b = ap (λ t. t && (a.number == b.number)) (role_same a.role b.role)

-- by a test of helpers that is the one of variables
module _ (eq : Helper → Helper → Bool) (same : (a b : Helper) → eq a b ≡ var_eq (variable_of a) (variable_of b)) (h : Helper) where
  -- whether the helper is there
  pub any_variable : (hs : List Helper) → list_any (eq h) hs ≡ has_variable (variable_of h) (map variable_of hs)
  any_variable [] = refl
  any_variable (g ∷ hs) = λ i. same h g i || any_variable hs i

  place_variable : (hs : List Helper) → position_or_len (eq h) hs ≡ position_or_len (var_eq (variable_of h)) (map variable_of hs)
  place_variable [] = refl
  place_variable (g ∷ hs) = λ i. cond (not (same h g i)) (1 + place_variable hs i) 0

  -- where it stands
  pub position_variable : (hs : List Helper) → position (eq h) hs ≡ position (var_eq (variable_of h)) (map variable_of hs)
  position_variable hs = λ i. cond (nat_lt (place_variable hs i) (sym (length-map hs variable_of) i)) (Some (place_variable hs i)) None

  -- it is added where it isn't there
  pub added_variable : (hs : List Helper) → (if list_any (eq h) hs then hs else hs ++ h ∷ []) ≡ (if has_variable (variable_of h) (map variable_of hs) then hs else hs ++ h ∷ [])
  added_variable hs = ap (λ b. if b then hs else hs ++ h ∷ []) (any_variable hs)

-- ---- different helpers

-- a member isn't among those before it
before : (vs ws : List Var) (v : Var) → AreDifferent (vs ++ v ∷ ws) → has_variable v vs ≡ false
before [] ws v d = refl
before (u ∷ vs) ws v d =
    let behind = or_false (var_eq u v) (has_variable u ws) (or_false (has_variable u vs) (has_variable u (v ∷ ws)) (sym (has_variable-append u vs (v ∷ ws)) ∙ d.0)).1 in
    λ i. var_comm u v behind.0 i || before vs ws v d.1 i
  where
    has_variable-append : (u : Var) (vs ws : List Var) → has_variable u (vs ++ ws) ≡ (has_variable u vs || has_variable u ws)
    has_variable-append u [] ws = refl
    has_variable-append u (v ∷ vs) ws = ap (λ b. var_eq u v || b) (has_variable-append u vs ws) ∙ sym (or_assoc (var_eq u v) (has_variable u vs) (has_variable u ws))

-- the next of different helpers is added as the last one
pub next_added : (set hs longer : List Helper) (h : Helper) (i : ℕ) → AreDifferent (map variable_of hs) → set ++ drop i hs ≡ hs → i < length hs → h ≡ get_or hs i h → longer ≡ (if has_variable (variable_of h) (map variable_of set) then set else set ++ h ∷ []) → longer ++ drop (i + 1) hs ≡ hs
next_added set hs longer h i d e lt at is =
    let rest = drop (i + 1) hs in
    let parts : set ++ h ∷ rest ≡ hs = ap (λ z. set ++ z) (sym (from_here hs i h lt at)) ∙ e in
    let apart : AreDifferent (map variable_of set ++ variable_of h ∷ map variable_of rest) = subst AreDifferent (map-append variable_of set (h ∷ rest)) (subst (λ z. AreDifferent (map variable_of z)) (sym parts) d) in
    ap (λ z. z ++ rest) (is ∙ ap (λ b. if b then set else set ++ h ∷ []) (before (map variable_of set) (map variable_of rest) (variable_of h) apart)) ∙ append_assoc set (h ∷ []) rest ∙ parts
