-- What the table of a unit's names has.
use Rattle.std.proofs.Common.{◌≡◌, ℕ, zero, suc, false, true, List, [], ◌∷◌, ◌++◌, ◌<◌, map, length, get_or, slice_get, Some, refl, sym, ap, ◌∙◌, subst, arith, append-nil, if◌then◌else◌}
use Rattle.std.specs.Prelude.{◌||◌, position, unwrap_or}
use Rattle.std.proofs.lemmas.List.{length-map}
use Rattle.std.proofs.lemmas.List.Quantifiers.{position-Some}
use Rattle.adj_tree.specs.Code.{Var, plain, shadow, name_eq, var_eq}
use Rattle.def_meaning.specs.Apart.{has_name}
use Rattle.def_sweep.specs.Naming.{Named, own, outside, name_in}
use Rattle.def_names.proofs.Variables.{or_false}
use Rattle.adj_naming.specs.declared.names.Names.{Names}
use Rattle.adj_naming.specs.declared.role.Helper.{Helper}
use Rattle.adj_naming.specs.Roles.{variable_of}
use Rattle.adj_naming.specs.Sets.{has_variable}
use Rattle.adj_naming.specs.Table.{paired, table_of}

-- ---- names in a list

-- a variable that isn't of the text is passed in the unit's own
own_passed : (v : Var) → ((x : List ℕ) → var_eq v (plain x) ≡ false) → (xs : List (List ℕ)) (rest : List Named) → name_in (map own xs ++ rest) v ≡ name_in rest v
own_passed v h [] rest = refl
own_passed v h (x ∷ xs) rest = ap (λ b. if b then x else name_in (map own xs ++ rest) v) (h x) ∙ own_passed v h xs rest

-- so is one that the list doesn't have
passed : (vs : List Var) (ns : List (List ℕ)) (rest : List Named) (v : Var) → has_variable v vs ≡ false → name_in (paired vs ns ++ rest) v ≡ name_in rest v
passed [] ns rest v h = refl
passed (w ∷ vs) [] rest v h = refl
passed (w ∷ vs) (n ∷ ns) rest v h =
    let apart = or_false (var_eq v w) (has_variable v vs) h in
    ap (λ b. if b then n else name_in (paired vs ns ++ rest) v) apart.0 ∙ passed vs ns rest v apart.1

none_there : (vs : List Var) (ns : List (List ℕ)) (v : Var) → has_variable v vs ≡ false → name_in (paired vs ns) v ≡ outside v
none_there vs ns v h = ap (λ t. name_in t v) (sym (append-nil (paired vs ns))) ∙ passed vs ns [] v h

-- the variable at i, and at no place before, has the name at i
placed : (vs : List Var) (ns : List (List ℕ)) (rest : List Named) (v w : Var) (i : ℕ) → i < length vs → var_eq v (get_or vs i w) ≡ true → ((k : ℕ) → k < i → var_eq v (get_or vs k w) ≡ false) → name_in (paired vs ns ++ rest) v ≡ unwrap_or (slice_get ns i) (name_in rest v)
placed [] ns rest v w i lt here before = absurd (omega arith)
placed (u ∷ vs) [] rest v w i lt here before = refl
placed (u ∷ vs) (n ∷ ns) rest v w zero lt here before = ap (λ b. if b then n else name_in (paired vs ns ++ rest) v) here
placed (u ∷ vs) (n ∷ ns) rest v w (suc i) lt here before =
    ap (λ b. if b then n else name_in (paired vs ns ++ rest) v) (before 0 (omega arith))
    ∙ placed vs ns rest v w i (omega arith) here (λ k h. before (suc k) (omega arith))

-- ---- shadows

helper_unlike : (hs : List Helper) (x : List ℕ) → has_variable (shadow x) (map variable_of hs) ≡ false
helper_unlike [] x = refl
helper_unlike (h ∷ hs) x = helper_unlike hs x

has_shadow : (x : List ℕ) (xs : List (List ℕ)) → has_variable (shadow x) (map shadow xs) ≡ has_name x xs
has_shadow x [] = refl
has_shadow x (y ∷ xs) = ap (λ b. name_eq x y || b) (has_shadow x xs)

shadow_at : (xs : List (List ℕ)) (k : ℕ) → get_or (map shadow xs) k (shadow []) ≡ shadow (get_or xs k [])
shadow_at [] k = refl
shadow_at (x ∷ xs) zero = refl
shadow_at (x ∷ xs) (suc k) = shadow_at xs k

-- the name of the shadow of the variable at i
pub shadow_placed : (n : Names) (x : List ℕ) (i : ℕ) → position (name_eq x) n.shadowed ≡ Some i → unwrap_or (slice_get n.shadows i) (outside (shadow x)) ≡ name_in (table_of n) (shadow x)
shadow_placed n x i h =
    let at = position-Some (name_eq x) n.shadowed i [] h in
    let helpers = paired (map variable_of n.helpers) n.helper_names in
    let within : i < length (map shadow n.shadowed) = subst (λ m. i < m) (sym (length-map n.shadowed shadow)) at.0 in
    sym (own_passed (shadow x) (λ y. refl) n.variables (paired (map shadow n.shadowed) n.shadows ++ helpers)
    ∙ placed (map shadow n.shadowed) n.shadows helpers (shadow x) (shadow []) i within (ap (var_eq (shadow x)) (shadow_at n.shadowed i) ∙ at.1) (λ k lt. ap (var_eq (shadow x)) (shadow_at n.shadowed k) ∙ at.2 k lt)
    ∙ ap (unwrap_or (slice_get n.shadows i)) (none_there (map variable_of n.helpers) n.helper_names (shadow x) (helper_unlike n.helpers x)))

-- what has no shadow has one outside all texts
pub shadow_absent : (n : Names) (x : List ℕ) → has_name x n.shadowed ≡ false → outside (shadow x) ≡ name_in (table_of n) (shadow x)
shadow_absent n x h =
    let helpers = paired (map variable_of n.helpers) n.helper_names in
    sym (own_passed (shadow x) (λ y. refl) n.variables (paired (map shadow n.shadowed) n.shadows ++ helpers)
    ∙ passed (map shadow n.shadowed) n.shadows helpers (shadow x) (has_shadow x n.shadowed ∙ h)
    ∙ none_there (map variable_of n.helpers) n.helper_names (shadow x) (helper_unlike n.helpers x))

-- ---- helpers

shadow_unlike : (xs : List (List ℕ)) (h : Helper) → has_variable (variable_of h) (map shadow xs) ≡ false
shadow_unlike [] h = refl
shadow_unlike (x ∷ xs) h = shadow_unlike xs h

-- what comes before the helpers is passed
to_helpers : (n : Names) (h : Helper) → name_in (table_of n) (variable_of h) ≡ name_in (paired (map variable_of n.helpers) n.helper_names) (variable_of h)
to_helpers n h =
    let helpers = paired (map variable_of n.helpers) n.helper_names in
    own_passed (variable_of h) (λ y. refl) n.variables (paired (map shadow n.shadowed) n.shadows ++ helpers) ∙ passed (map shadow n.shadowed) n.shadows helpers (variable_of h) (shadow_unlike n.shadowed h)

-- the name of the helper at i
pub helper_placed : (n : Names) (h : Helper) (i : ℕ) → position (var_eq (variable_of h)) (map variable_of n.helpers) ≡ Some i → unwrap_or (slice_get n.helper_names i) (outside (variable_of h)) ≡ name_in (table_of n) (variable_of h)
helper_placed n h i p =
    let v = variable_of h in
    let vs = map variable_of n.helpers in
    let at = position-Some (var_eq v) vs i v p in
    sym (to_helpers n h ∙ ap (λ t. name_in t v) (sym (append-nil (paired vs n.helper_names))) ∙ placed vs n.helper_names [] v v i at.0 at.1 at.2)

-- a helper that the unit doesn't have has a name outside all texts
pub helper_absent : (n : Names) (h : Helper) → has_variable (variable_of h) (map variable_of n.helpers) ≡ false → outside (variable_of h) ≡ name_in (table_of n) (variable_of h)
helper_absent n h absent = sym (to_helpers n h ∙ none_there (map variable_of n.helpers) n.helper_names (variable_of h) absent)
