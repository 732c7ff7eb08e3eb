-- The naming of a unit tells all variables apart.
use Rattle.std.proofs.Common.{◌≡◌, ℕ, Bool, true, false, List, ◌∷◌, ◌++◌, map, refl, sym, ap, ◌∙◌, subst, arith, if◌then◌else◌, codes}
use Rattle.std.specs.Prelude.{◌==◌, ◌&&◌, ◌||◌, []}
use Rattle.adj_tree.specs.Code.{role_code, work, temp, control, first, stride, count, turn, entry, entries, kind, lower, upper, slots, Var, plain, shadow, helper, name_eq, var_eq}
use Rattle.def_names.specs.Fresh.{digits, fresh}
use Rattle.def_meaning.specs.Apart.{has_name, AreApart}
use Rattle.def_names.specs.Reserved.{reserved}
use Rattle.def_sweep.specs.Naming.{Derived, adjoint_text, tangent_text, wanted_for, Named, own, named_for, unit_names_for, unit_names, outside, name_in, naming, begins_outside, AreInside, names}
use Rattle.adj_tree.proofs.Names.{nat_same, name_refl, name_same}
use Rattle.def_names.proofs.Variables.{or_right, or_false, not_true, var_comm, has_apart}
use Rattle.def_meaning.proofs.Variables.{name_comm, var_refl, var_same}
use Rattle.def_names.proofs.Fresh.{digits_same, fresh-is_free}
use Rattle.law_sweep.proofs.Fresh.{fresh-begins, behind-begins}
use Rattle.def_names.proofs.NameLists.{apart-append, has-append}

-- ---- a table of names tells apart

outside-begins : (v : Var) → begins_outside (outside v) ≡ true
outside-begins (plain x) = refl
outside-begins (shadow x) = refl
outside-begins (helper r k) = refl

-- names of which one begins outside differ
begins_apart : (x y : List ℕ) → begins_outside x ≡ true → begins_outside y ≡ false → name_eq x y ≡ false
begins_apart x y h n = not_true (name_eq x y) (λ e. let p : begins_outside y ≡ true = subst (λ z. begins_outside z ≡ true) (name_same x y e) h in cc)

-- digits are compared as their numbers
digits_apart : (j k : ℕ) → name_eq (digits j) (digits k) ≡ (j == k)
digits_apart j k = go (j == k) refl
  where
    go : (t : Bool) → (j == k) ≡ t → name_eq (digits j) (digits k) ≡ t
    go true e = ap (λ z. name_eq (digits j) (digits z)) (sym (nat_same j k e)) ∙ name_refl (digits j)
    go false e = not_true (name_eq (digits j) (digits k)) (λ h. let p : j ≡ k = digits_same j k (name_same (digits j) (digits k) h) in absurd (grind arith))

-- the names outside are apart
outside_apart : (v w : Var) → name_eq (outside v) (outside w) ≡ var_eq v w
outside_apart (plain x) (plain y) = refl
outside_apart (plain x) (shadow y) = refl
outside_apart (plain x) (helper b k) = refl
outside_apart (shadow x) (plain y) = refl
outside_apart (shadow x) (shadow y) = refl
outside_apart (shadow x) (helper b k) = refl
outside_apart (helper a j) (plain y) = refl
outside_apart (helper a j) (shadow y) = refl
outside_apart (helper a j) (helper b k) = ap (λ t. (role_code a == role_code b) && t) (digits_apart j k)

-- a name that isn't in the table and is of a text is no name that the table gives
never_named : (x : List ℕ) (ps : List Named) (v : Var) → has_name x (names ps) ≡ false → begins_outside x ≡ false → name_eq x (name_in ps v) ≡ false
never_named x [] v h n = name_comm (outside v) x (begins_apart (outside v) x (outside-begins v) n)
never_named x (p ∷ ps) v h n = go (var_eq v p.variable) (never_named x ps v (or_false (name_eq x p.name) (has_name x (names ps)) h).1 n)
  where
    go : (b : Bool) → name_eq x (name_in ps v) ≡ false → name_eq x (if b then p.name else name_in ps v) ≡ false
    go true ih = (or_false (name_eq x p.name) (has_name x (names ps)) h).0
    go false ih = ih

-- names that are apart and of a text tell all variables apart
pub naming-apart : (ps : List Named) → AreApart (names ps) → AreInside (names ps) → (v w : Var) → var_eq (naming ps v) (naming ps w) ≡ var_eq v w
naming-apart [] a n v w = outside_apart v w
naming-apart (p ∷ ps) a n v w = go (var_eq v p.variable) refl (var_eq w p.variable) refl (naming-apart ps a.1 n.1 v w)
  where
    go : (s : Bool) → var_eq v p.variable ≡ s → (t : Bool) → var_eq w p.variable ≡ t → name_eq (name_in ps v) (name_in ps w) ≡ var_eq v w → name_eq (if s then p.name else name_in ps v) (if t then p.name else name_in ps w) ≡ var_eq v w
    go true d true e ih =
        let same : v ≡ w = var_same v p.variable d ∙ sym (var_same w p.variable e) in
        name_refl p.name ∙ sym (subst (λ z. var_eq v z ≡ true) same (var_refl v))
    go true d false e ih =
        never_named p.name ps w a.0 n.0 ∙ sym (var_comm w v (subst (λ z. var_eq w z ≡ false) (sym (var_same v p.variable d)) e))
    go false d true e ih =
        name_comm p.name (name_in ps v) (never_named p.name ps v a.0 n.0) ∙ sym (subst (λ z. var_eq v z ≡ false) (sym (var_same w p.variable e)) d)
    go false d false e ih = ih

-- ---- the names of a unit are such a table

-- what a variable is made from is of a text
abbrev pub IsInside : Var → Type 0
IsInside (plain x) = begins_outside x ≡ false
IsInside (shadow x) = begins_outside x ≡ false
IsInside (helper r k) = Unit {0}

wanted-begins : (o : Derived) (v : Var) → IsInside v → begins_outside (wanted_for o v) ≡ false
wanted-begins o (plain x) h = h
wanted-begins adjoint_text (shadow x) h = behind-begins x (codes "B") h refl
wanted-begins tangent_text (shadow x) h = behind-begins x (codes "D") h refl
wanted-begins adjoint_text (helper work k) h = refl
wanted-begins tangent_text (helper work k) h = refl
wanted-begins o (helper temp k) h = refl
wanted-begins o (helper control k) h = refl
wanted-begins o (helper first k) h = refl
wanted-begins o (helper stride k) h = refl
wanted-begins o (helper count k) h = refl
wanted-begins o (helper turn k) h = refl
wanted-begins o (helper entry k) h = refl
wanted-begins o (helper entries k) h = refl
wanted-begins o (helper kind k) h = refl
wanted-begins o (helper lower k) h = refl
wanted-begins o (helper upper k) h = refl
wanted-begins o (helper slots k) h = refl

abbrev pub AreMadeInside : List Var → Type 0
AreMadeInside [] = Unit {0}
AreMadeInside (v ∷ vs) = IsInside v × AreMadeInside vs

named-inside : (o : Derived) (taken : List (List ℕ)) (vs : List Var) → AreMadeInside vs → AreInside (names (named_for o taken vs))
named-inside o taken [] h = tt
named-inside o taken (v ∷ vs) h = (fresh-begins (wanted_for o v) taken (wanted-begins o v h.0), named-inside o (taken ++ (fresh (wanted_for o v) taken ∷ [])) vs h.1)

-- a taken name isn't made
named-free : (o : Derived) (x : List ℕ) (taken : List (List ℕ)) (vs : List Var) → has_name x taken ≡ true → has_name x (names (named_for o taken vs)) ≡ false
named-free o x taken [] h = refl
named-free o x taken (v ∷ vs) h =
    let f = fresh (wanted_for o v) taken in
    let apart : name_eq x f ≡ false = has_apart x f taken h (fresh-is_free (wanted_for o v) taken) in
    let still : has_name x (taken ++ (f ∷ [])) ≡ true = has-append x taken (f ∷ []) ∙ ap (λ b. b || has_name x (f ∷ [])) h in
    rw apart (named-free o x (taken ++ (f ∷ [])) vs still)

named-apart : (o : Derived) (taken : List (List ℕ)) (vs : List Var) → AreApart (names (named_for o taken vs))
named-apart o taken [] = tt
named-apart o taken (v ∷ vs) =
    let f = fresh (wanted_for o v) taken in
    let here : has_name f (taken ++ (f ∷ [])) ≡ true = has-append f taken (f ∷ []) ∙ or_right (has_name f taken) (has_name f (f ∷ [])) (ap (λ b. b || false) (name_refl f)) in
    (named-free o f (taken ++ (f ∷ [])) vs here, named-apart o (taken ++ (f ∷ [])) vs)

-- the names of two tables, one behind the other
names-append : (ps qs : List Named) → names (ps ++ qs) ≡ names ps ++ names qs
names-append [] qs = refl
names-append (p ∷ ps) qs = ap (λ z. p.name ∷ z) (names-append ps qs)

names-own : (xs : List (List ℕ)) → names (map own xs) ≡ xs
names-own [] = refl
names-own (x ∷ xs) = ap (λ z. x ∷ z) (names-own xs)

-- ---- own names, and those that were made

inside-append : (xs ys : List (List ℕ)) → AreInside xs → AreInside ys → AreInside (xs ++ ys)
inside-append [] ys a b = b
inside-append (x ∷ xs) ys a b = (a.0, inside-append xs ys a.1 b)

names-of_unit : (o : Derived) (xs units : List (List ℕ)) (made : List Var) → names (unit_names_for o xs units made) ≡ xs ++ names (named_for o (xs ++ (units ++ reserved)) made)
names-of_unit o xs units made =
    names-append (map own xs) (named_for o (xs ++ (units ++ reserved)) made) ∙ ap (λ z. z ++ names (named_for o (xs ++ (units ++ reserved)) made)) (names-own xs)

-- the names of a unit are apart where its own are
pub unit_names_for-apart : (o : Derived) (xs units : List (List ℕ)) (made : List Var) → AreApart xs → AreApart (names (unit_names_for o xs units made))
unit_names_for-apart o xs units made a =
    let taken = xs ++ (units ++ reserved) in
    subst AreApart (sym (names-of_unit o xs units made))
    (apart-append xs (names (named_for o taken made)) a (named-apart o taken made)
    (λ x h. named-free o x taken made (has-append x xs (units ++ reserved) ∙ ap (λ b. b || has_name x (units ++ reserved)) h)))

-- and of a text where its own are
pub unit_names_for-inside : (o : Derived) (xs units : List (List ℕ)) (made : List Var) → AreInside xs → AreMadeInside made → AreInside (names (unit_names_for o xs units made))
unit_names_for-inside o xs units made a m =
    let taken = xs ++ (units ++ reserved) in
    subst AreInside (sym (names-of_unit o xs units made)) (inside-append xs (names (named_for o taken made)) a (named-inside o taken made m))

pub unit_names-apart : (xs units : List (List ℕ)) (made : List Var) → AreApart xs → AreApart (names (unit_names xs units made))
unit_names-apart xs units made a = unit_names_for-apart adjoint_text xs units made a

pub unit_names-inside : (xs units : List (List ℕ)) (made : List Var) → AreInside xs → AreMadeInside made → AreInside (names (unit_names xs units made))
unit_names-inside xs units made a m = unit_names_for-inside adjoint_text xs units made a m

-- a variable of the text keeps its name
pub own-name : (xs : List (List ℕ)) (qs : List Named) (x : List ℕ) → has_name x xs ≡ true → name_in (map own xs ++ qs) (plain x) ≡ x
own-name [] qs x h = cc
own-name (y ∷ xs) qs x h = go (name_eq x y) refl h (own-name xs qs x)
  where
    go : (b : Bool) → name_eq x y ≡ b → (b || has_name x xs) ≡ true → (has_name x xs ≡ true → name_in (map own xs ++ qs) (plain x) ≡ x) → (if b then y else name_in (map own xs ++ qs) (plain x)) ≡ x
    go true e h ih = sym (name_same x y e)
    go false e h ih = ih h
