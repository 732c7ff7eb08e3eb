-- Declarations passed one by one, and the variables that they make arrays.
use Rattle.std.proofs.Common.{◌≡◌, ℕ, suc, ◌+◌, ◌<◌, ◌≤◌, Bool, true, false, List, [], ◌∷◌, map, length, drop, get_or, refl, sym, ap, ◌∙◌, subst, arith, if◌then◌else◌}
use Rattle.std.specs.Prelude.{◌||◌, ◌&&◌, ◌==◌, not}
use Rattle.adj_tree.specs.Code.{plain, shadow, helper, Role, name_eq, Declaration}
use Rattle.adj_tree.specs.View.{declaration_of}
use Rattle.adj_tree.specs.declared.unit.Decl.{Decl}
use Rattle.adj_tree.proofs.Names.{nat_same, name_same}
use Rattle.def_meaning.specs.Units.{declared}
use Rattle.def_meaning.specs.Apart.{has_name}
use Rattle.def_names.proofs.Variables.{or_right, not_true}
use Rattle.adj_sets.specs.Sets.{with_added}
use Rattle.adj_naming.proofs.Added.{has-all_added}
use Rattle.adj_naming.proofs.Places.{from_here}
use Rattle.adj_weave_units.specs.Parts.{PassedBy}

or_none : (a : Bool) → (a || false) ≡ a
or_none true = refl
or_none false = refl

-- whether the declarations make a variable an array
abbrev pub makes_array : List Declaration → List ℕ → Bool
makes_array ds x = not (length (declared ds (plain x)) == 0)

-- what is known once some declarations were passed: whether the variables among them are arrays
pub record Passed (known arrays : List (List ℕ)) (rest all : List Declaration) : Type 0 where
  pub so_far : (x : List ℕ) → (if has_name x known then has_name x arrays else makes_array rest x) ≡ makes_array all x
  pub others : (x : List ℕ) → has_name x known ≡ false → has_name x arrays ≡ false

pub nothing_passed : (ds : List Declaration) → Passed [] [] ds ds
nothing_passed ds = record { so_far = λ x. refl; others = λ x h. refl }

one_passed : (d : Declaration) (ds all : List Declaration) (known arrays known' arrays' : List (List ℕ)) → PassedBy d known arrays known' arrays' → Passed known arrays (d ∷ ds) all → Passed known' arrays' ds all
one_passed d ds all known arrays known' arrays' p h = record {
  so_far = λ x.
      (λ i. if p.known_then x i then p.arrays_then x i else makes_array ds x)
      ∙ go x (has_name x known) refl (name_eq x d.name) refl (h.so_far x) (h.others x);
  others = λ x e. p.arrays_then x ∙ none x (has_name x known) (name_eq x d.name) (h.others x) (sym (p.known_then x) ∙ e);
}
  where
    same : (x : List ℕ) (k : Bool) → has_name x known ≡ k → name_eq x d.name ≡ true → has_name d.name known ≡ k
    same x k e n = ap (λ z. has_name z known) (sym (name_same x d.name n)) ∙ e

    go : (x : List ℕ) (k : Bool) → has_name x known ≡ k → (n : Bool) → name_eq x d.name ≡ n → (if k then has_name x arrays else not (length (if n then d.extents else declared ds (plain x)) == 0)) ≡ makes_array all x → (k ≡ false → has_name x arrays ≡ false) →
        (if (k || n) then (has_name x arrays || (n && (not (has_name d.name known) && not (length d.extents == 0)))) else makes_array ds x) ≡ makes_array all x
    go x true e true f g o = ap (λ z. has_name x arrays || (not z && not (length d.extents == 0))) (same x true e f) ∙ or_none (has_name x arrays) ∙ g
    go x true e false f g o = or_none (has_name x arrays) ∙ g
    go x false e true f g o = ap (λ z. has_name x arrays || (not z && not (length d.extents == 0))) (same x false e f) ∙ ap (λ z. z || not (length d.extents == 0)) (o refl) ∙ g
    go x false e false f g o = g

    none : (x : List ℕ) (k n : Bool) → (k ≡ false → has_name x arrays ≡ false) → (k || n) ≡ false → (has_name x arrays || (n && (not (has_name d.name known) && not (length d.extents == 0)))) ≡ false
    none x true n o e = absurd cc
    none x false true o e = absurd cc
    none x false false o e = or_none (has_name x arrays) ∙ o refl

-- one declaration more is passed
pub passed_on : (items : List Decl) (i : ℕ) (d : Decl) (all : List Declaration) (known arrays known' arrays' : List (List ℕ)) → i < length items → d ≡ get_or items i d → PassedBy (declaration_of d) known arrays known' arrays' → Passed known arrays (map declaration_of (drop i items)) all → Passed known' arrays' (map declaration_of (drop (i + 1) items)) all
passed_on items i d all known arrays known' arrays' lt at p h =
    one_passed (declaration_of d) (map declaration_of (drop (i + 1) items)) all known arrays known' arrays' p (let e : map declaration_of (drop i items) ≡ declaration_of d ∷ map declaration_of (drop (i + 1) items) = ap (map declaration_of) (from_here items i d lt at) in subst (λ ds. Passed known arrays ds all) e h)

-- once all are passed, the arrays are known
pub all_passed : (known arrays : List (List ℕ)) (all : List Declaration) → Passed known arrays [] all → (x : List ℕ) → has_name x arrays ≡ makes_array all x
all_passed known arrays all h x = go (has_name x known) refl (h.so_far x)
  where
    go : (k : Bool) → has_name x known ≡ k → (if k then has_name x arrays else false) ≡ makes_array all x → has_name x arrays ≡ makes_array all x
    go true e g = g
    go false e g = h.others x e ∙ g

-- only variables of the text are declared
pub shadow_undeclared : (ds : List Declaration) (x : List ℕ) → declared ds (shadow x) ≡ []
shadow_undeclared [] x = refl
shadow_undeclared (d ∷ ds) x = shadow_undeclared ds x

pub helper_undeclared : (ds : List Declaration) (r : Role) (k : ℕ) → declared ds (helper r k) ≡ []
helper_undeclared [] r k = refl
helper_undeclared (d ∷ ds) r k = helper_undeclared ds r k

-- ---- one declaration

has_more : (x y : List ℕ) (xs : List (List ℕ)) → has_name x (with_added y xs) ≡ (has_name x xs || name_eq x y)
has_more x y xs = has-all_added x xs (y ∷ []) ∙ ap (λ b. has_name x xs || b) (or_none (name_eq x y))

-- a variable that is known keeps what is known of it
pub known_passed : (d : Declaration) (known arrays : List (List ℕ)) → has_name d.name known ≡ true → PassedBy d known arrays known arrays
known_passed d known arrays h = record {
  known_then = λ x. go x (name_eq x d.name) refl;
  arrays_then = λ x. sym (ap (λ b. has_name x arrays || (name_eq x d.name && (not b && not (length d.extents == 0)))) h ∙ ap (λ b. has_name x arrays || b) (none (name_eq x d.name)) ∙ or_none (has_name x arrays));
}
  where
    none : (b : Bool) → (b && false) ≡ false
    none true = refl
    none false = refl

    go : (x : List ℕ) (n : Bool) → name_eq x d.name ≡ n → has_name x known ≡ (has_name x known || n)
    go x true e = let t : has_name x known ≡ true = ap (λ z. has_name z known) (name_same x d.name e) ∙ h in t ∙ sym (or_right (has_name x known) true refl)
    go x false e = sym (or_none (has_name x known))

-- a variable that isn't known is an array where it has extents
pub new_passed : (d : Declaration) (known arrays known' arrays' : List (List ℕ)) (b : Bool) → has_name d.name known ≡ false → known' ≡ with_added d.name known → not (length d.extents == 0) ≡ b → arrays' ≡ (if b then with_added d.name arrays else arrays) → PassedBy d known arrays known' arrays'
new_passed d known arrays known' arrays' b h k e a = record {
  known_then = λ x. ap (has_name x) k ∙ has_more x d.name known;
  arrays_then = λ x.
      ap (has_name x) a ∙ go x b
      ∙ sym ((λ i. has_name x arrays || (name_eq x d.name && (not (h i) && e i))));
}
  where
    none : (b : Bool) → (b && false) ≡ false
    none true = refl
    none false = refl

    all : (b : Bool) → (b && true) ≡ b
    all true = refl
    all false = refl

    go : (x : List ℕ) (b : Bool) → has_name x (if b then with_added d.name arrays else arrays) ≡ (has_name x arrays || (name_eq x d.name && (true && b)))
    go x true = has_more x d.name arrays ∙ ap (λ t. has_name x arrays || t) (sym (all (name_eq x d.name)))
    go x false = sym (ap (λ t. has_name x arrays || t) (none (name_eq x d.name)) ∙ or_none (has_name x arrays))

-- whether there are extents
pub extents_there : {A B : Type 0} (f : A → B) (xs : List A) → 0 < length xs → not (length (map f xs) == 0) ≡ true
extents_there f [] h = absurd (omega arith)
extents_there f (x ∷ xs) h = ap not (not_true (suc (length (map f xs)) == 0) (λ e. let p : suc (length (map f xs)) ≡ 0 = nat_same (suc (length (map f xs))) 0 e in omega arith))

pub extents_none : {A B : Type 0} (f : A → B) (xs : List A) → length xs ≤ 0 → not (length (map f xs) == 0) ≡ false
extents_none f [] h = refl
extents_none f (x ∷ xs) h = absurd (omega arith)
