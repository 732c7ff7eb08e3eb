-- What is declared for the names of a unit, declaration by declaration, and so the layouts of its variables.
use Rattle.std.proofs.Common.{◌≡◌, ◌≢◌, ℕ, zero, suc, ◌<◌, ◌≤◌, Bool, true, false, List, [], ◌∷◌, ◌++◌, map, length, get_or, drop, refl, sym, ap, ap₂, subst, ◌∙◌, arith, get_or-set_same, get_or-set_other, if◌then◌else◌}
use Rattle.std.specs.Prelude.{nat_lt, ◌==◌}
use Rattle.std.proofs.Math.ListN.{set, length-set}
use Rattle.std.proofs.lemmas.List.{get_or_default}
use Rattle.adj_tree.specs.Code.{plain, name_eq, Declaration}
use Rattle.adj_tree.specs.View.{declaration_of, procedure_of}
use Rattle.adj_tree.proofs.Names.{name_refl, name_same}
use Rattle.def_meaning.specs.Apart.{has_name, AreApart}
use Rattle.def_meaning.specs.Units.{declared}
use Rattle.def_meaning.proofs.Variables.{name_comm}
use Rattle.adj_interp_frame.specs.declared.layout.Layout.{Layout}
use Rattle.adj_interp_frame.specs.declared.layout.Layout.TheVariants as layout
use Rattle.adj_interp_frame.specs.Numbered.{Extends, Resolves}
use Rattle.adj_interp_frame.specs.declared.routine.Routine.{Routine}
use Rattle.adj_interp_frame.specs.Called.{extents_at, IsLayoutBelow, IsLaidOut}
use Rattle.adj_interp_frame.specs.Declaring.{Declares}
use Rattle.adj_interp_frame.proofs.Reading.{other_name}
use Rattle.adj_interp_frame.proofs.Resolving.{extends_self, resolves_on}
use Rattle.adj_interp_frame.proofs.Listing.{apart_at}

-- a name that differs from each isn't among them
all_differ : (x : List ℕ) (ns : List (List ℕ)) → ((i : ℕ) → i < length ns → name_eq (get_or ns i []) x ≡ false) → has_name x ns ≡ false
all_differ x [] h = refl
all_differ x (n ∷ ns) h = rw (name_comm n x (h 0 (omega arith))) (all_differ x ns (λ i l. h (suc i) (omega (arith, l))))

-- what isn't among later names isn't among earlier ones
fewer_among : (x : List ℕ) (ns ms : List (List ℕ)) → Extends ns ms → has_name x ms ≡ false → has_name x ns ≡ false
fewer_among x ns ms e h = all_differ x ns (λ i l. ap (λ z. name_eq z x) (sym (e.keeps i l)) ∙ other_name x ms i h (let m = e.longer in omega (arith, l, m)))

-- names that came later aren't among the earlier ones
later_apart : (ns ms : List (List ℕ)) (j : ℕ) → AreApart ms → Extends ns ms → j < length ms → length ns ≤ j → has_name (get_or ms j []) ns ≡ false
later_apart ns ms j a e lt ge = all_differ (get_or ms j []) ns (λ i l. go i l (name_eq (get_or ns i []) (get_or ms j [])) refl)
  where
    go : (i : ℕ) → i < length ns → (b : Bool) → name_eq (get_or ns i []) (get_or ms j []) ≡ b → b ≡ false
    go i l true h =
        let m = e.longer in
        let s = apart_at ms i j a (omega (arith, l, m)) lt (ap (λ z. name_eq z (get_or ms j [])) (e.keeps i l) ∙ h) in
        absurd (omega (arith, s, l, ge))
    go i l false h = refl

get_past : (ls : List Layout) (i : ℕ) → length ls ≤ i → get_or ls i layout.Scalar ≡ layout.Scalar
get_past [] i h = refl
get_past (l ∷ ls) zero h = absurd (omega arith)
get_past (l ∷ ls) (suc i) h = get_past ls i (omega arith)

-- with later names it is declared too
pub declares_on : (ds : List Declaration) (ns ms : List (List ℕ)) (ls : List Layout) → AreApart ms → Extends ns ms → Declares ds ns ls → Declares ds ms ls
declares_on ds ns ms ls a e d = record {
  few = (let m = e.longer in let f = d.few in omega (arith, m, f));
  each = λ i lt. go i lt (nat_lt i (length ns)) refl;
  elsewhere = λ x h. d.elsewhere x (fewer_among x ns ms e h);
}
  where
    go : (i : ℕ) → i < length ms → (b : Bool) → nat_lt i (length ns) ≡ b → Resolves extents_at IsLayoutBelow ms (get_or ls i layout.Scalar) (declared ds (plain (get_or ms i [])))
    go i lt true h =
        let m : i < length ns = grind arith in
        subst (λ z. Resolves extents_at IsLayoutBelow ms (get_or ls i layout.Scalar) (declared ds (plain z))) (sym (e.keeps i m)) (resolves_on extents_at IsLayoutBelow ns ms _ _ e (d.each i m))
    go i lt false h =
        let ge : length ns ≤ i = grind arith in
        let f = d.few in
        let none : declared ds (plain (get_or ms i [])) ≡ [] = d.elsewhere (get_or ms i []) (later_apart ns ms i a e lt ge) in
        let past = get_past ls i (omega (arith, f, ge)) in
        subst (λ es. Resolves extents_at IsLayoutBelow ms (get_or ls i layout.Scalar) es) (sym none) (subst (λ l. Resolves extents_at IsLayoutBelow ms l []) (sym past) (record { stands_for = λ later f. refl; below = λ later f. tt }))

-- a declaration before others decides for its variable
pub declares_next : (d : Declaration) (ds : List Declaration) (ms : List (List ℕ)) (ls more : List Layout) (i : ℕ) (l : Layout) → AreApart ms → Declares ds ms ls → i < length ms → get_or ms i [] ≡ d.name → Resolves extents_at IsLayoutBelow ms l d.extents
    → ((j : ℕ) → get_or more j layout.Scalar ≡ get_or ls j layout.Scalar) → i < length more → length more ≤ length ms → Declares (d ∷ ds) ms (set more i l)
declares_next d ds ms ls more i l a h lt named r same there few = record {
  few = (let n = length-set more i l in omega (arith, n, few));
  each = λ j m. go j m (j == i) refl;
  elsewhere = λ x s. ap (λ b. if b then d.extents else declared ds (plain x)) (differs x s) ∙ h.elsewhere x s;
}
  where
    differs : (x : List ℕ) → has_name x ms ≡ false → name_eq x d.name ≡ false
    differs x s = back (name_eq x d.name) refl
      where
        back : (b : Bool) → name_eq x d.name ≡ b → b ≡ false
        back true q = let o = other_name x ms i s lt in let e = name_same x d.name q in absurd (let bad : true ≡ false = sym (name_refl x) ∙ ap (λ z. name_eq z x) (e ∙ sym named) ∙ o in cc)
        back false q = refl

    go : (j : ℕ) → j < length ms → (b : Bool) → (j == i) ≡ b → Resolves extents_at IsLayoutBelow ms (get_or (set more i l) j layout.Scalar) (declared (d ∷ ds) (plain (get_or ms j [])))
    go j m true q =
        let s : j ≡ i = grind arith in
        let is : name_eq (get_or ms j []) d.name ≡ true = ap (λ z. name_eq z d.name) (ap (λ z. get_or ms z []) s ∙ named) ∙ name_refl d.name in
        let at : get_or (set more i l) j layout.Scalar ≡ l = ap (λ z. get_or (set more i l) z layout.Scalar) s ∙ get_or-set_same more i l layout.Scalar there in
        subst (λ b. Resolves extents_at IsLayoutBelow ms (get_or (set more i l) j layout.Scalar) (if b then d.extents else declared ds (plain (get_or ms j [])))) (sym is)
        (subst (λ z. Resolves extents_at IsLayoutBelow ms z d.extents) (sym at) r)
    go j m false q =
        let s : j ≢ i = grind arith in
        let at : get_or (set more i l) j layout.Scalar ≡ get_or ls j layout.Scalar = get_or-set_other more i j l layout.Scalar s ∙ same j in
        subst (λ b. Resolves extents_at IsLayoutBelow ms (get_or (set more i l) j layout.Scalar) (if b then d.extents else declared ds (plain (get_or ms j [])))) (sym (other j m s (name_eq (get_or ms j []) d.name) refl))
        (subst (λ z. Resolves extents_at IsLayoutBelow ms z (declared ds (plain (get_or ms j [])))) (sym at) (h.each j m))
      where
        other : (j : ℕ) → j < length ms → j ≢ i → (b : Bool) → name_eq (get_or ms j []) d.name ≡ b → b ≡ false
        other j m s true e = absurd (s (apart_at ms j i a m lt (ap (name_eq (get_or ms j [])) named ∙ e)))
        other j m s false e = refl

-- names that begin with others are these and the rest
pub begins_with : (ns ms : List (List ℕ)) → Extends ns ms → ms ≡ ns ++ drop (length ns) ms
begins_with [] ms e = refl
begins_with (n ∷ ns) [] e = absurd (let l = e.longer in omega (arith, l))
begins_with (n ∷ ns) (m ∷ ms) e = ap₂ (λ x xs. x ∷ xs) (e.keeps 0 (omega arith)) (begins_with ns ms (record { keeps = λ i l. e.keeps (suc i) (omega (arith, l)); longer = (let l = e.longer in omega (arith, l)) }))

-- lists of names that are alike are the same
pub alike_names : (ns ms : List (List ℕ)) → length ns ≡ length ms → ((i : ℕ) → i < length ms → get_or ns i [] ≡ get_or ms i []) → ns ≡ ms
alike_names [] [] n h = refl
alike_names [] (m ∷ ms) n h = absurd (omega arith)
alike_names (x ∷ ns) [] n h = absurd (omega arith)
alike_names (x ∷ ns) (m ∷ ms) n h = ap₂ (λ y ys. y ∷ ys) (h 0 (omega arith)) (alike_names ns ms (omega arith) (λ i l. h (suc i) (omega (arith, l))))

-- a list of one member, and of two
pub one_of : {A B : Type 0} (f : A → B) (xs : List A) (d : A) → 0 < length xs → length xs < 2 → map f xs ≡ f (get_or xs 0 d) ∷ []
one_of f [] d lt le = absurd (omega arith)
one_of f (x ∷ []) d lt le = refl
one_of f (x ∷ y ∷ xs) d lt le = absurd (omega arith)

pub two_of : {A B : Type 0} (f : A → B) (xs : List A) (d e : A) → 1 < length xs → length xs ≤ 2 → map f xs ≡ f (get_or xs 0 d) ∷ f (get_or xs 1 e) ∷ []
two_of f [] d e lt le = absurd (omega arith)
two_of f (x ∷ []) d e lt le = absurd (omega arith)
two_of f (x ∷ y ∷ []) d e lt le = refl
two_of f (x ∷ y ∷ z ∷ xs) d e lt le = absurd (omega arith)

-- a unit whose names begin with its dummies, and whose declarations have layouts, is laid out
pub laid_out : (r : Routine) (ns : List (List ℕ)) (ls : List Layout) → AreApart r.names → Extends r.unit.now.dummies r.names → Extends ns r.names → Declares (map declaration_of r.unit.now.decls) ns ls → ((i : ℕ) → get_or r.layouts.items i layout.Scalar ≡ get_or ls i layout.Scalar) → length r.names ≡ length r.layouts.items → (r.is_plain ≡ true → (i : ℕ) (l : Layout) → i < length r.layouts.items → get_or r.layouts.items i l ≡ layout.Scalar) → IsLaidOut r
laid_out r ns ls a e f d same n p = record {
  others = drop (length r.unit.now.dummies) r.names;
  names = begins_with r.unit.now.dummies r.names e;
  apart = a;
  each = n;
  declares = λ i l lt. let k = h.each i lt in sym (k.stands_for r.names (extends_self r.names)) ∙ ap (extents_at r.names) (sym (at i l lt));
  below = λ i l lt. let k = h.each i lt in subst (IsLayoutBelow (length r.names)) (sym (at i l lt)) (k.below r.names (extends_self r.names));
  scalars = λ z i l lt. p z i l (omega (arith, lt, n));
  elsewhere = λ x s. h.elsewhere x s;
}
  where
    h : Declares (procedure_of r.unit.now).declarations r.names ls
    h = declares_on (map declaration_of r.unit.now.decls) ns r.names ls a f d

    at : (i : ℕ) (l : Layout) → i < length r.names → get_or r.layouts.items i l ≡ get_or ls i layout.Scalar
    at i l lt = get_or_default r.layouts.items i l layout.Scalar (omega (arith, lt, n)) ∙ same i
