-- Declarations that are found by name.
use Rattle.std.proofs.Common.{◌≡◌, ℕ, zero, suc, ◌+◌, ◌<◌, Bool, true, false, List, [], ◌∷◌, ◌++◌, map, length, get_or, drop, refl, ap, sym, ◌∙◌, Some, arith, append_assoc, drop-cons, add-one, if◌then◌else◌}
use Rattle.std.specs.Prelude.{position, ◌||◌}
use Rattle.std.proofs.Math.ListN.{get_or-map}
use Rattle.std.proofs.lemmas.List.{length-map, map_push}
use Rattle.std.proofs.lemmas.List.Quantifiers.{position-Some}
use Rattle.adj_tree.specs.Code.{name_eq, plain, Declaration}
use Rattle.adj_tree.specs.View.{extent_of, declaration_of}
use Rattle.adj_tree.specs.declared.unit.Decl.{Decl}
use Rattle.adj_tree.proofs.Names.{name_same}
use Rattle.def_meaning.specs.Units.{declared}
use Rattle.def_meaning.proofs.Booleans.{or_false}
use Rattle.def_meaning.specs.Apart.{has_name}

pub undeclared : (x : List ℕ) (ds : List Decl) (names : List (List ℕ)) → names ≡ map (λ e. e.name) ds → has_name x names ≡ false → declared (map declaration_of ds) (plain x) ≡ []
undeclared x ds names h e = go ds (ap (has_name x) (sym h) ∙ e)
  where
    go : (fs : List Decl) → has_name x (map (λ e. e.name) fs) ≡ false → declared (map declaration_of fs) (plain x) ≡ []
    go [] k = refl
    go (f ∷ fs) k =
        let t = or_false (name_eq x f.name) (has_name x (map (λ e. e.name) fs)) k in
        ap (λ b. if b then map extent_of f.extents else declared (map declaration_of fs) (plain x)) t.0 ∙ go fs t.1

declared_at : (x : List ℕ) (ds : List Decl) (i : ℕ) (d : Decl) → i < length ds → name_eq x (get_or ds i d).name ≡ true → ((k : ℕ) → k < i → name_eq x (get_or ds k d).name ≡ false) → declared (map declaration_of ds) (plain x) ≡ map extent_of (get_or ds i d).extents
declared_at x [] i d lt e h = absurd (omega arith)
declared_at x (f ∷ fs) zero d lt e h = ap (λ b. if b then map extent_of f.extents else declared (map declaration_of fs) (plain x)) e
declared_at x (f ∷ fs) (suc i) d lt e h =
    ap (λ b. if b then map extent_of f.extents else declared (map declaration_of fs) (plain x)) (h 0 (omega arith)) ∙ declared_at x fs i d (omega arith) e (λ k l. h (suc k) (omega arith))

-- the declaration at the place of its name
pub declared_placed : (x : List ℕ) (ds : List Decl) (names : List (List ℕ)) (i : ℕ) (d : Decl) → names ≡ map (λ e. e.name) ds → position (name_eq x) names ≡ Some i → declared (map declaration_of ds) (plain x) ≡ map extent_of (get_or ds i d).extents
declared_placed x ds names i d h p = go (position-Some (name_eq x) (map f ds) i (f d) (ap (position (name_eq x)) (sym h) ∙ p))
  where
    f : Decl → List ℕ
    f e = e.name

    go : (i < length (map f ds)) × (name_eq x (get_or (map f ds) i (f d)) ≡ true) × ((k : ℕ) → k < i → name_eq x (get_or (map f ds) k (f d)) ≡ false) → declared (map declaration_of ds) (plain x) ≡ map extent_of (get_or ds i d).extents
    go at =
        let many : length (map f ds) ≡ length ds = length-map ds f in
        let within = at.0 in
        declared_at x ds i d (omega (arith, many, within)) (ap (name_eq x) (sym (get_or-map f ds i d)) ∙ at.1) (λ k l. ap (name_eq x) (sym (get_or-map f ds k d)) ∙ at.2 k l)

-- ---- one declaration for each variable

-- a declaration of another variable is passed
declared_other : (fs : List Declaration) (d : Declaration) (rest : List Declaration) (x : List ℕ) → name_eq x d.name ≡ false → declared (fs ++ (d ∷ rest)) (plain x) ≡ declared (fs ++ rest) (plain x)
declared_other [] d rest x h = ap (λ b. if b then d.extents else declared rest (plain x)) h
declared_other (f ∷ fs) d rest x h = ap (λ z. if name_eq x f.name then f.extents else z) (declared_other fs d rest x h)

-- and so is one more declaration of a variable
declared_again : (fs : List Decl) (d : Declaration) (rest : List Declaration) (x : List ℕ) → has_name d.name (map (λ e. e.name) fs) ≡ true → declared (map declaration_of fs ++ (d ∷ rest)) (plain x) ≡ declared (map declaration_of fs ++ rest) (plain x)
declared_again [] d rest x h = cc
declared_again (f ∷ fs) d rest x h = go (name_eq x f.name) refl (name_eq d.name f.name) refl h (declared_again fs d rest x)
  where
    go : (b : Bool) → name_eq x f.name ≡ b → (t : Bool) → name_eq d.name f.name ≡ t → (t || has_name d.name (map (λ e. e.name) fs)) ≡ true → (has_name d.name (map (λ e. e.name) fs) ≡ true → declared (map declaration_of fs ++ (d ∷ rest)) (plain x) ≡ declared (map declaration_of fs ++ rest) (plain x))
        → (if b then map extent_of f.extents else declared (map declaration_of fs ++ (d ∷ rest)) (plain x)) ≡ (if b then map extent_of f.extents else declared (map declaration_of fs ++ rest) (plain x))
    go true e t g h ih = refl
    go false e true g h ih = declared_other (map declaration_of fs) d rest x (ap (name_eq x) (name_same d.name f.name g) ∙ e)
    go false e false g h ih = ih h

-- what is left from a place on, by its first member
pub from_here : {A : Type 0} (xs : List A) (i : ℕ) (a : A) → i < length xs → a ≡ get_or xs i a → drop i xs ≡ a ∷ drop (i + 1) xs
from_here xs i a lt at = drop-cons xs i a lt ∙ (λ j. sym at j ∷ drop (sym (add-one i) j) xs)

-- the first declaration of a variable is kept
pub first_kept : (items firsts longer : List Decl) (d e : Decl) (i : ℕ) (x : List ℕ) → i < length items → d ≡ get_or items i d → longer ≡ firsts ++ (e ∷ []) → declaration_of e ≡ declaration_of d → declared (map declaration_of longer ++ map declaration_of (drop (i + 1) items)) (plain x) ≡ declared (map declaration_of firsts ++ map declaration_of (drop i items)) (plain x)
first_kept items firsts longer d e i x lt at h same =
    let rest = map declaration_of (drop (i + 1) items) in
    ap (λ ds. declared ds (plain x))
    (ap (λ ds. map declaration_of ds ++ rest) h ∙ ap (λ ds. ds ++ rest) (map_push declaration_of firsts e ∙ ap (λ z. map declaration_of firsts ++ (z ∷ [])) same)
    ∙ append_assoc (map declaration_of firsts) (declaration_of d ∷ []) rest ∙ ap (λ ds. map declaration_of firsts ++ map declaration_of ds) (sym (from_here items i d lt at)))

-- another one is passed
pub first_passed : (items firsts : List Decl) (d : Decl) (i : ℕ) (x : List ℕ) → i < length items → d ≡ get_or items i d → has_name d.name (map (λ e. e.name) firsts) ≡ true → declared (map declaration_of firsts ++ map declaration_of (drop (i + 1) items)) (plain x) ≡ declared (map declaration_of firsts ++ map declaration_of (drop i items)) (plain x)
first_passed items firsts d i x lt at h =
    sym (ap (λ ds. declared (map declaration_of firsts ++ map declaration_of ds) (plain x)) (from_here items i d lt at) ∙ declared_again firsts (declaration_of d) (map declaration_of (drop (i + 1) items)) x h)
