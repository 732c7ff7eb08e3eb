-- Names that stand among those before them.
use Rattle.std.proofs.Common.{◌≡◌, ℕ, ◌+◌, ◌<◌, Bool, true, false, List, [], ◌∷◌, ◌++◌, length, get_or, drop, refl, sym, ap, ap₂, ◌∙◌, Option, if◌then◌else◌}
use Rattle.std.specs.Prelude.{◌||◌, not, fold}
use Rattle.std.proofs.lemmas.List.{drop_more}
use Rattle.adj_tree.specs.Code.{name_eq}
use Rattle.adj_tree.proofs.Names.{name_same}
use Rattle.adj_tree.specs.declared.fault.Refusal.{Refusal}
use Rattle.def_meaning.specs.Apart.{has_name}
use Rattle.def_names.specs.Statements.{At}
use Rattle.def_names.specs.Variables.{Name}
use Rattle.def_names.specs.Fault.{fault, faults_if, again, first_of, sooner}
use Rattle.def_names.proofs.Order.{sooner-append}
use Rattle.adj_sets.specs.Sets.{with_name}
use Rattle.adj_symbols.specs.View.{places_of, names_at}
use Rattle.adj_symbols.specs.declared.places.Placed.{Placed}

-- a name stands in a list with one more behind it
pub has_behind : (x y : Name) (ys : List Name) → has_name x (ys ++ y ∷ []) ≡ has_name x (y ∷ ys)
has_behind x y [] = refl
has_behind x y (z ∷ ys) = ap (λ b. name_eq x z || b) (has_behind x y ys) ∙ turned (name_eq x z) (name_eq x y) (has_name x ys)
  where
    turned : (a b c : Bool) → (a || (b || c)) ≡ (b || (a || c))
    turned true true c = refl
    turned true false c = refl
    turned false b c = refl

-- the names with one more have just it besides
pub with_name-has : (x y : Name) (ys : List Name) → has_name x (with_name ys y) ≡ has_name x (y ∷ ys)
with_name-has x y ys = go (has_name y ys) refl
  where
    known : (b : Bool) → name_eq x y ≡ b → has_name y ys ≡ true → has_name x ys ≡ (b || has_name x ys)
    known true e h = ap (λ z. has_name z ys) (name_same x y e) ∙ h
    known false e h = refl

    go : (b : Bool) → has_name y ys ≡ b → has_name x (if b then ys else ys ++ y ∷ []) ≡ has_name x (y ∷ ys)
    go true e = known (name_eq x y) refl e ∙ ap (λ b. b || has_name x ys) refl
    go false e = has_behind x y ys

-- it matters only which names stand before
pub again-same : (code : ℕ) (xs ys : List Name) (ps : List (At Name)) → ((x : Name) → has_name x xs ≡ has_name x ys) → again code xs ps ≡ again code ys ps
again-same code xs ys [] h = refl
again-same code xs ys (p ∷ ps) h =
    ap₂ (λ b rs. faults_if b (fault code p.0) ++ rs) (h p.1) (again-same code (p.1 ∷ xs) (p.1 ∷ ys) ps (λ x. ap (λ b. name_eq x p.1 || b) (h x)))

-- what is left begins with the place that is looked at
pub left : (ps : List Placed) (i : ℕ) (p : Placed) → i < length ps → p ≡ get_or ps i p → p ∷ drop (i + 1) ps ≡ drop i ps
left ps i p lt is = sym (drop_more ps i p lt ∙ ap (λ z. z ∷ drop (i + 1) ps) (sym is))

-- one more name is looked at
pub again_more : (code : ℕ) (names made : List Name) (ps : List Placed) (i : ℕ) (p : Placed) (added : Bool) (a b : Option Refusal) → i < length ps → p ≡ get_or ps i p → added ≡ not (has_name p.name.now names) → made ≡ with_name names p.name.now → b ≡ sooner a (first_of (faults_if (not added) (fault code p.line)))
    → sooner b (first_of (again code made (places_of (drop (i + 1) ps)))) ≡ sooner a (first_of (again code names (places_of (drop i ps))))
again_more code names made ps i p added a b lt is e m f =
    let rest = places_of (drop (i + 1) ps) in
    let before = ap (λ t. sooner a (first_of (faults_if t (fault code p.line)))) (ap not e ∙ not_not (has_name p.name.now names)) in
    ap₂ (λ y z. sooner y (first_of z)) (f ∙ before) (ap (λ ns. again code ns rest) m ∙ again-same code (with_name names p.name.now) (p.name.now ∷ names) rest (λ x. with_name-has x p.name.now names))
    ∙ sooner-append a (faults_if (has_name p.name.now names) (fault code p.line)) (again code (p.name.now ∷ names) rest)
    ∙ ap (λ z. sooner a (first_of (again code names (places_of z)))) (left ps i p lt is)
  where
    not_not : (b : Bool) → not (not b) ≡ b
    not_not true = refl
    not_not false = refl

-- and is put among those before
pub once_more : (names made : List Name) (ps : List Placed) (i : ℕ) (p : Placed) → i < length ps → p ≡ get_or ps i p → made ≡ with_name names p.name.now → fold with_name made (names_at (places_of (drop (i + 1) ps))) ≡ fold with_name names (names_at (places_of (drop i ps)))
once_more names made ps i p lt is m =
    ap (λ ns. fold with_name ns (names_at (places_of (drop (i + 1) ps)))) m
    ∙ ap (λ z. fold with_name names (names_at (places_of z))) (left ps i p lt is)
