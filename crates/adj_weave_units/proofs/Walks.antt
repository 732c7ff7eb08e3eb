-- Lists passed one by one.
use Rattle.std.proofs.Common.{◌≡◌, ℕ, Bool, true, false, List, [], ◌∷◌, ◌++◌, ◌+◌, ◌<◌, map, length, drop, get_or, refl, sym, ap, ◌∙◌, append_assoc, if◌then◌else◌}
use Rattle.adj_tree.specs.Code.{plain, shadow, Declaration, Procedure}
use Rattle.def_names.specs.Numbers.{Vars}
use Rattle.def_sweep.specs.Marked.{names_in}
use Rattle.def_sweep.specs.Naming.{Named, name_in}
use Rattle.def_sweep.specs.MarkedProgram.{shadows_behind, declared_behind}
use Rattle.def_sweep.specs.Declared.{declaration}
use Rattle.adj_naming.proofs.Places.{from_here}
use Rattle.adj_weave_units.specs.Parts.{with_name, declared_among}

-- what is made for the next member stands behind what was made
pub walked : {A B : Type 0} (f : List A → List B) (g : A → List B) → ((x : A) (xs : List A) → f (x ∷ xs) ≡ g x ++ f xs) → (xs : List A) (made longer : List B) (i : ℕ) (x : A) → i < length xs → x ≡ get_or xs i x → longer ≡ made ++ g x → longer ++ f (drop (i + 1) xs) ≡ made ++ f (drop i xs)
walked f g h xs made longer i x lt at is =
    let rest = drop (i + 1) xs in
    ap (λ z. z ++ f rest) is ∙ append_assoc made (g x) (f rest) ∙ ap (λ z. made ++ z) (sym (h x rest)) ∙ ap (λ ys. made ++ f ys) (sym (from_here xs i x lt at))

-- what is made of some variables begins with what is made of the first
pub names_in-next : (a : Vars) (x : List ℕ) (xs : List (List ℕ)) → names_in a (x ∷ xs) ≡ names_in a (x ∷ []) ++ names_in a xs
names_in-next a x xs = go (a (plain x))
  where
    go : (b : Bool) → (if b then x ∷ names_in a xs else names_in a xs) ≡ (if b then x ∷ [] else []) ++ names_in a xs
    go true = refl
    go false = refl

pub shadows_behind-next : (a : Vars) (ns : List Named) (x : List ℕ) (xs : List (List ℕ)) → shadows_behind a ns (x ∷ xs) ≡ shadows_behind a ns (x ∷ []) ++ shadows_behind a ns xs
shadows_behind-next a ns x xs = go (a (plain x))
  where
    go : (b : Bool) → (if b then x ∷ name_in ns (shadow x) ∷ shadows_behind a ns xs else x ∷ shadows_behind a ns xs) ≡ (if b then x ∷ name_in ns (shadow x) ∷ [] else x ∷ []) ++ shadows_behind a ns xs
    go true = refl
    go false = refl

pub declared-next : (a : Vars) (find : List ℕ → Declaration) (ns : List Named) (x : List ℕ) (xs : List (List ℕ)) → declared_among a find ns (x ∷ xs) ≡ declared_among a find ns (x ∷ []) ++ declared_among a find ns xs
declared-next a find ns x xs = go (a (plain x))
  where
    go : (b : Bool) → (if b then find x ∷ with_name (find x) (name_in ns (shadow x)) ∷ declared_among a find ns xs else find x ∷ declared_among a find ns xs) ≡ (if b then find x ∷ with_name (find x) (name_in ns (shadow x)) ∷ [] else find x ∷ []) ++ declared_among a find ns xs
    go true = refl
    go false = refl

-- what is made for the next member stands behind what was made, where what follows is made in another way
pub walked_on : {A B C : Type 0} (p : A → B) (f g : List B → List C) (xs : List A) (made longer added : List C) (i : ℕ) (x : A) → i < length xs → x ≡ get_or xs i x → longer ≡ made ++ added → f (p x ∷ map p (drop (i + 1) xs)) ≡ added ++ g (map p (drop (i + 1) xs)) → longer ++ g (map p (drop (i + 1) xs)) ≡ made ++ f (map p (drop i xs))
walked_on p f g xs made longer added i x lt at is h =
    let rest = map p (drop (i + 1) xs) in
    ap (λ z. z ++ g rest) is ∙ append_assoc made added (g rest) ∙ ap (λ z. made ++ z) (sym h) ∙ ap (λ ys. made ++ f (map p ys)) (sym (from_here xs i x lt at))

-- what is found is what the unit declares
pub declared_same : (a : Vars) (find : List ℕ → Declaration) (ns : List Named) (p : Procedure) (xs : List (List ℕ)) → ((x : List ℕ) → find x ≡ declaration p.line p.declarations x) → declared_among a find ns xs ≡ declared_behind a ns p xs
declared_same a find ns p [] h = refl
declared_same a find ns p (x ∷ xs) h = go (a (plain x)) (declared_same a find ns p xs h)
  where
    go : (b : Bool) → declared_among a find ns xs ≡ declared_behind a ns p xs →
        (if b then find x ∷ with_name (find x) (name_in ns (shadow x)) ∷ declared_among a find ns xs else find x ∷ declared_among a find ns xs) ≡
        (if b then declaration p.line p.declarations x ∷ with_name (declaration p.line p.declarations x) (name_in ns (shadow x)) ∷ declared_behind a ns p xs else declaration p.line p.declarations x ∷ declared_behind a ns p xs)
    go true ih = λ i. h x i ∷ with_name (h x i) (name_in ns (shadow x)) ∷ ih i
    go false ih = λ i. h x i ∷ ih i
