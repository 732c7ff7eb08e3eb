-- What is told of units by their places.
use Rattle.std.proofs.Common.{◌≡◌, ℕ, ◌<◌, Bool, true, false, List, [], ◌∷◌, map, length, get_or, refl, sym, ap, ◌∙◌, subst, if◌then◌else◌}
use Rattle.std.specs.Prelude.{◌||◌}
use Rattle.std.proofs.lemmas.List.{length-map}
use Rattle.adj_tree.specs.Code.{plain, name_eq, Procedure}
use Rattle.adj_tree.proofs.Names.{name_same}
use Rattle.adj_tree.specs.View.{procedure_of}
use Rattle.adj_tree.specs.declared.unit.Unit as units
use Rattle.def_meaning.specs.Apart.{has_name}
use Rattle.def_names.specs.Numbers.{Vars}
use Rattle.def_sweep.specs.Marked.{names_in}
use Rattle.def_sweep.specs.Declared.{unit_at}
use Rattle.def_names.proofs.Variables.{or_right}
use Rattle.adj_naming.proofs.Places.{get_or_any}
use Rattle.adj_weave_units.proofs.Places.{At, at_there, at_one, at_map, at_number}

-- what is said of each unit is said of that at a place
pub told_at : {B : Type 0} (f : Procedure → B) (ps : List Procedure) (k : ℕ) (u : Procedure) (xs : List B) (x : B) → At ps k u → xs ≡ map f ps → x ≡ get_or xs k x → x ≡ f u
told_at f ps k u xs x h e at =
    let a = at_map f ps k u h in
    at_one (map f ps) k x (f u) (record { within = a.within; is = at ∙ ap (λ z. get_or z k x) e }) a

-- the same of a number, where 0 stands for what is missing
pub told_number : (f : Procedure → ℕ) (ps : List Procedure) (k : ℕ) (u : Procedure) (xs : List ℕ) (x : ℕ) → At ps k u → xs ≡ map f ps → x ≡ get_or xs k 0 → x ≡ f u
told_number f ps k u xs x h e at =
    let a = at_map f ps k u h in
    at ∙ ap (λ z. get_or z k 0) e ∙ get_or_any (map f ps) k 0 (f u) a.within ∙ sym a.is

pub told_flag : (f : Procedure → Bool) (ps : List Procedure) (k : ℕ) (u : Procedure) (xs : List Bool) (x : Bool) → At ps k u → xs ≡ map f ps → x ≡ get_or xs k false → x ≡ f u
told_flag f ps k u xs x h e at =
    let a = at_map f ps k u h in
    at ∙ ap (λ z. get_or z k false) e ∙ get_or_any (map f ps) k false (f u) a.within ∙ sym a.is

-- a unit of the list stands among the procedures
pub unit_stands : (us : List units.Unit) (k : ℕ) (u : units.Unit) → k < length us → u ≡ get_or us k u → At (map procedure_of us) k (procedure_of u)
unit_stands us k u lt at = at_map procedure_of us k u (record { within = lt; is = at })

-- dummies whose mark is missing, and that have a shadow, are variables of the unit
named_marked : (a : Vars) (x : List ℕ) (xs : List (List ℕ)) → has_name x (names_in a xs) ≡ true → (has_name x xs ≡ true) × (a (plain x) ≡ true)
named_marked a x [] h = absurd cc
named_marked a x (y ∷ xs) h = go (a (plain y)) refl h (named_marked a x xs)
  where
    here : (b : Bool) → name_eq x y ≡ b → a (plain y) ≡ true → (b || has_name x (names_in a xs)) ≡ true → (has_name x (names_in a xs) ≡ true → (has_name x xs ≡ true) × (a (plain x) ≡ true)) → ((b || has_name x xs) ≡ true) × (a (plain x) ≡ true)
    here true e p k ih = (refl, ap (λ z. a (plain z)) (name_same x y e) ∙ p)
    here false e p k ih = ih k

    go : (b : Bool) → a (plain y) ≡ b → has_name x (if b then y ∷ names_in a xs else names_in a xs) ≡ true → (has_name x (names_in a xs) ≡ true → (has_name x xs ≡ true) × (a (plain x) ≡ true)) → ((name_eq x y || has_name x xs) ≡ true) × (a (plain x) ≡ true)
    go true p k ih = here (name_eq x y) refl p k ih
    go false p k ih = let r = ih k in (or_right (name_eq x y) (has_name x xs) r.0, r.1)

-- what is told of each unit is told of each place of the units
pub reaches : {B : Type 0} (f : Procedure → B) (us : List units.Unit) (xs : List B) (k : ℕ) → k < length us → xs ≡ map f (map procedure_of us) → k < length xs
reaches f us xs k lt h = subst (λ m. k < m) (sym (ap length h ∙ length-map (map procedure_of us) f ∙ length-map us procedure_of)) lt

-- the unit at a place of units that are those of a program
pub unit_there : (us own : List units.Unit) → us ≡ own → (k : ℕ) → k < length own → (u : units.Unit) → u ≡ get_or us k u → At (map procedure_of own) k (procedure_of u)
unit_there us own same k lt u is = unit_stands own k u lt (is ∙ ap (λ xs. get_or xs k u) same)

pub number_there : (us own : List units.Unit) → us ≡ own → (k : ℕ) → k < length own → (u : units.Unit) → u ≡ get_or us k u → unit_at k (map procedure_of own) ≡ procedure_of u ∷ []
number_there us own same k lt u is = at_number (map procedure_of own) k (procedure_of u) (unit_there us own same k lt u is)

-- the head of a number
pub head_there : (us : List units.Unit) (k : ℕ) → k < length us → (u : units.Unit) × (unit_at k (map procedure_of us) ≡ procedure_of u ∷ [])
head_there us k lt = let o = at_there us k lt in (o.0, at_number (map procedure_of us) k (procedure_of o.0) (at_map procedure_of us k o.0 o.1))
