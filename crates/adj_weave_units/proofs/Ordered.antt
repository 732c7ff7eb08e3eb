-- What units get in their order is what each gets by its name.
use Rattle.std.proofs.Common.{◌≡◌, ℕ, zero, suc, ◌+◌, arith, Bool, true, false, List, [], ◌∷◌, ◌++◌, map, refl, sym, ap, ◌∙◌, if◌then◌else◌}
use Rattle.std.specs.Prelude.{◌||◌, flat_map}
use Rattle.adj_tree.specs.Code.{name_eq, Procedure}
use Rattle.adj_tree.proofs.Names.{name_refl, name_same}
use Rattle.def_meaning.specs.Apart.{has_name, AreApart}
use Rattle.def_names.specs.Fresh.{fresh}
use Rattle.def_names.specs.Numbers.{behind}
use Rattle.def_sweep.specs.Declared.{unit_name}
use Rattle.def_names.specs.Variables.{variables}
use Rattle.def_sweep.specs.Names.{source_names, named_list, named_after}
use Rattle.def_sweep.specs.Marking.{first_from, first_statement, place_from}
use Rattle.adj_sets.specs.Sets.{all_added}
use Rattle.adj_sets.proofs.NameSets.{has-behind}
use Rattle.adj_naming.proofs.Added.{SameNames, fresh_alike, once_same}
use Rattle.adj_weave_units.specs.Calls.{numbers_from}
use Rattle.adj_weave_units.proofs.Places.{At, at_map, at_rest, at_has}

-- what is the same of each unit is the same of all
map_same : {B : Type 0} (f g : Procedure → B) (us : List Procedure) → ((u : Procedure) → has_name u.name (map unit_name us) ≡ true → f u ≡ g u) → map f us ≡ map g us
map_same f g [] h = refl
map_same f g (u ∷ us) h =
    let first = h u (ap (λ b. b || has_name u.name (map unit_name us)) (name_refl u.name)) in
    let rest = map_same f g us (λ v k. h v (later (name_eq v.name u.name) (has_name v.name (map unit_name us)) k)) in
    λ i. first i ∷ rest i
  where
    later : (a b : Bool) → b ≡ true → (a || b) ≡ true
    later true b h = refl
    later false b h = h

-- a unit behind another has another name
other_name : (u v : Procedure) (us : List Procedure) → has_name u.name (map unit_name us) ≡ false → has_name v.name (map unit_name us) ≡ true → name_eq u.name v.name ≡ false
other_name u v us n h = go (name_eq u.name v.name) refl
  where
    go : (b : Bool) → name_eq u.name v.name ≡ b → b ≡ false
    go true e = absurd (let p : true ≡ false = sym h ∙ ap (λ z. has_name z (map unit_name us)) (sym (name_same u.name v.name e)) ∙ n in cc)
    go false e = refl

-- the place of a unit is that of its name
pub unit_place : (k : ℕ) (us : List Procedure) (j : ℕ) (u : Procedure) → AreApart (map unit_name us) → At us j u → place_from k us u.name ≡ k + j
unit_place k [] j u a h = absurd (let l = h.within in omega arith)
unit_place k (v ∷ us) zero u a h =
    let first : place_from k (v ∷ us) v.name ≡ k = ap (λ b. if b then k else place_from (suc k) us v.name) (name_refl v.name) in
    ap (λ (w : Procedure). place_from k (v ∷ us) w.name) h.is ∙ first ∙ omega arith
unit_place k (v ∷ us) (suc j) u a h =
    let rest : At us j u = at_rest v u us j h in
    let other : name_eq v.name u.name ≡ false = other_name v u us a.0 (at_has (map unit_name us) j u.name (at_map unit_name us j u rest)) in
    let later : place_from (suc k) us u.name ≡ suc k + j = unit_place (suc k) us j u a.1 rest in
    ap (λ b. if b then k else place_from (suc k) us u.name) other ∙ later ∙ omega arith

-- ---- numbers

numbers_are : (i : ℕ) (us : List Procedure) → AreApart (map unit_name us) → numbers_from i us ≡ map (λ u. first_from i us u.name) us
numbers_are i [] a = refl
numbers_are i (u ∷ us) a =
    let first : i ≡ first_from i (u ∷ us) u.name = sym (ap (λ b. if b then i else first_from (behind i u.body) us u.name) (name_refl u.name)) in
    let rest : numbers_from (behind i u.body) us ≡ map (λ v. first_from i (u ∷ us) v.name) us =
    numbers_are (behind i u.body) us a.1 ∙ map_same (λ v. first_from (behind i u.body) us v.name) (λ v. first_from i (u ∷ us) v.name) us (λ v h. sym (ap (λ b. if b then i else first_from (behind i u.body) us v.name) (other_name u v us a.0 h))) in
    λ j. first j ∷ rest j

pub first_numbers : (ps : List Procedure) → AreApart (map unit_name ps) → numbers_from 0 ps ≡ map (λ u. first_statement ps u.name) ps
first_numbers ps a = numbers_are 0 ps a

-- ---- names that are made

-- the same names are taken, where one more is
one_more : (x : List ℕ) (xs ys : List (List ℕ)) → SameNames xs ys → SameNames (xs ++ (x ∷ [])) (ys ++ (x ∷ []))
one_more x xs ys h = record { at = λ z. has-behind z xs (x ∷ []) ∙ ap (λ b. b || has_name z (x ∷ [])) (h.at z) ∙ sym (has-behind z ys (x ∷ [])) }

pub named_are : (ending : List ℕ) (taken others : List (List ℕ)) (us : List Procedure) → AreApart (map unit_name us) → SameNames taken others → named_list ending taken us ≡ map (λ u. named_after ending others us u.name) us
named_are ending taken others [] a h = refl
named_are ending taken others (u ∷ us) a h =
    let base = u.name ++ ending in
    let made = fresh base others in
    let same : fresh base taken ≡ made = fresh_alike base taken others h in
    let first : fresh base taken ≡ named_after ending others (u ∷ us) u.name = same ∙ sym (ap (λ b. if b then made else named_after ending (others ++ (made ∷ [])) us u.name) (name_refl u.name)) in
    let rest : named_list ending (taken ++ (fresh base taken ∷ [])) us ≡ map (λ v. named_after ending others (u ∷ us) v.name) us =
    ap (λ x. named_list ending (taken ++ (x ∷ [])) us) same
    ∙ named_are ending (taken ++ (made ∷ [])) (others ++ (made ∷ [])) us a.1 (one_more made taken others h)
    ∙ map_same (λ v. named_after ending (others ++ (made ∷ [])) us v.name) (λ v. named_after ending others (u ∷ us) v.name) us (λ v k. sym (ap (λ b. if b then made else named_after ending (others ++ (made ∷ [])) us v.name) (other_name u v us a.0 k))) in
    λ j. first j ∷ rest j

-- where the names of the source are taken, each once, these are the names of the units with such an ending
pub made_list : (ending : List ℕ) (ps : List Procedure) → AreApart (map unit_name ps) → named_list ending (all_added [] (source_names ps)) ps ≡ map (λ u. named_after ending (source_names ps) ps u.name) ps
made_list ending ps a = named_are ending (all_added [] (source_names ps)) (source_names ps) ps a (once_same (source_names ps))

-- the variables of all units, one unit after another
pub all_joined : (us : List Procedure) → flat_map (λ (xs : List (List ℕ)). xs) (map variables us) ≡ flat_map variables us
all_joined [] = refl
all_joined (u ∷ us) = ap (λ z. variables u ++ z) (all_joined us)
