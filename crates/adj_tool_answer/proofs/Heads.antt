-- The unit of a head stands at its number.
use Rattle.std.proofs.Common.{◌≡◌, ℕ, suc, ◌<◌, Bool, true, false, List, ◌∷◌, map, length, get_or, refl, sym, ap, subst, ◌∙◌, Option, Some, None, if◌then◌else◌}
use Rattle.std.specs.Prelude.{option_map, []}
use Rattle.std.specs.List.{slice_get}
use Rattle.std.proofs.lemmas.List.{length-map}
use Rattle.std.proofs.lemmas.Option.{slice_get_within, slice_get-map, slice_get_read}
use Rattle.adj_tree.specs.Code.{name_eq, Procedure}
use Rattle.adj_tree.specs.View.{procedure_of}
use Rattle.adj_tree.specs.declared.unit.Unit.{Unit}
use Rattle.def_meaning.specs.Written.{find_unit}
use Rattle.def_names.specs.Fault.{first_of}
use Rattle.def_names.specs.HeadFaults.{first_head_fault, faults_of_head, unit_number}

-- the unit that is found stands at its number
pub numbered : (ps : List Procedure) (name : List ℕ) (u : Procedure) → find_unit ps name ≡ Some u → slice_get ps (unit_number ps name) ≡ Some u
numbered [] name u h = absurd cc
numbered (p ∷ ps) name u h = go (name_eq p.name name) h (numbered ps name u)
  where
    go : (b : Bool) → (if b then Some p else find_unit ps name) ≡ Some u → (find_unit ps name ≡ Some u → slice_get ps (unit_number ps name) ≡ Some u) → slice_get (p ∷ ps) (if b then 0 else suc (unit_number ps name)) ≡ Some u
    go true h ih = h
    go false h ih = ih h

-- the head's unit
record IsHead (ps : List Procedure) (name : List ℕ) : Type 0 where
  pub unit : Procedure
  pub found : find_unit ps name ≡ Some unit

-- where no unit has the name, that is the only fault of a head without listed names
no_fault : (ps : List Procedure) (name : List ℕ) → first_head_fault ps name [] [] ≡ None → IsHead ps name
no_fault ps name h = go (find_unit ps name) refl h
  where
    go : (o : Option Procedure) → find_unit ps name ≡ o → first_of (faults_of_head o [] []) ≡ None → IsHead ps name
    go None e k = absurd cc
    go (Some u) e k = record { unit = u; found = e }

-- so it stands at the number of its name
pub located : (ps : List Procedure) (name : List ℕ) → first_head_fault ps name [] [] ≡ None → find_unit ps name ≡ slice_get ps (unit_number ps name)
located ps name h = let u = no_fault ps name h in u.found ∙ sym (numbered ps name u.unit u.found)

pub inside : (ps : List Procedure) (name : List ℕ) → first_head_fault ps name [] [] ≡ None → unit_number ps name < length ps
inside ps name h = let u = no_fault ps name h in slice_get_within ps (unit_number ps name) u.unit (numbered ps name u.unit u.found)

-- a unit of the code as a unit of the program
unit_at : (us : List Unit) (n : ℕ) (v : Unit) → n < length us → v ≡ get_or us n v → slice_get (map procedure_of us) n ≡ Some (procedure_of v)
unit_at us n v lt is = slice_get-map procedure_of us n ∙ ap (option_map procedure_of) (slice_get_read us (length us) n v refl lt is)

-- so it stands at its number in a program of these units
pub stands_at : (ps : List Procedure) (us : List Unit) → map procedure_of us ≡ ps → (n : ℕ) (v : Unit) → n < length ps → v ≡ get_or us n v → slice_get ps n ≡ Some (procedure_of v)
stands_at ps us same n v lt is =
    let within = subst (λ m. n < m) (ap length (sym same) ∙ length-map us procedure_of) lt in
    subst (λ qs. slice_get qs n ≡ Some (procedure_of v)) same (unit_at us n v within is)
