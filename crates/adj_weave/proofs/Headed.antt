-- The unit that stands at the number of a head, and what marks say of it.
use Rattle.std.proofs.Common.{◌≡◌, ℕ, zero, suc, ◌+◌, true, List, [], ◌∷◌, map, sym, ◌∙◌, Some, arith}
use Rattle.std.specs.List.{slice_get}
use Rattle.adj_tree.specs.Code.{name_eq, Procedure}
use Rattle.adj_tree.proofs.Names.{name_refl}
use Rattle.def_meaning.specs.Apart.{AreApart}
use Rattle.def_meaning.specs.Written.{find_unit}
use Rattle.def_sweep.specs.Declared.{unit_name}
use Rattle.def_sweep.specs.Marking.{ProgramMarks, place_from}
use Rattle.def_sweep.specs.Program.{takes_part}
use Rattle.law_emitted.proofs.Callings.{roots_reached}
use Rattle.adj_weave.specs.declared.marks.Marked.{Marked}
use Rattle.adj_weave.specs.Marked.{program_marks, unit_marks, IsOver}
use Rattle.adj_weave_units.proofs.Places.{At, at_next, at_number, find_at}
use Rattle.adj_weave_units.proofs.Ordered.{unit_place}
use Rattle.adj_weave.proofs.UnitMarks.{marks_alike}

-- what is found at a number stands there
pub at_slice : (ps : List Procedure) (k : ℕ) (u : Procedure) → slice_get ps k ≡ Some u → At ps k u
at_slice [] k u h = absurd cc
at_slice (p ∷ ps) zero u h = let same : p ≡ u = cc in record { within = omega arith; is = sym same }
at_slice (p ∷ ps) (suc k) u h = at_next p u ps k (at_slice ps k u h)

-- the head takes part
own_part : (m : ProgramMarks) (ps : List Procedure) (u : Procedure) → find_unit ps u.name ≡ Some u → takes_part m ps u u.name ≡ true
own_part m ps u found = roots_reached (name_eq u.name) m.adjointed ps u.name u found u.name (name_refl u.name)

-- the marks of its number say of its variables what those of the program do
pub head_shadows : (m : Marked) (ps : List Procedure) (k : ℕ) (u : Procedure) → IsOver m ps k → AreApart (map unit_name ps) → At ps k u → (unit_marks m k).shadowed ≡ (program_marks m).shadowed u.name
head_shadows m ps k u over apart at =
    let place : place_from 0 ps u.name ≡ k = unit_place 0 ps k u apart at ∙ (let z : 0 + k ≡ k = omega arith in z) in
    let found = find_at ps k u apart at in
    (marks_alike m ps k over apart u (at_number ps k u at) k u place found (own_part (program_marks m) ps u found)).shadowed
