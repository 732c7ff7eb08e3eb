-- What is made of a unit of the source: its adjoint, or one of the two units that split calls call.
use Rattle.std.specs.Prelude.{ℕ, List, Bool}
use Rattle.adj_tree.specs.Code.{Var, Code, Procedure}
use Rattle.adj_tree.specs.View.{code_of, procedure_of}
use Rattle.def_names.specs.Numbers.{Vars}
use Rattle.def_sweep.specs.Callees.{nothing}
use Rattle.def_sweep.specs.Emission.{adjoint_body_with}
use Rattle.def_sweep.specs.Marking.{ProgramMarks}
use Rattle.def_sweep.specs.Marks.{Marks}
use Rattle.def_sweep.specs.Plan.{Plan, Schedules}
use Rattle.def_sweep.specs.Program as program
use Rattle.def_sweep.specs.Program.{adjoint_unit_with, helpers_used_with, helpers_forth}
use Rattle.def_sweep.specs.SplitRows as rows
use Rattle.adj_sweep_assignment.specs.View.{marks_of}
use Rattle.adj_weave.specs.declared.making.Half.{Half}
use Rattle.adj_weave.specs.declared.making.Half.TheVariants as half
use Rattle.adj_weave.specs.declared.making.Making.{Making}
use Rattle.adj_weave.specs.declared.making.Making.TheVariants as by
use Rattle.adj_weave.specs.declared.unit.Part.{Part}
use Rattle.adj_weave.specs.Left.{read_only, unless_among}
use Rattle.adj_weave.specs.Shared.{HaveShadows}

-- the marks by which it is written
abbrev pub its_marks : Part → Making → Marks
its_marks p (by.Adjoint z) = marks_of p.marking
its_marks p (by.Pair h) = marks_of p.pairing

-- the variables that have a shadow in it
abbrev pub half_shadows : Part → Half → Vars
half_shadows p half.Forth = nothing
half_shadows p half.Back = (marks_of p.pairing).shadowed

abbrev pub its_shadows : Part → Making → Vars
its_shadows p (by.Adjoint z) = (marks_of p.marking).shadowed
its_shadows p (by.Pair h) = half_shadows p h

abbrev pub half_name : Part → Half → List ℕ
half_name p half.Forth = p.forth.now
half_name p half.Back = p.back.now

abbrev pub its_name : Part → Making → List ℕ
its_name p (by.Adjoint z) = p.adjoint.now
its_name p (by.Pair h) = half_name p h

-- the helpers that it uses
abbrev pub half_helpers : Schedules → Plan → ℕ → Code → Half → List Var
half_helpers sc p i c half.Forth = helpers_forth sc p i c
half_helpers sc p i c half.Back = helpers_used_with sc p i c

abbrev pub its_helpers : Schedules → Plan → ℕ → Code → Making → List Var
its_helpers sc p i c (by.Adjoint z) = helpers_used_with sc p i c
its_helpers sc p i c (by.Pair h) = half_helpers sc p i c h

-- what the forward unit leaves on the tape
abbrev pub its_left : Part → List (List ℕ)
its_left p = unless_among (read_only (procedure_of p.unit.now).dummies p.written.now) p.variables.now

-- its code, under the names of the source
abbrev pub half_code : Schedules → Plan → Part → Half → Code
half_code sc p g half.Forth = rows.forth_body sc p g.number g.unit.now.line (its_left g) (code_of g.unit.now.body)
half_code sc p g half.Back = rows.back_body sc p g.number g.unit.now.line (its_left g) (code_of g.unit.now.body)

abbrev pub its_code : Schedules → Plan → Part → Making → Code
its_code sc p g (by.Adjoint z) = adjoint_body_with sc p g.number g.unit.now.line (code_of g.unit.now.body) z.at_turn.now z.at_end.now
its_code sc p g (by.Pair h) = half_code sc p g h

-- what it clears are variables of the unit that have a shadow
abbrev pub ClearsShadows : ProgramMarks → Procedure → Making → Type 0
ClearsShadows m u (by.Adjoint z) = HaveShadows m u z.at_turn.now × HaveShadows m u z.at_end.now
ClearsShadows m u (by.Pair h) = Unit {0}

-- the unit that is made
abbrev pub half_of : Bool → ProgramMarks → List Procedure → List (List ℕ) → Procedure → Half → Procedure
half_of b m ps units u half.Forth = program.forth_unit b m ps units u
half_of b m ps units u half.Back = program.back_unit b m ps units u

abbrev pub made_of : Bool → ProgramMarks → List Procedure → List (List ℕ) → Procedure → Making → Procedure
made_of b m ps units u (by.Adjoint z) = adjoint_unit_with b m ps units u z.at_turn.now z.at_end.now
made_of b m ps units u (by.Pair h) = half_of b m ps units u h
