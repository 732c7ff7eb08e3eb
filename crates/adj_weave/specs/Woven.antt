-- What is known of the units of a program before any is emitted.
use Rattle.std.specs.Prelude.{◌≡◌, List, [], ◌∷◌, ◌++◌, map, Bool, if◌then◌else◌}
use Rattle.adj_tree.specs.Code.{Procedure}
use Rattle.adj_tree.specs.View.{procedure_of}
use Rattle.def_sweep.specs.Marking.{ProgramMarks, first_statement}
use Rattle.def_sweep.specs.Program.{has_adjoint, has_pair, is_carried_with, all_units, emitted_adjoint_with, forth_unit, back_unit}
use Rattle.adj_weave.specs.declared.weave.Aim.{Aim}
use Rattle.adj_weave.specs.declared.weave.Emits.{Emits}
use Rattle.adj_weave.specs.declared.weave.Table.{Table}
use Rattle.adj_weave.specs.declared.unit.Shared.{Shared}
use Rattle.adj_weave.specs.Named.{AreMade}
use Rattle.adj_weave.specs.Shared.{sources, marks_for, IsShared}

-- by these marks a table tells of each unit of the program, where h is the head; whether marked loops are reversed by schedules
pub record IsTable (b : Bool) (m : ProgramMarks) (ps : List Procedure) (h : Procedure) (t : Table) : Type 0 where
  pub names : AreMade ps t.names
  pub numbers : t.numbers.items ≡ map (λ u. first_statement ps u.name) ps
  pub adjointed : t.found.adjointed ≡ map (λ u. has_adjoint m ps h u.name) ps
  pub paired : t.found.paired ≡ map (λ u. has_pair m ps h u.name) ps
  pub carried : t.found.carried ≡ map (λ u. is_carried_with b m ps h u.name) ps

-- the head that is aimed at
abbrev pub head_of : Aim → Procedure
head_of a = procedure_of a.head.now

-- all is known that the adjoints of units need
pub record IsReady (s : Shared) (a : Aim) : Type 0 where
  pub shared : IsShared s
  pub names : s.names.now ≡ all_units (marks_for s) (sources s) (head_of a)

-- a unit, if it is emitted
abbrev pub only_if : Bool → Procedure → List Procedure
only_if b u = if b then u ∷ [] else []

-- two units, if they are emitted
abbrev pub pair_if : Bool → Procedure → Procedure → List Procedure
pair_if b u v = if b then u ∷ v ∷ [] else []

-- what is emitted for a unit
abbrev pub emitted_for : Bool → ProgramMarks → Emits → List Procedure → Aim → Procedure → List Procedure
emitted_for b m e ps a u =
    let units = all_units m ps (head_of a) in
    only_if e.carried u ++ (only_if e.adjointed (emitted_adjoint_with b m ps (head_of a) a.vars.now a.outvars.now u) ++ pair_if e.paired (forth_unit b m ps units u) (back_unit b m ps units u))
