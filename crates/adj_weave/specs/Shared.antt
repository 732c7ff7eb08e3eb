-- What is known where the adjoint of a unit is written.
use Rattle.std.specs.Prelude.{◌≡◌, ℕ, Bool, List, [], ◌++◌, map, Some, true}
use Rattle.adj_tree.specs.Code.{plain, Procedure}
use Rattle.adj_tree.specs.View.{procedure_of, procedures_of}
use Rattle.def_meaning.specs.Written.{find_unit, is_written}
use Rattle.def_names.specs.Fault.{run_rules}
use Rattle.def_names.specs.Variables.{variables}
use Rattle.def_meaning.specs.Apart.{has_name}
use Rattle.def_names.specs.Reserved.{reserved}
use Rattle.def_sweep.specs.Names.{adjoint_name, forth_name, back_name}
use Rattle.def_sweep.specs.Marking.{ProgramMarks, marks_in, callee_in, first_statement}
use Rattle.def_sweep.specs.SplitMarks.{split_marks}
use Rattle.law_emitted.specs.Checked.{IsChecked}
use Rattle.law_emitted.specs.Shadowed.{AllHaveShadows}
use Rattle.law_emitted.specs.Splits.{AllMaySplit}
use Rattle.adj_sets.specs.Sets.{all_added}
use Rattle.adj_sweep_assignment.specs.View.{marks_of}
use Rattle.adj_sweep.specs.Callees.{KnowsAll}
use Rattle.adj_sweep.specs.HelperSteps.{are_reversed}
use Rattle.adj_weave.specs.declared.unit.Shared.{Shared}
use Rattle.adj_weave.specs.declared.unit.Part.{Part}
use Rattle.adj_weave.specs.Marked.{program_marks, reads_in}
use Rattle.adj_weave.specs.Alike.{AreAlike}

-- the units of the source
abbrev pub sources : Shared → List Procedure
sources s = procedures_of s.checked.now.program

-- whether marked loops are reversed by schedules
abbrev pub reversed_for : Shared → Bool
reversed_for s = are_reversed s.loops

-- the marks of the program
abbrev pub marks_for : Shared → ProgramMarks
marks_for s = program_marks s.marked

-- what all units share is that of a checked program in kernel form, whose marks have the shadows that they use and split what may be split
pub record IsShared (s : Shared) : Type 0 where
  pub checked : IsChecked run_rules (sources s)
  pub shadows : AllHaveShadows (marks_for s) (sources s) (sources s)
  pub splits : AllMaySplit (reversed_for s) (marks_for s) (sources s) (sources s)
  pub callees : KnowsAll s.callees.now (callee_in (marks_for s) (sources s)) (reads_in (sources s))
  pub taken : s.taken.now ≡ all_added [] (s.names.now ++ reserved)

-- flags tell which of its dummies a unit writes
abbrev pub WritesAre : List Procedure → Procedure → List Bool → Type 0
WritesAre ps u flags = flags ≡ map (is_written ps u) u.dummies

-- a unit of the program, and what is known of it; of its statements and variables its marks say what those of the program do
pub record IsPart (m : ProgramMarks) (ps : List Procedure) (p : Part) : Type 0 where
  pub found : find_unit ps (procedure_of p.unit.now).name ≡ Some (procedure_of p.unit.now)
  pub marks : let u = procedure_of p.unit.now in AreAlike (marks_of p.marking) (marks_in m u.name) (first_statement ps u.name) u.body
  pub variables : p.variables.now ≡ variables (procedure_of p.unit.now)
  pub pairing : let u = procedure_of p.unit.now in AreAlike (marks_of p.pairing) (split_marks (marks_in m u.name)) (first_statement ps u.name) u.body
  pub written : WritesAre ps (procedure_of p.unit.now) p.written.now
  pub adjoint : p.adjoint.now ≡ adjoint_name ps (procedure_of p.unit.now)
  pub forth : p.forth.now ≡ forth_name ps (procedure_of p.unit.now)
  pub back : p.back.now ≡ back_name ps (procedure_of p.unit.now)
  pub number : p.number ≡ first_statement ps (procedure_of p.unit.now).name

-- variables of a unit that have a shadow
abbrev pub HaveShadows : ProgramMarks → Procedure → List (List ℕ) → Type 0
HaveShadows m u xs = (x : List ℕ) → has_name x xs ≡ true → (has_name x (variables u) ≡ true) × (m.shadowed u.name (plain x) ≡ true)
