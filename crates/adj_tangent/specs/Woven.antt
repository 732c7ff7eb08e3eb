-- What is known of the units of a program before any is emitted.
use Rattle.std.specs.Prelude.{◌≡◌, ℕ, List, [], ◌∷◌, ◌++◌, map, Bool, Some, if◌then◌else◌}
use Rattle.adj_tree.specs.Code.{name_eq, Procedure}
use Rattle.adj_tree.specs.View.{procedure_of, procedures_of}
use Rattle.def_meaning.specs.Written.{find_unit}
use Rattle.def_names.specs.Fault.{run_rules}
use Rattle.def_names.specs.Reserved.{reserved}
use Rattle.def_names.specs.Variables.{variables}
use Rattle.def_sweep.specs.Declared.{unit_name, unmarked}
use Rattle.def_sweep.specs.Marked.{names_in}
use Rattle.law_emitted.specs.Checked.{IsChecked}
use Rattle.def_tangent.specs.Program as program
use Rattle.def_tangent.specs.Program.{callee_in, tangent_name, has_tangent, stays, made_names, tangent_unit}
use Rattle.def_flow.specs.Carried.{carried_by}
use Rattle.adj_sets.specs.Sets.{all_added}
use Rattle.adj_sweep_assignment.specs.View.{marks_of}
use Rattle.adj_tangent.specs.declared.unit.Shared.{Shared}
use Rattle.adj_tangent.specs.declared.unit.Part.{Part}
use Rattle.adj_tangent.specs.declared.program.Aim.{Aim}
use Rattle.adj_tangent.specs.declared.program.Table.{Table}
use Rattle.adj_tangent.specs.Flagged.{carried_told}
use Rattle.adj_tangent.specs.Plans.{active_by, KnowsAll}

-- the units of the source
abbrev pub sources : Shared → List Procedure
sources s = procedures_of s.checked.now.program

-- what carries a tangent, by the names of units
abbrev pub carried_for : Shared → program.Carried
carried_for s = carried_by (procedures_of s.checked.now.program) (carried_told s.carried)

-- what all units share is that of a checked program in kernel form
pub record IsShared (s : Shared) : Type 0 where
  pub checked : IsChecked run_rules (sources s)
  pub callees : KnowsAll s.callees.now (callee_in (carried_for s) (sources s))
  pub taken : s.taken.now ≡ all_added [] (s.names.now ++ reserved)

-- a unit of the program, and what is known of it
pub record IsPart (c : program.Carried) (ps : List Procedure) (p : Part) : Type 0 where
  pub found : find_unit ps (procedure_of p.unit.now).name ≡ Some (procedure_of p.unit.now)
  pub active : active_by p.marking ≡ c (procedure_of p.unit.now).name
  pub carried : (marks_of p.marking).shadowed ≡ c (procedure_of p.unit.now).name
  pub variables : p.variables.now ≡ variables (procedure_of p.unit.now)
  pub tangent : p.tangent.now ≡ tangent_name ps (procedure_of p.unit.now).name

-- ---- the program

-- the head that is aimed at
abbrev pub head_of : Aim → Procedure
head_of a = procedure_of a.head.now

-- the names of all units: those of the source, and those of the tangents that are emitted for a head
abbrev pub all_units : program.Carried → List Procedure → Procedure → List (List ℕ)
all_units c ps h = map unit_name ps ++ made_names c ps h.name ps

-- by what carries a tangent a table tells of each unit of the program, where h is the head
pub record IsTable (c : program.Carried) (ps : List Procedure) (h : Procedure) (t : Table) : Type 0 where
  pub tangents : t.tangents.now ≡ map (λ u. tangent_name ps u.name) ps
  pub made : t.found.now.made ≡ map (λ u. has_tangent c ps h.name u.name) ps
  pub stays : t.found.now.stays ≡ map (λ u. stays c ps h.name u.name) ps

-- all is known that the tangents of units need
pub record IsReady (s : Shared) (a : Aim) : Type 0 where
  pub shared : IsShared s
  pub names : s.names.now ≡ all_units (carried_for s) (sources s) (head_of a)

-- the tangent of a unit as it is emitted: the head's first clears the tangents of its dummies that aren't independent
abbrev pub emitted_tangent : program.Carried → List Procedure → Procedure → List Bool → Procedure → Procedure
emitted_tangent c ps h vars u = tangent_unit c ps (all_units c ps h) u (if name_eq h.name u.name then names_in (c u.name) (unmarked u.dummies vars) else [])

-- a unit, if it is emitted
abbrev pub only_if : Bool → Procedure → List Procedure
only_if b u = if b then u ∷ [] else []
