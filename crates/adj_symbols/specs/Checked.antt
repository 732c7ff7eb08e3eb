-- What is known of a program that is checked.
use Rattle.std.specs.Prelude.{◌≡◌, List, [], map, Bool}
use Rattle.adj_tree.specs.Code.{Procedure}
use Rattle.adj_tree.specs.declared.fault.Fault.{Fault}
use Rattle.adj_tree.specs.declared.fault.Fault.TheVariants.{Memory, Refused}
use Rattle.adj_tree.specs.declared.fault.Refusal.{Refusal}
use Rattle.adj_tree.specs.declared.unit.Program.{Program}
use Rattle.adj_tree.specs.View.{procedures_of}
use Rattle.def_text.specs.Written.{IsWritten}
use Rattle.def_meaning.specs.LeastSet.{least_rows}
use Rattle.def_meaning.specs.Read.{read_rule}
use Rattle.def_meaning.specs.Written.{write_rule}
use Rattle.def_names.specs.Fault.{run_rules}
use Rattle.def_names.specs.Check.{IsSound}
use Rattle.def_names.specs.UnitFaults.{unit_faults}
use Rattle.def_names.specs.Variables.{Name, variables}

-- a program can be written, unless the names of its units have a fault: with such names a CALL may have the form of a call of the runtime
abbrev pub IsWrittenIfNamed : List Procedure → Type 0
IsWrittenIfNamed ps = unit_faults ps ≡ [] → IsWritten ps

-- the program, the variables of each unit, and which of its dummies each unit writes and reads
pub record Known : Type 0 where
  pub program : Program
  pub variables : List (List Name)
  pub writes : List (List Bool)
  pub reads : List (List Bool)

-- what holds of every program that is checked: it is written, it has no fault where it is run, and its lists are what they are called
pub record AreFacts (k : Known) : Type 0 where
  pub written : IsWritten (procedures_of k.program)
  pub sound : IsSound run_rules (procedures_of k.program)
  pub variables : k.variables ≡ map variables (procedures_of k.program)
  pub writes : k.writes ≡ least_rows write_rule (procedures_of k.program)
  pub reads : k.reads ≡ least_rows read_rule (procedures_of k.program)

-- what holds where a fault is a refusal
abbrev pub IfRefused : Fault → (Refusal → Type 0) → Type 0
IfRefused Memory P = Unit {0}
IfRefused (Refused r) P = P r
