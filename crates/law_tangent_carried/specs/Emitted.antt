-- The text of a tangent: it can be written, is little deeper than the text that it is of, and has no fault as a text that is run.
use Rattle.std.specs.Prelude.{◌≡◌, ◌≤◌, ℕ, ◌+◌, List, [], ◌++◌, flat_map, Bool}
use Rattle.adj_tree.specs.Code.{Procedure}
use Rattle.adj_tree.specs.Size.{IsNested}
use Rattle.def_text.specs.Written.{IsWritten}
use Rattle.def_names.specs.Fault.{Rules, run_rules}
use Rattle.def_names.specs.Check.{IsSound}
use Rattle.def_names.specs.UnitFaults.{unit_faults}
use Rattle.def_names.specs.NameFaults.{name_faults}
use Rattle.def_names.specs.CallFaults.{call_faults}
use Rattle.def_names.specs.ChainFaults.{chain_faults}
use Rattle.def_names.specs.WriteFaults.{shared_variables, written_values, write_faults}
use Rattle.def_meaning.specs.LeastSet.{Dummies}
use Rattle.def_names.specs.Numbers.{Vars}
use Rattle.law_emitted.specs.Checked.{IsChecked}
use Rattle.law_emitted.specs.Emitted.{AreShallow}
use Rattle.def_flow.specs.Problem.{Problem}
use Rattle.def_tangent.specs.Program.{Carried, tangent_program}
use Rattle.def_flow.specs.Carried.{IsCarrying, carried_by}
use Rattle.law_tangent_carried.specs.Worked.{caller_problem, caller_carries}

-- what is emitted for a checked program in kernel form, by exact analyses, is written
abbrev pub TangentIsWritten : Type 0
TangentIsWritten =
    (rules : Rules) (k : Problem) → IsChecked rules k.units → (varied on : ℕ → Vars) → IsCarrying k varied on → IsWritten (tangent_program (carried_by k.units on) k.units k.head k.vars)

-- ---- limits

-- it is nested no deeper than the source: marks stay, and loops as they were
abbrev pub KeepsNesting : Type 0
KeepsNesting = (n : ℕ) (c : Carried) (ps : List Procedure) → IsNested n ps → (head : ℕ) (vars : List Bool) → IsNested n (tangent_program c ps head vars)

-- its expressions are at most 4 deeper than those of the source
abbrev pub KeepsDepth : Type 0
KeepsDepth = (n : ℕ) (c : Carried) (ps : List Procedure) → AreShallow n ps → (head : ℕ) (vars : List Bool) → AreShallow (n + 4) (tangent_program c ps head vars)

-- ---- it has no faults

-- the names of its units are apart, and none is reserved
abbrev pub UnitsHaveNone : Type 0
UnitsHaveNone = (rules : Rules) (k : Problem) → IsChecked rules k.units → (c : Carried) → unit_faults (tangent_program c k.units k.head k.vars) ≡ []

-- its variables are declared once and stand with as many subscripts as they have extents, and their names are their own
abbrev pub NamesHaveNone : Type 0
NamesHaveNone =
    (rules : Rules) (k : Problem) → IsChecked rules k.units → (varied on : ℕ → Vars) → IsCarrying k varied on → name_faults run_rules (tangent_program (carried_by k.units on) k.units k.head k.vars) ≡ []

-- each of its CALLs is of a unit that it has, with an actual for each dummy, of its rank; and calls of the runtime take arrays where they should
abbrev pub CallsHaveNone : Type 0
CallsHaveNone =
    (rules : Rules) (k : Problem) → IsChecked rules k.units → (varied on : ℕ → Vars) → IsCarrying k varied on → call_faults (tangent_program (carried_by k.units on) k.units k.head k.vars) ≡ []

-- no CALL of it hands one variable to two dummies, and nothing but a name for a dummy that is written, whichever dummies those are
abbrev pub ActualsHaveNone : Type 0
ActualsHaveNone =
    (rules : Rules) (k : Problem) → IsChecked rules k.units → (varied on : ℕ → Vars) → IsCarrying k varied on → (handed : Dummies) →
    flat_map (λ u. shared_variables handed u ++ written_values handed u) (tangent_program (carried_by k.units on) k.units k.head k.vars) ≡ []

-- no calls of it lead back to their unit, and no chain of them is longer than one of the source, which a run takes
abbrev pub ChainsHaveNone : Type 0
ChainsHaveNone =
    (rules : Rules) (k : Problem) → IsChecked rules k.units → rules.chain ≤ run_rules.chain → (c : Carried) → chain_faults run_rules (tangent_program c k.units k.head k.vars) ≡ []

-- no statement of it writes the variable of a DO in whose body it stands, or an extent, and its CALLs have none of those faults
abbrev pub WritesHaveNone : Type 0
WritesHaveNone =
    (rules : Rules) (k : Problem) → IsChecked rules k.units → (varied on : ℕ → Vars) → IsCarrying k varied on → write_faults (tangent_program (carried_by k.units on) k.units k.head k.vars) ≡ []

-- so it has no fault as a text that is run, where the source's chains of calls are no longer than a run takes
abbrev pub TangentIsSound : Type 0
TangentIsSound =
    (rules : Rules) (k : Problem) → IsChecked rules k.units → rules.chain ≤ run_rules.chain → (varied on : ℕ → Vars) → IsCarrying k varied on → IsSound run_rules (tangent_program (carried_by k.units on) k.units k.head k.vars)

-- ---- of the worked program, by computing

abbrev pub CallerIsSound : Type 0
CallerIsSound = IsSound run_rules (tangent_program caller_carries caller_problem.units 0 caller_problem.vars)
