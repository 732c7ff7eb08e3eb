-- Lengths of chains by the numbers of units, and which of them are looked at.
use Rattle.std.specs.Prelude.{ℕ, suc, min, nat_lt, List, ◌&&◌, Option, Some, None, slice_index}
use Rattle.adj_tree.specs.Code.{Act, Procedure}
use Rattle.adj_tree.specs.declared.fault.Refusal.{Refusal}
use Rattle.def_names.specs.Statements.{At}
use Rattle.def_names.specs.Variables.{Name}
use Rattle.def_names.specs.Calls.{act_chain, chain}
use Rattle.def_names.specs.ChainFaults.{begins_chain}
use Rattle.def_names.specs.Fault.{passed, faults_if}
use Rattle.adj_symbols_writes.specs.Graph.{number_from}

-- the length at a number, 0 where there is none
abbrev pub length_at : List ℕ → Option ℕ → ℕ
length_at lengths None = 0
length_at lengths (Some n) = slice_index lengths n

-- the length from the unit of a name on
abbrev pub length_of : List Procedure → List ℕ → Name → ℕ
length_of ps lengths x = length_at lengths (number_from 0 ps x)

-- the fault of a statement with which too long a chain begins
abbrev pub faults_of_chain : ℕ → (Name → ℕ) → At Act → List Refusal
faults_of_chain limit below s = faults_if (begins_chain s.1 && nat_lt limit (suc (act_chain below s.1))) (passed limit s.0)

-- the length from a unit on, itself counted, up to a limit
abbrev pub longer : ℕ → (Name → ℕ) → Procedure → ℕ
longer limit below u = min limit (suc (chain below u.body))
