-- Units looked up by name.
use Rattle.std.specs.Prelude.{◌≡◌, ℕ, List, [], ◌∷◌, Option, Some, None}
use Rattle.adj_tree.specs.Code.{Procedure}
use Rattle.adj_tree.specs.Codes.{code_number}
use Rattle.adj_tree.specs.declared.code.Code.{Code}
use Rattle.adj_tree.specs.declared.fault.Refusal.{Refusal}
use Rattle.def_names.specs.Fault.{fault}
use Rattle.def_names.specs.Variables.{Name}
use Rattle.adj_symbols_writes.specs.Table.{value_of}
use Rattle.adj_symbols_writes.specs.Graph.{number_from}

-- the numbers of all units
abbrev pub AreNumbers : List Procedure → List (Name × ℕ) → Type 0
AreNumbers ps numbers = (x : Name) → value_of x numbers ≡ number_from 0 ps x

-- a fault with a code, where there is one
abbrev pub faults_with : Option Code → ℕ → List Refusal
faults_with None line = []
faults_with (Some code) line = fault (code_number code) line ∷ []
