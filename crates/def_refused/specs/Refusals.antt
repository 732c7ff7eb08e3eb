-- Refusals: an answer of the reader is a refusal exactly where there is a fault, and then it is the first one.
use Rattle.std.specs.Prelude.{◌≡◌, ℕ, List, [], Ok, Err}
use Rattle.adj_tree.specs.declared.fault.Refusal.{Refusal}
use Rattle.adj_tree.specs.Common.{Shared}
use Rattle.def_text.specs.Limits.{Limits}
use Rattle.def_text.specs.Lined.{Lines, lines_of}
use Rattle.def_text.specs.Stated.{all_stated}
use Rattle.def_text.specs.declared.mode.Mode.{Mode}
use Rattle.def_text.specs.declared.stated.Stated.{Stated}
use Rattle.adj_parse.specs.Trees.{trees_of}
use Rattle.def_refused.specs.First.{AreFaultless, IsFirst, IsAnswer}
use Rattle.def_text.specs.Forming.{lines_in}
use Rattle.def_refused.specs.LineFaults.{LineFault}
use Rattle.def_refused.specs.Prefixes.{ReadsUpTo}
use Rattle.def_refused.specs.StatementFaults.{StatementFault}
use Rattle.def_refused.specs.TreeFaults.{TreeFault}

-- of statements as their lines give them
abbrev pub StatementsAnswer : Type 0
StatementsAnswer = (limits : Limits) (ss : List Lines) → IsAnswer (StatementFault limits) [] ss (all_stated limits ss)

abbrev pub StatementsRefused : Type 0
StatementsRefused = (limits : Limits) (ss : List Lines) (r : Refusal) → IsFirst (StatementFault limits) [] ss r → all_stated limits ss ≡ Err r

abbrev pub StatementsAccepted : Type 0
StatementsAccepted = (limits : Limits) (ss : List Lines) → AreFaultless (StatementFault limits) [] ss → (stated : List Stated) × (all_stated limits ss ≡ Ok stated)

-- of the lines of a text
abbrev pub LinesAnswer : Type 0
LinesAnswer = (limits : Limits) (bytes : List ℕ) → IsAnswer (LineFault limits) [] (lines_in bytes) (lines_of limits bytes)

abbrev pub LinesRefused : Type 0
LinesRefused = (limits : Limits) (bytes : List ℕ) (r : Refusal) → IsFirst (LineFault limits) [] (lines_in bytes) r → lines_of limits bytes ≡ Err r

abbrev pub LinesAccepted : Type 0
LinesAccepted = (limits : Limits) (bytes : List ℕ) → AreFaultless (LineFault limits) [] (lines_in bytes) → (ss : List Lines) × (lines_of limits bytes ≡ Ok ss)

-- of the statements of a text, as units in a mode
abbrev pub TreesAnswer : Type 0
TreesAnswer = (mode : Mode) (stated : List Stated) → IsAnswer (TreeFault mode) [] stated (trees_of mode stated)

abbrev pub TreesRefused : Type 0
TreesRefused = (mode : Mode) (stated : List Stated) (r : Refusal) → IsFirst (TreeFault mode) [] stated r → trees_of mode stated ≡ Err r

abbrev pub TreesAccepted : Type 0
TreesAccepted = (mode : Mode) (stated : List Stated) → AreFaultless (TreeFault mode) [] stated → (units : List Shared) × (trees_of mode stated ≡ Ok units)

-- and such a text reads up to the refused statement
abbrev pub TreesReadUpTo : Type 0
TreesReadUpTo = (mode : Mode) (stated : List Stated) (r : Refusal) → trees_of mode stated ≡ Err r → ReadsUpTo mode stated r
