-- Laws: what the code goes by is what texts are.
use Rattle.std.specs.Prelude.{◌≡◌, ℕ, List, Result}
use Rattle.adj_tree.specs.Code.{Procedure}
use Rattle.adj_tree.specs.declared.fault.Refusal.{Refusal}
use Rattle.def_common.specs.Source.{without_blocks}
use Rattle.def_text.specs.Limits.{limits_of}
use Rattle.def_text.specs.Refused.{◌>>=◌}
use Rattle.def_text.specs.Stated.{statements_of}
use Rattle.def_text.specs.declared.mode.Mode.{Mode}
use Rattle.def_text.specs.declared.stated.Stated.{Stated}
use Rattle.adj_parse.specs.Trees.{trees_of}
use Rattle.def_refused.specs.TextFaults.{program_of}
use Rattle.adj_tool_answer.specs.Programs.{AreStatements, AreUnits, IsProgram}

-- of statements
abbrev pub StatementsTold : Type 0
StatementsTold = (mode : Mode) (bytes : List ℕ) → AreStatements mode bytes (statements_of (limits_of mode) bytes)

abbrev pub StatementsOnly : Type 0
StatementsOnly = (mode : Mode) (bytes : List ℕ) (found : Result (List Stated) Refusal) → AreStatements mode bytes found → statements_of (limits_of mode) bytes ≡ found

-- of units and their blocks
abbrev pub UnitsTold : Type 0
UnitsTold = (mode : Mode) (stated : List Stated) → AreUnits mode stated (trees_of mode stated >>= without_blocks)

-- of programs
abbrev pub ProgramTold : Type 0
ProgramTold = (mode : Mode) (bytes : List ℕ) → IsProgram mode bytes (program_of mode bytes)

abbrev pub ProgramOnly : Type 0
ProgramOnly = (mode : Mode) (bytes : List ℕ) (found : Result (List Procedure) Refusal) → IsProgram mode bytes found → program_of mode bytes ≡ found
