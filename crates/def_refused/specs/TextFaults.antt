-- TextFaults: the program of a text in a mode, or the first fault of the text, pass by pass.
use Rattle.std.specs.Prelude.{◌≡◌, ℕ, List, [], Some, Result, Ok, Err}
use Rattle.adj_tree.specs.Code.{Procedure}
use Rattle.adj_tree.specs.declared.fault.Refusal.{Refusal}
use Rattle.adj_tree.specs.Common.{Shared}
use Rattle.def_common.specs.Refused.{layout_refusal}
use Rattle.def_common.specs.Source.{without_blocks}
use Rattle.def_text.specs.Limits.{limits_of}
use Rattle.def_text.specs.Lined.{Lines}
use Rattle.def_text.specs.Reads.{ReadsShared}
use Rattle.def_text.specs.Refused.{◌>>=◌}
use Rattle.def_text.specs.declared.mode.Mode.{Mode}
use Rattle.def_text.specs.declared.stated.Stated.{Stated}
use Rattle.adj_parse.specs.Trees.{shared_program_of}
use Rattle.def_refused.specs.First.{HasNone, AreFaultless, IsFirst}
use Rattle.def_text.specs.Forming.{lines_in, FormStatements, FormsText}
use Rattle.def_refused.specs.LineFaults.{LineFault}
use Rattle.def_refused.specs.StatementFaults.{StatementFault}
use Rattle.def_refused.specs.TreeFaults.{TreeFault}

-- the program of a text in a mode, in which members of blocks are dummies, or the first fault of its lines, its statements, its trees or its blocks
abbrev pub program_of : Mode → List ℕ → Result (List Procedure) Refusal
program_of mode bytes = shared_program_of mode bytes >>= without_blocks

-- a fault of the lines, or of the statements that lines without a fault form, or of the units that statements without a fault are
pub data FirstOfText (mode : Mode) (bytes : List ℕ) (r : Refusal) : Type 0 where
  of_lines : IsFirst (LineFault (limits_of mode)) [] (lines_in bytes) r → FirstOfText mode bytes r
  of_statements : AreFaultless (LineFault (limits_of mode)) [] (lines_in bytes) → (ss : List Lines) → FormStatements (lines_in bytes) ss → IsFirst (StatementFault (limits_of mode)) [] ss r → FirstOfText mode bytes r
  of_trees : AreFaultless (LineFault (limits_of mode)) [] (lines_in bytes) → (stated : List Stated) → (form : FormsText bytes stated) → AreFaultless (StatementFault (limits_of mode)) [] form.lines → IsFirst (TreeFault mode) [] stated r → FirstOfText mode bytes r

-- such a fault; or where there is none, of the blocks of the units that the text reads as, where two units lay out one differently
pub data FirstFault (mode : Mode) (bytes : List ℕ) (r : Refusal) : Type 0 where
  of_text : FirstOfText mode bytes r → FirstFault mode bytes r
  of_blocks : HasNone (FirstOfText mode bytes) → (units : List Shared) → ReadsShared bytes units → layout_refusal units ≡ Some r → FirstFault mode bytes r

-- a text is refused by its first fault, and where there is none it has a program
abbrev pub TextRefused : Type 0
TextRefused = (mode : Mode) (bytes : List ℕ) (r : Refusal) → program_of mode bytes ≡ Err r → FirstFault mode bytes r

abbrev pub TextFirst : Type 0
TextFirst = (mode : Mode) (bytes : List ℕ) (r : Refusal) → FirstFault mode bytes r → program_of mode bytes ≡ Err r

abbrev pub TextAccepted : Type 0
TextAccepted = (mode : Mode) (bytes : List ℕ) → ((r : Refusal) → FirstFault mode bytes r → ⊥) → (program : List Procedure) × (program_of mode bytes ≡ Ok program)
