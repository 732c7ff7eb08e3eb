-- Reading: what a text in Run mode gives that is written for a program which keeps the limits of a run.
use Rattle.std.specs.Prelude.{◌≡◌, ◌≤◌, ℕ, List, length, true, Ok}
use Rattle.adj_tree.specs.Code.{Procedure}
use Rattle.adj_tree.specs.Lines.{unlined}
use Rattle.def_text.specs.Text.{text_of}
use Rattle.def_text.specs.Written.{IsWritten}
use Rattle.def_text.specs.declared.mode.Mode.TheVariants.{Source, Run}
use Rattle.adj_tree.specs.Size.{IsNested}
use Rattle.def_names.specs.Fault.{source_rules}
use Rattle.def_names.specs.Check.{IsSound}
use Rattle.def_kernel.specs.Kernel.{EachUnit}
use Rattle.def_refused.specs.TextFaults.{program_of}
use Rattle.law_limits.specs.Rule.{keeps}
use Rattle.law_limits.specs.Kept.{short_names, shallow, IsKept, statements_in}
use Rattle.def_text.specs.OrTooMany.{OrTooMany}

-- the canonical text of a program that can be written and keeps the limits of a run reads in Run mode as that program, up to line numbers, or has too many statements
abbrev pub KeptReads : Type 0
KeptReads = (program : List Procedure) → IsWritten program → IsKept 63 120 45 program → OrTooMany (λ found. unlined found ≡ unlined program) (program_of Run (text_of program))

-- ---- what a user writes

-- the limits of Source mode: a logical IF is one statement of the text, and two of the program
pub record IsSource (program : List Procedure) : Type 0 where
  pub depths : keeps (shallow 100) program ≡ true
  pub nested : IsNested 30 program
  pub few_units : length program ≤ 2000
  pub few_statements : statements_in program ≤ 400000
  pub units : EachUnit (λ u. length u.name ≤ 31) program
  -- a member of a block that a unit passes through has a name of its own there, which may be longer than those of the text
  pub names : IsSound source_rules program → keeps (short_names 40) program ≡ true

-- the program of a text in Source mode, in which members of blocks are dummies, keeps them
abbrev pub SourceIsKept : Type 0
SourceIsKept = (bytes : List ℕ) (program : List Procedure) → program_of Source bytes ≡ Ok program → IsSource program
