-- Scanned: the first fault of a text as the scan of its lines and statements meets it.
use Rattle.std.specs.Prelude.{◌≡◌, ℕ, List, [], Ok}
use Rattle.adj_tree.specs.declared.fault.Refusal.{Refusal}
use Rattle.def_text.specs.Forming.{lines_in}
use Rattle.def_text.specs.Limits.{limits_of}
use Rattle.def_text.specs.Lined.{Lines, lines_of}
use Rattle.def_text.specs.Stated.{statements_of}
use Rattle.def_text.specs.declared.mode.Mode.{Mode}
use Rattle.def_text.specs.declared.stated.Stated.{Stated}
use Rattle.def_refused.specs.First.{IsFirst}
use Rattle.def_refused.specs.LineFaults.{LineFault}
use Rattle.def_refused.specs.StatementFaults.{StatementFault}
use Rattle.def_refused.specs.TreeFaults.{TreeFault}

-- a fault of the lines, or of the statements that the scan gives of lines without a fault, or of the units that statements without a fault are
pub data FirstScanned (mode : Mode) (bytes : List ℕ) (r : Refusal) : Type 0 where
  in_lines : IsFirst (LineFault (limits_of mode)) [] (lines_in bytes) r → FirstScanned mode bytes r
  in_statements : (ss : List Lines) → lines_of (limits_of mode) bytes ≡ Ok ss → IsFirst (StatementFault (limits_of mode)) [] ss r → FirstScanned mode bytes r
  in_trees : (stated : List Stated) → statements_of (limits_of mode) bytes ≡ Ok stated → IsFirst (TreeFault mode) [] stated r → FirstScanned mode bytes r
