-- What the program without blocks means.
use Rattle.std.specs.Prelude.{ℕ, List}
use Rattle.adj_tree.specs.Code.{Procedure}
use Rattle.def_text.specs.Written.{AreWritten}
use Rattle.def_names.specs.Fault.{Rules}
use Rattle.def_names.specs.Check.{IsSound}
use Rattle.adj_tree.specs.Common.{Shared}
use Rattle.def_common.specs.Source.{ReadsLowered, KeepsRuns}
use Rattle.law_common.specs.Accepted.{Accepted}

-- Where a program meets the premises, each unit's run with blocks is its run in the lowered program: both give the same slots, tape and events
-- after as many statements, or the same trap at the same line, or both run out of statements or of tape.
abbrev pub LoweringKeeps : Type 0
LoweringKeeps = (m : Rules) (ps : List Shared) → Accepted m ps → KeepsRuns ps

-- the same of what a text reads as, where the program that is checked has no fault
abbrev pub SourceKeeps : Type 0
SourceKeeps = (m : Rules) (bytes : List ℕ) (program : List Procedure) (r : ReadsLowered bytes program) → AreWritten r.shared → IsSound m program → KeepsRuns r.shared
