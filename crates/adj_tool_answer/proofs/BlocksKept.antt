-- What a text reads as is written, and where the program without its blocks has no fault each unit's run with blocks is its run there.
use Rattle.std.proofs.Common.{◌≡◌, ℕ, List, Ok, subst}
use Rattle.adj_tree.specs.Code.{Procedure}
use Rattle.def_text.specs.Limits.{no_limits, limits_of}
use Rattle.def_text.specs.Reads.{ReadsShared}
use Rattle.def_text.specs.Stated.{statements_of}
use Rattle.def_text.specs.Written.{AreWritten}
use Rattle.def_text.specs.declared.mode.Mode.{Mode}
use Rattle.def_text.proofs.LinesMarked.{bind_ok}
use Rattle.def_text.proofs.Unlimited.{statements_follow}
use Rattle.def_names.specs.Fault.{Rules}
use Rattle.def_names.specs.Check.{IsSound}
use Rattle.def_common.specs.Source.{without_blocks, ReadsLowered, KeepsRuns}
use Rattle.law_common.proofs.Accepted.{source_keeps}
use Rattle.adj_parse.specs.Trees.{shared_program_of, trees_of}
use Rattle.adj_parse.proofs.TextReads.{one_program, text_reads, text_written}
use Rattle.def_refused.specs.TextFaults.{program_of}

read_written : (mode : Mode) (bytes : List ℕ) (ps : List Procedure) → program_of mode bytes ≡ Ok ps → (r : ReadsLowered bytes ps) → AreWritten r.shared
read_written mode bytes ps h r =
    let a = bind_ok (shared_program_of mode bytes) without_blocks ps h in
    let b = bind_ok (statements_of (limits_of mode) bytes) (trees_of mode) a.0 a.1 in
    let unlimited : statements_of no_limits bytes ≡ Ok b.0 = rw b.1 at (statements_follow (limits_of mode) bytes) in
    let reads : ReadsShared bytes a.0 = text_reads mode b.0 a.0 b.2 bytes unlimited in
    subst AreWritten (one_program bytes a.0 r.shared reads r.reads) (text_written mode b.0 a.0 b.2 (bytes, b.1))

-- so the program that is checked does what the text does
pub blocks_kept : (m : Rules) (mode : Mode) (bytes : List ℕ) (ps : List Procedure) → program_of mode bytes ≡ Ok ps → IsSound m ps → (r : ReadsLowered bytes ps) → KeepsRuns r.shared
blocks_kept m mode bytes ps h s r = source_keeps m bytes ps r (read_written mode bytes ps h r) s
