use Rattle.std.proofs.Common.{◌≡◌, length}
use Rattle.def_text.specs.Limits.{limits_of}
use Rattle.def_text.specs.Line.{cut_lines}
use Rattle.def_text.specs.Lined.{start, pass_over}
use Rattle.adj_fixed.specs.View.{pass_of}
use Rattle.adj_fixed.proofs.lined.lines_of.Given as goal

abbrev pub invariant-loop-rest : goal.invariant-loop-rest
invariant-loop-rest l = pass_over (limits_of l.mode) (pass_of l.reader) l.number (cut_lines l.rest) ≡ pass_over (limits_of l.mode) start 1 (cut_lines l.bytes)

abbrev pub decreases-loop-rest : goal.decreases-loop-rest
decreases-loop-rest l = length l.rest
