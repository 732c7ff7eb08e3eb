use Rattle.std.proofs.Common.{◌≡◌, ◌≤◌, ◌+◌, ◌-◌, length, min}
use Rattle.def_text.specs.Data.{text_len, data_line}
use Rattle.def_text.specs.Line.{cut_lines}
use Rattle.adj_fixed.proofs.data.data_part.Given as goal

abbrev pub invariant-loop-rest : goal.invariant-loop-rest
invariant-loop-rest l =
    (data_line l.number (cut_lines l.rest) ≡ data_line 0 (cut_lines l.bytes))
    × (length l.bytes - length l.rest + min (text_len (cut_lines l.rest)) (length l.rest) ≡ min (text_len (cut_lines l.bytes)) (length l.bytes))
    × (length l.rest ≤ length l.bytes)

abbrev pub decreases-loop-rest : goal.decreases-loop-rest
decreases-loop-rest l = length l.rest
