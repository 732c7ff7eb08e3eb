-- The rows passed.
use Rattle.std.proofs.Common.{◌≡◌, map, take}
use Rattle.adj_tree.specs.CommonView.{common_of}
use Rattle.adj_common.specs.Entries.{line_of_row}
use Rattle.adj_common.proofs.own.lines.Given as goal

abbrev pub invariant-loop-row : goal.invariant-loop-row
invariant-loop-row l = l.out.items ≡ map (line_of_row l.line (map common_of l.commons)) (map (λ r. r.items) (take l.row-index l.rows))
