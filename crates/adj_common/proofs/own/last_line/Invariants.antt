-- The places passed.
use Rattle.std.proofs.Common.{◌≡◌, map, drop}
use Rattle.adj_tree.specs.CommonView.{common_of}
use Rattle.adj_common.specs.Entries.{line_of_row}
use Rattle.adj_common.proofs.own.last_line.Given as goal

abbrev pub invariant-loop-place : goal.invariant-loop-place
invariant-loop-place l = line_of_row l.last (map common_of l.commons) (drop l.place-index l.row) ≡ line_of_row l.line (map common_of l.commons) l.row
