-- The rows passed.
use Rattle.std.proofs.Common.{◌≡◌, map, take}
use Rattle.adj_tree.specs.CommonView.{common_of}
use Rattle.adj_common.specs.Entries.{entries_of_row}
use Rattle.adj_common.specs.Views.{entry_of, firsts_of}
use Rattle.adj_common.proofs.own.groups.Given as goal

abbrev pub invariant-loop-row : goal.invariant-loop-row
invariant-loop-row l = map (λ g. map entry_of g.items) l.out.items ≡ map (entries_of_row (firsts_of l.declared) (map common_of l.commons)) (map (λ r. r.items) (take l.row-index l.rows))
