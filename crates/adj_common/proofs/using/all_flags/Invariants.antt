-- The rows passed.
use Rattle.std.proofs.Common.{map, take}
use Rattle.adj_common.specs.Views.{text_of}
use Rattle.adj_common.specs.Using.{AreReached}
use Rattle.adj_common.proofs.using.all_flags.Given as goal

abbrev pub invariant-loop-row : goal.invariant-loop-row
invariant-loop-row l = AreReached l.edges (text_of l.blocks).owners (map (λ r. r.items) (take l.row-index l.row-items)) l.all.items
