-- The rows passed, and those that are left.
use Rattle.std.proofs.Common.{◌≡◌, map, drop}
use Rattle.adj_common.specs.Views.{own_of, text_of}
use Rattle.adj_common.specs.Layouts.{earliest_from, refused_line}
use Rattle.adj_common.proofs.layouts.refused_line.Given as goal

abbrev pub invariant-loop-block : goal.invariant-loop-block
invariant-loop-block l = earliest_from (map own_of l.owns) (text_of l.blocks) l.block (map (λ r. r.items) (drop l.block l.row-items)) l.line ≡ refused_line (map own_of l.owns) (text_of l.blocks)
