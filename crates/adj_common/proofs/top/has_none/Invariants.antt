-- The units passed have none.
use Rattle.std.proofs.Common.{◌≡◌, map, drop}
use Rattle.adj_tree.specs.CommonView.{shared_of}
use Rattle.def_common.specs.Blocks.{all_blocks}
use Rattle.adj_common.proofs.top.has_none.Given as goal

abbrev pub invariant-loop-shared : goal.invariant-loop-shared
invariant-loop-shared l = all_blocks (map shared_of (drop l.shared-index l.units)) ≡ all_blocks (map shared_of l.units)
