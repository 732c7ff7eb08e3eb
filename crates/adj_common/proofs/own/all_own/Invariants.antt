-- The units passed.
use Rattle.std.proofs.Common.{map, take}
use Rattle.adj_tree.specs.CommonView.{shared_of}
use Rattle.adj_common.specs.Entries.{AreOwn}
use Rattle.adj_common.specs.Views.{own_of}
use Rattle.adj_common.proofs.own.all_own.Given as goal

abbrev pub invariant-loop-unit : goal.invariant-loop-unit
invariant-loop-unit l = AreOwn (map shared_of (take l.unit-index l.units)) (map own_of l.out.items)
