-- The units passed, and those that are left.
use Rattle.std.proofs.Common.{◌≡◌, ◌++◌, map, drop}
use Rattle.adj_tree.specs.View.{procedure_of}
use Rattle.adj_tree.specs.CommonView.{shared_of}
use Rattle.adj_common.specs.Lowering.{all_lowered}
use Rattle.adj_common.specs.Views.{known_of}
use Rattle.adj_common.proofs.top.lowered.Given as goal

abbrev pub invariant-loop-unit : goal.invariant-loop-unit
invariant-loop-unit l = map procedure_of l.out.items ++ all_lowered (known_of l.text) (drop l.unit (known_of l.text).owns) (map shared_of (drop l.unit l.units)) ≡ all_lowered (known_of l.text) (known_of l.text).owns (map shared_of l.units)
