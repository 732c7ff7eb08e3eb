-- The flags of the units passed, and those of the units that are left.
use Rattle.std.proofs.Common.{◌≡◌, ◌++◌, drop, map}
use Rattle.adj_tree.specs.View.{procedure_of}
use Rattle.adj_reach.specs.Edges.{flag}
use Rattle.adj_flow.specs.SplitFlags.{all_flags}
use Rattle.adj_flow.proofs.splits.unit_flags.Given as goal

abbrev pub invariant-loop-unit : goal.invariant-loop-unit
invariant-loop-unit l = l.flags.items ++ all_flags (flag l.lines) (drop l.unit-index (map procedure_of l.units)) ≡ all_flags (flag l.lines) (map procedure_of l.units)
