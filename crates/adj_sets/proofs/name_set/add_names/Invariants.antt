-- The names passed are added.
use Rattle.std.proofs.Common.{◌≡◌, drop}
use Rattle.adj_sets.specs.Sets.{all_added}
use Rattle.adj_sets.proofs.name_set.add_names.Given as goal

abbrev pub invariant-loop-name : goal.invariant-loop-name
invariant-loop-name l = all_added l.set (drop l.name-index l.names) ≡ all_added l.fn.set l.names
