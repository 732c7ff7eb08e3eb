-- The names left are still to be added.
use Rattle.std.proofs.Common.{◌≡◌, drop}
use Rattle.adj_sets.specs.Sets.{all_added}
use Rattle.adj_norm.proofs.names.add_listed.Given as goal

abbrev pub invariant-loop-name : goal.invariant-loop-name
invariant-loop-name l = all_added l.names (drop l.name-index l.listed) ≡ all_added l.fn.names l.listed
