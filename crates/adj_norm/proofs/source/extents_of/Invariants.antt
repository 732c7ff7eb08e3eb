-- The extents of the variables left are still to be added.
use Rattle.std.proofs.Common.{◌≡◌, List, [], drop}
use Rattle.adj_tree.specs.Code.{Declaration}
use Rattle.adj_sets.specs.Sets.{all_added}
use Rattle.adj_norm.specs.Source.{all_extents_in, Declares}
use Rattle.adj_norm.proofs.source.extents_of.Given as goal

abbrev pub invariant-loop-x : goal.invariant-loop-x
invariant-loop-x l = record { left : (ds : List Declaration) → Declares l.declared ds → all_added l.names (all_extents_in ds (drop l.x-index l.used)) ≡ all_added [] (all_extents_in ds l.used) }
