-- The groups passed, and those that are left.
use Rattle.std.proofs.Common.{◌≡◌, ◌++◌, map, drop}
use Rattle.adj_common.specs.Views.{entry_of}
use Rattle.adj_common.specs.Members.{all_entries}
use Rattle.adj_common.proofs.lowering.joined.Given as goal

abbrev pub invariant-loop-group : goal.invariant-loop-group
invariant-loop-group l = map entry_of l.out.items ++ all_entries (map (λ g. map entry_of g.items) (drop l.group-index l.groups)) ≡ all_entries (map (λ g. map entry_of g.items) l.groups)
