-- The groups passed.
use Rattle.std.proofs.Common.{◌≡◌, map, take}
use Rattle.adj_common.specs.Views.{entry_of}
use Rattle.adj_common.specs.Members.{entry_names}
use Rattle.adj_common.proofs.lowering.all_names.Given as goal

abbrev pub invariant-loop-group : goal.invariant-loop-group
invariant-loop-group l = map (λ g. g.items) l.out.items ≡ map entry_names (map (λ g. map entry_of g.items) (take l.group-index l.groups))
