use Rattle.std.proofs.Common.{◌≡◌, [], map, replicate}
use Rattle.adj_jacobian_groups.proofs.lists.Lists.new.Given as goal

-- the lists so far are empty
abbrev pub invariant-loop-list : goal.invariant-loop-list
invariant-loop-list l = map (λ v. v.items) l.lists.items ≡ replicate l._list []
