-- The dummies passed, and then the members passed.
use Rattle.std.proofs.Common.{◌≡◌, ◌++◌, map, take}
use Rattle.adj_common.specs.Views.{entry_of}
use Rattle.adj_common.specs.Members.{entry_names}
use Rattle.adj_common.proofs.lowering.dummies.Given as goal

abbrev pub invariant-loop-name : goal.invariant-loop-name
invariant-loop-name l = l.out.items ≡ take l.name-index l.own

abbrev pub invariant-loop-member : goal.invariant-loop-member
invariant-loop-member l = l.out.items ≡ l.own ++ entry_names (map entry_of (take l.member-index l.members))
