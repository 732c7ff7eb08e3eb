-- The members passed, and those that are left.
use Rattle.std.proofs.Common.{◌≡◌, ◌++◌, map, drop}
use Rattle.adj_common.specs.Views.{entry_of}
use Rattle.adj_common.proofs.lowering.add_members.Given as goal

abbrev pub invariant-loop-member : goal.invariant-loop-member
invariant-loop-member l = map entry_of l.out.items ++ map entry_of (drop l.member-index l.members) ≡ map entry_of l.initial.out.items ++ map entry_of l.members
