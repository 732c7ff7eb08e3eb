-- What was made is equal to the first part of the members.
use Rattle.std.proofs.Common.{◌≡◌, map, take}
use Rattle.adj_common.specs.Views.{entry_of}
use Rattle.adj_common.proofs.passing.all_own.Given as goal

abbrev pub invariant-loop-member : goal.invariant-loop-member
invariant-loop-member l = map entry_of l.out.items ≡ map entry_of (take l.member-index l.members)
