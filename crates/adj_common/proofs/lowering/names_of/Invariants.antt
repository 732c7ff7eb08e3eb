-- The names of the members passed.
use Rattle.std.proofs.Common.{◌≡◌, map, take}
use Rattle.adj_common.specs.Views.{entry_of}
use Rattle.adj_common.specs.Members.{entry_names}
use Rattle.adj_common.proofs.lowering.names_of.Given as goal

abbrev pub invariant-loop-member : goal.invariant-loop-member
invariant-loop-member l = l.out.items ≡ entry_names (map entry_of (take l.member-index l.members))
