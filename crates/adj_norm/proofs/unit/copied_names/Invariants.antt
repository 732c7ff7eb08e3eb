-- What was made is the first part of the list.
use Rattle.std.proofs.Common.{◌≡◌, take}
use Rattle.adj_norm.proofs.unit.copied_names.Given as goal

abbrev pub invariant-loop-name : goal.invariant-loop-name
invariant-loop-name l = l.made.items ≡ take l.name-index l.names
