-- What was made is the first part of the names.
use Rattle.std.proofs.Common.{◌≡◌, take}
use Rattle.adj_symbols_writes.specs.View.{names_seen}
use Rattle.adj_common.proofs.naming.copied.Given as goal

abbrev pub invariant-loop-name : goal.invariant-loop-name
invariant-loop-name l = l.out.items ≡ names_seen (take l.name-index l.names)
