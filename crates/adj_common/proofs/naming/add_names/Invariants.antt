-- The names passed, and those that are left.
use Rattle.std.proofs.Common.{◌≡◌, ◌++◌, drop}
use Rattle.adj_symbols_writes.specs.View.{vars_seen}
use Rattle.adj_common.specs.Naming.{vars_of_names}
use Rattle.adj_common.proofs.naming.add_names.Given as goal

abbrev pub invariant-loop-name : goal.invariant-loop-name
invariant-loop-name l = vars_seen l.out.items ++ vars_of_names (drop l.name-index l.names) ≡ vars_seen l.initial.out.items ++ vars_of_names l.names
