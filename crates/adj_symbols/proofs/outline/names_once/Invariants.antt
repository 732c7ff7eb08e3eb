-- The names passed, and those that are left.
use Rattle.std.proofs.Common.{◌≡◌, drop}
use Rattle.std.specs.Prelude.{fold}
use Rattle.adj_sets.specs.Sets.{with_name}
use Rattle.adj_symbols.specs.Table.{once}
use Rattle.adj_symbols.proofs.outline.names_once.Given as goal

abbrev pub invariant-loop-name : goal.invariant-loop-name
invariant-loop-name l = fold with_name l.set (drop l.name-index l.names) ≡ once l.names
