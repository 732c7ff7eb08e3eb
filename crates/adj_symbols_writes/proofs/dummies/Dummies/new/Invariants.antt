-- The dummies passed, and those that are left.
use Rattle.std.proofs.Common.{◌≡◌, ◌+◌, length, drop}
use Rattle.std.specs.Option.{option_or}
use Rattle.def_names.specs.Variables.{Name}
use Rattle.adj_symbols_writes.specs.Graph.{place_from}
use Rattle.adj_symbols_writes.specs.Table.{value_of}
use Rattle.adj_symbols_writes.proofs.dummies.Dummies.new.Given as goal

abbrev pub invariant-loop-name : goal.invariant-loop-name
invariant-loop-name l = record {
  passed : length l.all.items ≡ l.first + l.name-index;
  known : (x : Name) → option_or (value_of x l.nodes) (place_from (length l.all.items) (drop l.name-index l.name-items) x) ≡ place_from l.first l.unit.dummies x;
}
