-- The units passed, and those that are left.
use Rattle.std.proofs.Common.{◌≡◌, map, drop}
use Rattle.std.specs.Option.{option_or}
use Rattle.adj_tree.specs.View.{procedure_of}
use Rattle.def_names.specs.Variables.{Name}
use Rattle.adj_symbols_writes.specs.Graph.{number_from}
use Rattle.adj_symbols_writes.specs.Table.{value_of}
use Rattle.adj_symbols_writes.proofs.table.unit_numbers.Given as goal

abbrev pub invariant-loop-number : goal.invariant-loop-number
invariant-loop-number l = (x : Name) → option_or (value_of x l.numbers) (number_from l.number (map procedure_of (drop l.number l.units)) x) ≡ number_from 0 (map procedure_of l.units) x
