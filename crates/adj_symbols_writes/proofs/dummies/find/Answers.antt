use Rattle.std.proofs.Common.{map, ap, sym, ◌∙◌}
use Rattle.adj_symbols_writes.specs.Graph.{placed_of, found_at}
use Rattle.adj_symbols_writes.specs.Table.{value_of}
use Rattle.adj_symbols_writes.proofs.Lookups.{found_by}
use Rattle.adj_symbols_writes.proofs.dummies.find.Goals as goal

pub returns-in-Some : goal.returns-in-Some
returns-in-Some c = record {
  found = found_by placed_of c.args.units.now c.in-Some.number c.get-in-Some.result (found_at (map placed_of c.args.units.now) (value_of c.args.name.now c.args.numbers.now)) c.get-in-Some.ensures.lookup.0 c.get-in-Some.ensures.lookup.1
      (ap (found_at (map placed_of c.args.units.now)) (sym c.in-Some.is ∙ c.get.ensures.number));
}

pub returns-in-None : goal.returns-in-None
returns-in-None c = record { found = ap (found_at (map placed_of c.args.units.now)) (sym (sym c.in-None.is ∙ c.get.ensures.number)) }
