use Rattle.std.proofs.Common.{◌∙◌, map}
use Rattle.def_names.specs.Variables.{Name}
use Rattle.adj_symbols_writes.specs.Graph.{placed_of, found_at, unit_edges, edges}
use Rattle.adj_symbols_writes.specs.Table.{value_of}
use Rattle.adj_symbols_writes.proofs.Stepping.{flat_more, flat_end}
use Rattle.adj_symbols_writes.proofs.links.edges.Goals as goal

pub loop-dummies-preserved : goal.loop-dummies-preserved
loop-dummies-preserved c =
    let find = λ (x : Name). found_at (map placed_of c.args.units.now) (value_of x c.args.numbers.now) in
    flat_more placed_of (unit_edges find) c.args.units.now c.loop-dummies.dummies-index c.dummies-item.result c.loop-dummies.edges.items c.add_unit.new.out.items c.loop-dummies-test.true c.dummies-item.is c.in_ok-add_unit.ensures.added
    ∙ c.loop-dummies.invariant

pub returns : goal.returns
returns c =
    let find = λ (x : Name). found_at (map placed_of c.args.units.now) (value_of x c.args.numbers.now) in
    record { edges = flat_end placed_of (unit_edges find) c.args.units.now c.loop-dummies.dummies-index c.loop-dummies.edges.items (edges find (map placed_of c.args.units.now)) c.loop-dummies-test.false c.loop-dummies.invariant }
