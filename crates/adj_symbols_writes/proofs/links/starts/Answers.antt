use Rattle.std.proofs.Common.{◌∙◌, map}
use Rattle.adj_symbols_writes.specs.Graph.{Unit', placed_of, nodes_of, starts}
use Rattle.adj_symbols_writes.specs.Names.{direct}
use Rattle.adj_symbols_writes.proofs.Stepping.{flat_more, flat_end}
use Rattle.adj_symbols_writes.proofs.links.starts.Goals as goal

pub loop-dummies-preserved : goal.loop-dummies-preserved
loop-dummies-preserved c =
    flat_more placed_of (λ (p : Unit'). nodes_of p (direct c.args.side p.1)) c.args.units.now c.loop-dummies.dummies-index c.dummies-item.result c.loop-dummies.starts.items c.add_starts.new.out.items c.loop-dummies-test.true c.dummies-item.is c.in_ok-add_starts.ensures.added
    ∙ c.loop-dummies.invariant

pub returns : goal.returns
returns c =
    let f = λ (p : Unit'). nodes_of p (direct c.args.side p.1) in
    record { starts = flat_end placed_of f c.args.units.now c.loop-dummies.dummies-index c.loop-dummies.starts.items (starts (direct c.args.side) (map placed_of c.args.units.now)) c.loop-dummies-test.false c.loop-dummies.invariant }
