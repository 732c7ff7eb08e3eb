use Rattle.std.proofs.Common.{ap, ◌∙◌, ◌++◌}
use Rattle.def_names.specs.Variables.{Name}
use Rattle.adj_symbols_writes.specs.Graph.{placed_of, place_from, list_of, nodes_of}
use Rattle.adj_symbols_writes.specs.View.{names_seen}
use Rattle.adj_symbols_writes.proofs.Stepping.{flat_more, flat_end}
use Rattle.adj_symbols_writes.proofs.links.add_nodes.Goals as goal

pub loop-name-preserved : goal.loop-name-preserved
loop-name-preserved c =
    let p = placed_of c.args.dummies.now in
    flat_more (λ t. t.now) (λ (x : Name). list_of (place_from p.0 (p.1).dummies x)) c.args.names.now c.loop-name.name-index c.name-item.result c.loop-name.out.items c.add_node.new.out.items c.loop-name-test.true c.name-item.is
    (c.in_ok-add_node.ensures.added ∙ ap (λ o. c.loop-name.out.items ++ list_of o) c.node.ensures.node)
    ∙ c.loop-name.invariant

pub returns : goal.returns
returns c =
    let p = placed_of c.args.dummies.now in
    let f = λ (x : Name). list_of (place_from p.0 (p.1).dummies x) in
    record { added = flat_end (λ t. t.now) f c.args.names.now c.loop-name.name-index c.loop-name.out.items (c.args.out.now.items ++ nodes_of p (names_seen c.args.names.now)) c.loop-name-test.false c.loop-name.invariant }
