use Rattle.std.proofs.Common.{ap, ◌∙◌, ◌++◌, map}
use Rattle.std.specs.List.{flat_map}
use Rattle.adj_tree.specs.Code.{Procedure}
use Rattle.adj_tree.specs.View.{procedure_of}
use Rattle.def_names.specs.Calls.{calls_from}
use Rattle.adj_symbols.specs.Graph.{edges_from}
use Rattle.adj_symbols.proofs.CallsListed.{flat_more, flat_end}
use Rattle.adj_symbols.proofs.cycles.all_edges.Goals as goal
use Rattle.adj_symbols_writes.specs.Graph.{number_from}

pub loop-outline-preserved : goal.loop-outline-preserved
loop-outline-preserved c =
    let ps = map procedure_of c.args.scope.now in
    let f = λ (u : Procedure). edges_from ps (number_from 0 ps u.name) (calls_from ps u.name) in
    flat_more procedure_of f c.outlines-outline-items.result.now c.loop-outline.outline-index c.outline-item.result c.loop-outline.edges.items c.add_named_edges.new.edges.items c.loop-outline-test.true c.outline-item.is
    (c.in_ok-add_named_edges.ensures ∙ ap (λ u. c.loop-outline.edges.items ++ f (procedure_of u)) c.unit.ensures.unit)
    ∙ c.loop-outline.invariant

pub returns : goal.returns
returns c =
    let ps = map procedure_of c.args.scope.now in
    let f = λ (u : Procedure). edges_from ps (number_from 0 ps u.name) (calls_from ps u.name) in
    let us = c.outlines-outline-items.result.now in
    flat_end procedure_of f us c.loop-outline.outline-index c.loop-outline.edges.items (flat_map f (map procedure_of us)) c.loop-outline-test.false c.loop-outline.invariant
    ∙ ap (λ z. flat_map f (map procedure_of z)) c.outlines-outline-items.ensures.outlines
