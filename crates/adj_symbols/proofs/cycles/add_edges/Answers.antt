use Rattle.std.proofs.Common.{ap, ◌∙◌, ◌++◌, map}
use Rattle.std.specs.List.{flat_map}
use Rattle.adj_tree.specs.Code.{Act}
use Rattle.adj_tree.specs.Listed.{statement_of}
use Rattle.adj_tree.specs.View.{procedure_of, code_of}
use Rattle.def_names.specs.Statements.{At, statements}
use Rattle.def_names.specs.Calls.{call_in}
use Rattle.adj_symbols_writes.specs.View.{seen}
use Rattle.adj_symbols_writes.specs.Graph.{number_from}
use Rattle.adj_symbols.specs.Graph.{edge_of}
use Rattle.adj_symbols.proofs.CallsListed.{calls_listed, flat_more, flat_end}
use Rattle.adj_symbols.proofs.cycles.add_edges.Goals as goal

pub loop-stmt-preserved : goal.loop-stmt-preserved
loop-stmt-preserved c =
    let ps = map procedure_of c.args.scope.now in
    let p = c.stmt-item.result in
    flat_more (λ t. statement_of t.now) (λ s. flat_map (λ b. edge_of c.args.from (number_from 0 ps b.0)) (call_in s.1)) c.statements-stmt-items.result.now c.loop-stmt.stmt-index p c.loop-stmt.edges.items c.add_edge.new.edges.items c.loop-stmt-test.true c.stmt-item.is c.in_ok-add_edge.ensures
    ∙ c.loop-stmt.invariant

pub returns : goal.returns
returns c =
    let ps = map procedure_of c.args.scope.now in
    let f = λ (s : At Act). flat_map (λ b. edge_of c.args.from (number_from 0 ps b.0)) (call_in s.1) in
    let ss = c.statements-stmt-items.result.now in
    let old = c.args.edges.now.items in
    flat_end (λ t. statement_of t.now) f ss c.loop-stmt.stmt-index c.loop-stmt.edges.items (old ++ flat_map f (seen ss)) c.loop-stmt-test.false c.loop-stmt.invariant
    ∙ ap (λ z. old ++ flat_map f z) c.statements-stmt-items.ensures.statements
    ∙ ap (λ z. old ++ z) (calls_listed (λ b. edge_of c.args.from (number_from 0 ps (b.1).0)) (statements (code_of c.args.outline.now.body)))
