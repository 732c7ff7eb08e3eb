use Rattle.std.proofs.Common.{◌∙◌, ◌++◌, map}
use Rattle.std.specs.List.{flat_map}
use Rattle.adj_tree.specs.Code.{Act}
use Rattle.adj_tree.specs.Listed.{statement_of}
use Rattle.def_names.specs.Statements.{At}
use Rattle.def_names.specs.Variables.{Name}
use Rattle.adj_symbols_writes.specs.Graph.{placed_of, found_at, act_edges}
use Rattle.adj_symbols_writes.specs.Table.{value_of}
use Rattle.adj_symbols_writes.specs.View.{seen}
use Rattle.adj_symbols_writes.proofs.Stepping.{flat_more, flat_end}
use Rattle.adj_symbols_writes.proofs.links.add_acts.Goals as goal

pub loop-stmt-preserved : goal.loop-stmt-preserved
loop-stmt-preserved c =
    let find = λ (x : Name). found_at (map placed_of c.args.units.now) (value_of x c.args.numbers.now) in
    flat_more (λ t. statement_of t.now) (λ (s : At Act). act_edges find (placed_of c.args.dummies.now) s.1) c.args.stmts.now c.loop-stmt.stmt-index c.stmt-item.result c.loop-stmt.out.items c.add_act.new.out.items c.loop-stmt-test.true c.stmt-item.is c.in_ok-add_act.ensures.added
    ∙ c.loop-stmt.invariant

pub returns : goal.returns
returns c =
    let find = λ (x : Name). found_at (map placed_of c.args.units.now) (value_of x c.args.numbers.now) in
    let f = λ (s : At Act). act_edges find (placed_of c.args.dummies.now) s.1 in
    record { added = flat_end (λ t. statement_of t.now) f c.args.stmts.now c.loop-stmt.stmt-index c.loop-stmt.out.items (c.args.out.now.items ++ flat_map f (seen c.args.stmts.now)) c.loop-stmt-test.false c.loop-stmt.invariant }
