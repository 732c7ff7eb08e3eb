use Rattle.std.proofs.Common.{◌∙◌, ◌++◌}
use Rattle.std.specs.List.{flat_map}
use Rattle.adj_tree.specs.Code.{Act}
use Rattle.adj_tree.specs.Listed.{statement_of}
use Rattle.def_names.specs.Statements.{At}
use Rattle.adj_symbols_writes.specs.View.{seen, vars_seen}
use Rattle.adj_symbols_writes.proofs.Stepping.{flat_more, flat_end}
use Rattle.adj_common.specs.Naming.{vars_in_act}
use Rattle.adj_common.proofs.naming.add_acts.Goals as goal

pub loop-stmt-preserved : goal.loop-stmt-preserved
loop-stmt-preserved c =
    flat_more (λ t. statement_of t.now) (λ s. vars_in_act s.1) c.args.stmts.now c.loop-stmt.stmt-index c.stmt-item.result (vars_seen c.loop-stmt.out.items) (vars_seen c.add_act.new.out.items) c.loop-stmt-test.true c.stmt-item.is c.in_ok-add_act.ensures.added
    ∙ c.loop-stmt.invariant

pub returns : goal.returns
returns c =
    let f = λ (s : At Act). vars_in_act s.1 in
    record { added = flat_end (λ t. statement_of t.now) f c.args.stmts.now c.loop-stmt.stmt-index (vars_seen c.loop-stmt.out.items) (vars_seen c.args.out.now.items ++ flat_map f (seen c.args.stmts.now)) c.loop-stmt-test.false c.loop-stmt.invariant }
