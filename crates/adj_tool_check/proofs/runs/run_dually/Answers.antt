use Rattle.std.proofs.Common.{[], Some, map}
use Rattle.adj_tree.specs.View.{procedures_of}
use Rattle.def_meaning.specs.Numbers.{duals}
use Rattle.def_meaning.specs.Units.{run_unit}
use Rattle.adj_interp.specs.Dually.{dual_slots}
use Rattle.adj_tool_answer.specs.EndingViews.{asked_of}
use Rattle.adj_tool_check.proofs.Endings.{dual_done_so, dual_ends_stopped}
use Rattle.adj_tool_check.proofs.runs.run_dually.Goals as goal

pub returns-in-Ok : goal.returns-in-Ok
returns-in-Ok c = λ u here.
    let r = asked_of c.args.request.now in
    dual_done_so r (run_unit duals (procedures_of c.args.program.now.program) u (dual_slots c.args.input c.args.tangents) [] (Some 0) r.budget) c.in-Ok._values c.in-Ok.tangents (c.in-Ok.ensures.ends u here)

pub returns-in-Err : goal.returns-in-Err
returns-in-Err c = λ u here.
    let r = asked_of c.args.request.now in
    dual_ends_stopped r (run_unit duals (procedures_of c.args.program.now.program) u (dual_slots c.args.input c.args.tangents) [] (Some 0) r.budget) c.in-Err.stop (c.in-Err.ensures.ends u here)
