use Rattle.std.proofs.Common.{[], Some, map, subst}
use Rattle.std.specs.Prelude.{Ok, Err}
use Rattle.adj_tree.specs.View.{procedures_of}
use Rattle.def_meaning.specs.Numbers.{words}
use Rattle.def_meaning.specs.Units.{run_unit}
use Rattle.adj_data.specs.Given.{slot_seen}
use Rattle.adj_interp.specs.Concludes.{Concludes}
use Rattle.adj_tool_answer.specs.EndingViews.{asked_of}
use Rattle.adj_tool_check.proofs.Endings.{done_so, ends_stopped}
use Rattle.adj_tool_check.proofs.runs.run_on.Goals as goal

pub returns-in-Ok : goal.returns-in-Ok
returns-in-Ok c = λ u here.
    let r = asked_of c.args.request.now in
    let ps = procedures_of c.args.program.now.program in
    let input = map slot_seen c.args.input in
    let tape = c.run.new.tape in
    let log = c.run.new.log in
    done_so r tape log (run_unit words ps u input [] (Some r.room) r.budget) c.in-Ok.values
    (subst (λ o. Concludes o (Ok c.in-Ok.values) tape log) (λ i. run_unit words ps u input (c.in_ok-tape.ensures.empty i) (Some (c.in_ok-tape.ensures.room i)) r.budget) (c.in-Ok.ensures.ends u here))

pub returns : goal.returns
returns c = λ u here.
    let r = asked_of c.args.request.now in
    let ps = procedures_of c.args.program.now.program in
    let input = map slot_seen c.args.input in
    let tape = c.run.new.tape in
    let log = c.run.new.log in
    ends_stopped r tape log (run_unit words ps u input [] (Some r.room) r.budget) c.in-Err.stop
    (subst (λ o. Concludes o (Err c.in-Err.stop) tape log) (λ i. run_unit words ps u input (c.in_ok-tape.ensures.empty i) (Some (c.in_ok-tape.ensures.room i)) r.budget) (c.in-Err.ensures.ends u here))
