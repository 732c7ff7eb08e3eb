use Rattle.std.proofs.Common.{◌≡◌, [], Some, true, map, refl, sym, ap, subst, ◌∙◌, slice_get}
use Rattle.std.specs.Prelude.{ℤ, is_some, Ok, Err}
use Rattle.std.proofs.lemmas.Result.{IfOk-weaker}
use Rattle.adj_tree.specs.View.{procedures_of}
use Rattle.def_meaning.specs.Log.{log_of}
use Rattle.def_meaning.specs.Numbers.{words}
use Rattle.def_meaning.specs.Units.{Output, fits, run_unit}
use Rattle.def_meaning.specs.Written.{find_unit}
use Rattle.def_sweep.specs.Tangents.{cells_of}
use Rattle.def_sweep.specs.MarkedAdjoint.{joined_by, shadow_cells}
use Rattle.adj_data.specs.Given.{slot_seen}
use Rattle.adj_tool_answer.specs.Views.{answer_of}
use Rattle.adj_tool_answer.specs.EndingViews.{asked_of, stop_answer}
use Rattle.adj_tool_check.specs.Checking.{adjoint_run, adjoints_in, after, compared}
use Rattle.adj_tool_check.specs.Emitted.{read_back}
use Rattle.adj_tool_check.specs.Ending.{EndsSo, TellsOutput}
use Rattle.adj_tool_check.specs.Ready.{given_in, sides_of}
use Rattle.adj_tool_check.proofs.Endings.{after_done, after_stop}
use Rattle.adj_tool_check.proofs.Readings.{none_faulty}
use Rattle.adj_tool_check.proofs.checking.answer_adjoint.Goals as goal

pub number_of-requires : goal.number_of-requires
number_of-requires c =
    none_faulty (procedures_of c.in_ok-program.program.program) c.args.emitted.adjoint
    (ap (λ qs. is_some (find_unit qs c.args.emitted.adjoint)) c.in_ok-program.ensures ∙ c.requires.adjoint)

pub run_on-requires-clause-fits : goal.run_on-requires-clause-fits
run_on-requires-clause-fits c = λ a here.
    let there = ap (λ qs. find_unit qs c.args.emitted.adjoint) (sym c.in_ok-program.ensures) ∙ c.in_ok-unit.ensures.found ∙ here in
    ap (fits words a) c.in_ok-input.ensures
    ∙ (λ i. fits words a (joined_by (c.as_slice-flags.ensures.members i) (map slot_seen (c.as_slice.ensures.members i)) (map slot_seen (c.as_slice-2.ensures.members i)))) ∙ c.requires.fits a there

pub returns-in-Ok : goal.returns-in-Ok
returns-in-Ok c = λ u a here there.
    let r = asked_of c.args.request.now in
    let d = given_in c.args.given.now in
    let e = c.args.emitted in
    let p = sides_of (procedures_of c.args.original.program.now.program) u c.args.original.head.now e a in
    let at : slice_get (procedures_of c.in_ok-program.program.program) c.in_ok-unit.unit ≡ Some a = sym c.in_ok-unit.ensures.found ∙ ap (λ qs. find_unit qs e.adjoint) c.in_ok-program.ensures ∙ there in
    let run = c.in-Ok.ensures a at in
    let input = c.in_ok-input.ensures ∙ (λ i. joined_by (c.as_slice-flags.ensures.members i) (map slot_seen (c.as_slice.ensures.members i)) (map slot_seen (c.as_slice-2.ensures.members i))) in
    let same : EndsSo TellsOutput r (adjoint_run r p d) (Ok c.in-Ok.ended) = subst (λ o. EndsSo TellsOutput r o (Ok c.in-Ok.ended)) (λ i. run_unit words (c.in_ok-program.ensures i) a (input i) [] (Some r.room) r.budget) run in
    let outs = map slot_seen c.args.outputs.now in
    let tans = cells_of (map slot_seen c.args.tangents.now) in
    let go = λ (back : Output ℤ). compared p d outs tans (adjoints_in p back) (log_of back.events).advances in
    IfOk-weaker c.compared.result (λ x. answer_of x ≡ compared p d outs tans (cells_of (map slot_seen c.as_slice-in-Ok-2.result.now)) c.in-Ok.ended.advances) (λ x. answer_of x ≡ after r (adjoint_run r p d) go)
    (λ x is. is ∙ after_done TellsOutput r (adjoint_run r p d) c.in-Ok.ended same go (compared p d outs tans (cells_of (map slot_seen c.as_slice-in-Ok-2.result.now)) c.in-Ok.ended.advances)
    (λ back t. λ i. compared p d outs tans (((λ j. cells_of (map slot_seen (c.as_slice-in-Ok-2.ensures.value j))) ∙ c.in_ok-adjoints-in-Ok.ensures ∙ (λ j. shadow_cells (c.as_slice-flags.ensures.members j) (map slot_seen (c.as_slice-in-Ok.ensures.members j))) ∙ ap (shadow_cells e.shadowed) t.0) i) (t.1 i)))
    (c.compared.ensures p here refl refl)

pub returns : goal.returns
returns c = λ u a here there.
    let r = asked_of c.args.request.now in
    let d = given_in c.args.given.now in
    let e = c.args.emitted in
    let p = sides_of (procedures_of c.args.original.program.now.program) u c.args.original.head.now e a in
    let at : slice_get (procedures_of c.in_ok-program.program.program) c.in_ok-unit.unit ≡ Some a = sym c.in_ok-unit.ensures.found ∙ ap (λ qs. find_unit qs e.adjoint) c.in_ok-program.ensures ∙ there in
    let run = c.in-Err.ensures a at in
    let input = c.in_ok-input.ensures ∙ (λ i. joined_by (c.as_slice-flags.ensures.members i) (map slot_seen (c.as_slice.ensures.members i)) (map slot_seen (c.as_slice-2.ensures.members i))) in
    let same : EndsSo TellsOutput r (adjoint_run r p d) (Err c.in-Err.stop) = subst (λ o. EndsSo TellsOutput r o (Err c.in-Err.stop)) (λ i. run_unit words (c.in_ok-program.ensures i) a (input i) [] (Some r.room) r.budget) run in
    let go = λ (back : Output ℤ). compared p d (map slot_seen c.args.outputs.now) (cells_of (map slot_seen c.args.tangents.now)) (adjoints_in p back) (log_of back.events).advances in
    IfOk-weaker c.stopped.result (λ x. Some (answer_of x) ≡ stop_answer r c.in-Err.stop) (λ x. answer_of x ≡ after r (adjoint_run r p d) go)
    (λ x is. after_stop TellsOutput r (adjoint_run r p d) c.in-Err.stop same (answer_of x) is go) c.stopped.ensures
