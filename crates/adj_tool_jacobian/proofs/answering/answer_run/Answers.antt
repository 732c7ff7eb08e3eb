use Rattle.std.proofs.Common.{◌≡◌, Some, map, sym, ap, ◌∙◌, refl}
use Rattle.std.proofs.lemmas.Result.{IfOk-weaker}
use Rattle.adj_tree.specs.Code.{Procedure}
use Rattle.adj_tree.specs.View.{procedure_of, procedures_of}
use Rattle.adj_tree.specs.declared.unit.Unit.{Unit}
use Rattle.adj_data.specs.Given.{slot_seen}
use Rattle.def_jacobian.specs.Patterns.{pattern_run}
use Rattle.adj_tool_answer.specs.Views.{answer_of}
use Rattle.adj_tool_answer.specs.EndingViews.{asked_of, stop_answer}
use Rattle.adj_tool_answer.proofs.Heads.{stands_at}
use Rattle.adj_tool_jacobian.specs.Jacobian.{AnswersRun, task_of}
use Rattle.adj_tool_jacobian.proofs.Endings.{derived, stopped, text_of}
use Rattle.adj_tool_jacobian.proofs.answering.answer_run.Goals as goal

pub returns-in-Ok : goal.returns-in-Ok
returns-in-Ok c = λ u here.
    let r = asked_of c.args.request.now in
    let ps = procedures_of c.args.checked.now.program in
    let h = c.args.head.now in
    let p = task_of r ps u h.vars (map slot_seen c.args.input) in
    let v = c.index-as_slice-head.result in
    let same : map procedure_of c.as_slice.result.now ≡ ps = ap (map procedure_of) c.as_slice.ensures.members ∙ ap procedures_of c.program.ensures.program in
    let at = stands_at ps c.as_slice.result.now same h.unit v c.requires.there c.index-as_slice-head.is in
    let both : Some (procedure_of v) ≡ Some u = sym at ∙ here in
    let is : procedure_of v ≡ u = cc in
    let names : c.as_slice-in-Ok.result.now ≡ u.dummies = c.as_slice-in-Ok.ensures.members ∙ ap (λ (w : Unit). w.dummies) (sym c.index-as_slice-head.is) ∙ ap (λ (q : Procedure). q.dummies) is in
    IfOk-weaker c.done.result _ (λ a. AnswersRun r h.outvars p (answer_of a))
    (λ a e. derived r p h.outvars (pattern_run p) refl c.in-Ok.found (c.in-Ok.ensures u here) (answer_of a) (e ∙ ap (λ ns. record { status = 0; text = text_of ns c.in-Ok.found }) names)) c.done.ensures

pub returns-in-Err : goal.returns-in-Err
returns-in-Err c = λ u here.
    let r = asked_of c.args.request.now in
    let ps = procedures_of c.args.checked.now.program in
    let h = c.args.head.now in
    let p = task_of r ps u h.vars (map slot_seen c.args.input) in
    IfOk-weaker c.stopped.result (λ a. Some (answer_of a) ≡ stop_answer r c.in-Err.stop) (λ a. AnswersRun r h.outvars p (answer_of a))
    (λ a e. stopped r p h.outvars (pattern_run p) c.in-Err.stop (c.in-Err.ensures u here) (answer_of a) e) c.stopped.ensures
