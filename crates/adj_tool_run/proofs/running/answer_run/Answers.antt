use Rattle.std.proofs.Common.{◌≡◌, Some, Ok, Err, length, map, sym, ap, ◌∙◌, slice_index_or}
use Rattle.std.proofs.lemmas.Result.{IfOk-weaker}
use Rattle.adj_tree.specs.Code.{Procedure}
use Rattle.adj_tree.specs.View.{procedure_of, procedures_of}
use Rattle.adj_tree.specs.declared.unit.Unit.{Unit}
use Rattle.adj_data.specs.Given.{slot_seen}
use Rattle.adj_tool_answer.specs.Views.{answer_of}
use Rattle.adj_tool_answer.specs.Endings.{done}
use Rattle.adj_tool_run.specs.Running.{ended, run_asked}
use Rattle.adj_tool_answer.specs.EndingViews.{asked_of, stop_answer}
use Rattle.adj_tool_answer.proofs.Heads.{stands_at}
use Rattle.adj_tool_run.proofs.Endings.{concluded, slots_counted, when_done, when_stopped}
use Rattle.adj_tool_run.proofs.running.answer_run.Goals as goal

pub done-requires : goal.done-requires
done-requires c =
    let r = asked_of c.args.request.now in
    let ps = procedures_of c.args.checked.now.program in
    let input = map slot_seen c.args.input in
    let v = c.index-as_slice-unit.result in
    let same : map procedure_of c.as_slice.result.now ≡ ps = ap (map procedure_of) c.as_slice.ensures.members ∙ ap procedures_of c.program.ensures.program in
    let at = stands_at ps c.as_slice.result.now same c.args.unit v c.requires.there c.index-as_slice-unit.is in
    let h = concluded r ps c.args.unit input c.in-Ok.tape.words c.in-Ok.tape.room c.in-Ok.ensures.empty c.in-Ok.ensures.room (Ok c.in-Ok-run.values) c.run.new.tape c.run.new.log c.in-Ok-run.ensures.ends (procedure_of v) at in
    ap (λ (w : Unit). length w.dummies) (sym c.index-as_slice-unit.is) ∙ slots_counted r ps (procedure_of v) input c.in-Ok-run.values c.run.new.tape c.run.new.log h

pub returns-in-Ok-run : goal.returns-in-Ok-run
returns-in-Ok-run c = λ u here.
    let r = asked_of c.args.request.now in
    let ps = procedures_of c.args.checked.now.program in
    let input = map slot_seen c.args.input in
    let v = c.index-as_slice-unit.result in
    let values = c.in-Ok-run.values in
    let tape = c.run.new.tape in
    let log = c.run.new.log in
    let same : map procedure_of c.as_slice.result.now ≡ ps = ap (map procedure_of) c.as_slice.ensures.members ∙ ap procedures_of c.program.ensures.program in
    let at = stands_at ps c.as_slice.result.now same c.args.unit v c.requires.there c.index-as_slice-unit.is in
    let both : Some (procedure_of v) ≡ Some u = sym at ∙ here in
    let is : procedure_of v ≡ u = cc in
    let h = concluded r ps c.args.unit input c.in-Ok.tape.words c.in-Ok.tape.room c.in-Ok.ensures.empty c.in-Ok.ensures.room (Ok values) tape log c.in-Ok-run.ensures.ends u here in
    let names : (slice_index_or c.as_slice.result.now c.args.unit v).dummies ≡ u.dummies = ap (λ (w : Unit). w.dummies) (sym c.index-as_slice-unit.is) ∙ ap (λ (p : Procedure). p.dummies) is in
    IfOk-weaker c.done.result (λ a. answer_of a ≡ done (slice_index_or c.as_slice.result.now c.args.unit v).dummies (map slot_seen values) c.len.result log.used) (λ a. answer_of a ≡ ended r u.dummies (run_asked r ps u input))
    (λ a e. e ∙ (λ i. done (names i) (map slot_seen values) (c.len.ensures i) log.used) ∙ when_done r u.dummies tape log (run_asked r ps u input) values h) c.done.ensures

pub returns : goal.returns
returns c = λ u here.
    let r = asked_of c.args.request.now in
    let ps = procedures_of c.args.checked.now.program in
    let input = map slot_seen c.args.input in
    let tape = c.run.new.tape in
    let log = c.run.new.log in
    let h = concluded r ps c.args.unit input c.in-Ok.tape.words c.in-Ok.tape.room c.in-Ok.ensures.empty c.in-Ok.ensures.room (Err c.in-Err.stop) tape log c.in-Err.ensures.ends u here in
    IfOk-weaker c.stopped.result (λ a. Some (answer_of a) ≡ stop_answer r c.in-Err.stop) (λ a. answer_of a ≡ ended r u.dummies (run_asked r ps u input)) (λ a e. when_stopped r u.dummies tape log (run_asked r ps u input) c.in-Err.stop (answer_of a) h e) c.stopped.ensures
