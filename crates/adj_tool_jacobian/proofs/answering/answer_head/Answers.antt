use Rattle.std.proofs.Common.{◌≡◌, Some, true, map, sym, ap, subst, ◌∙◌, slice_get, take, drop, length, ◌-◌}
use Rattle.std.proofs.lemmas.List.{take_rest}
use Rattle.std.proofs.lemmas.Result.{IfOk-weaker}
use Rattle.adj_tree.specs.View.{procedure_of, procedures_of}
use Rattle.def_meaning.specs.Numbers.{words}
use Rattle.def_meaning.specs.Units.{fits}
use Rattle.def_meaning.specs.Written.{find_unit}
use Rattle.adj_data.specs.Given.{slot_seen}
use Rattle.adj_tool_answer.specs.Views.{answer_of}
use Rattle.adj_tool_answer.specs.EndingViews.{asked_of, error_answer}
use Rattle.adj_tool_answer.proofs.Heads.{stands_at}
use Rattle.adj_tool_answer.proofs.Sized.{fitting}
use Rattle.adj_tool_jacobian.specs.Jacobian.{AnswersHead, AnswersRun, task_of}
use Rattle.adj_tool_jacobian.proofs.Heads.{bad_input, good_input}
use Rattle.adj_tool_jacobian.proofs.answering.answer_head.Goals as goal

pub answer_run-requires-clause-fits : goal.answer_run-requires-clause-fits
answer_run-requires-clause-fits c = λ u here.
    let ps = procedures_of c.args.checked.now.program in
    let us = c.as_slice.result.now in
    let v = c.index-as_slice-head.result in
    let p = procedure_of v in
    let same : map procedure_of us ≡ ps = ap (map procedure_of) c.as_slice.ensures.members ∙ ap procedures_of c.program.ensures.program in
    let at : slice_get ps c.args.head.now.unit ≡ Some p = stands_at ps us same c.args.head.now.unit v c.requires.there c.index-as_slice-head.is in
    let both : Some p ≡ Some u = sym at ∙ here in
    let is : p ≡ u = cc in
    subst (λ q. fits words q (map slot_seen c.in-Ok.input) ≡ true) is
    (fitting ps c.program.ensures.facts.written c.program.ensures.facts.sound c.args.head.now.unit p at _ _ c.in-Ok.ensures.accepted (map slot_seen c.in-Ok.input) c.in-Ok.ensures.input)

pub returns-in-Ok : goal.returns-in-Ok
returns-in-Ok c =
    let r = asked_of c.args.request.now in
    let ps = procedures_of c.args.checked.now.program in
    let us = c.as_slice.result.now in
    let v = c.index-as_slice-head.result in
    let p = procedure_of v in
    let slots = map slot_seen c.in-Ok.input in
    let h = c.args.head.now in
    let given = take (length c.args.bytes.now - c.data_part-start.result.0) (drop c.data_part-start.result.0 c.args.bytes.now) in
    let same : map procedure_of us ≡ ps = ap (map procedure_of) c.as_slice.ensures.members ∙ ap procedures_of c.program.ensures.program in
    let at : slice_get ps h.unit ≡ Some p = stands_at ps us same h.unit v c.requires.there c.index-as_slice-head.is in
    IfOk-weaker c.answer_run.result (λ a. AnswersRun r h.outvars (task_of r ps p h.vars slots) (answer_of a)) (λ a. AnswersHead r c.args.bytes.now ps h (find_unit ps r.head) (answer_of a))
    (λ a e. good_input r c.args.bytes.now ps h p (c.requires.is_head ∙ at) c.data_part-start.result c.data_part-start.ensures given (take_rest c.args.bytes.now c.data_part-start.result.0) slots c.in-Ok.ensures.accepted c.in-Ok.ensures.input (answer_of a) e) (c.answer_run.ensures p at)

pub returns-in-Err : goal.returns-in-Err
returns-in-Err c =
    let r = asked_of c.args.request.now in
    let ps = procedures_of c.args.checked.now.program in
    let us = c.as_slice.result.now in
    let v = c.index-as_slice-head.result in
    let p = procedure_of v in
    let error = c.in-Err.error in
    let h = c.args.head.now in
    let given = take (length c.args.bytes.now - c.data_part-start.result.0) (drop c.data_part-start.result.0 c.args.bytes.now) in
    let same : map procedure_of us ≡ ps = ap (map procedure_of) c.as_slice.ensures.members ∙ ap procedures_of c.program.ensures.program in
    let at : slice_get ps h.unit ≡ Some p = stands_at ps us same h.unit v c.requires.there c.index-as_slice-head.is in
    IfOk-weaker c.no_input.result (λ a. Some (answer_of a) ≡ error_answer error) (λ a. AnswersHead r c.args.bytes.now ps h (find_unit ps r.head) (answer_of a))
    (λ a e. bad_input r c.args.bytes.now ps h p (c.requires.is_head ∙ at) c.data_part-start.result c.data_part-start.ensures given (take_rest c.args.bytes.now c.data_part-start.result.0) error c.in-Err.ensures.fault (answer_of a) e) c.no_input.ensures
