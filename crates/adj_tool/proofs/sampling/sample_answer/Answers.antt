use Rattle.std.proofs.Common.{◌∙◌}
use Rattle.std.proofs.lemmas.Result.{IfOk-weaker}
use Rattle.adj_tool_answer.specs.Views.{answer_of}
use Rattle.adj_tool_answer.specs.EndingViews.{asked_of}
use Rattle.adj_tool.proofs.Sampled.{answered, compared}
use Rattle.adj_tool.proofs.sampling.sample_answer.Goals as goal

pub returns-clause-answer : goal.returns-clause-answer
returns-clause-answer c =
    let r = c.in_ok-request.request in
    let checked = answer_of c.in_ok-checked.checked in
    let made = c.as_slice.ensures.value ∙ c.in_ok-bytes.ensures.bytes in
    let e = c.in_ok-request.ensures in
    IfOk-weaker c.summary.result _ _ (λ a is. answered c.args.number checked (answer_of a) (asked_of r.run) r.vars r.outvars c.as_slice.result.now e.run e.vars e.outvars made c.in_ok-checked.ensures.answer is) c.summary.ensures

pub returns-clause-compared : goal.returns-clause-compared
returns-clause-compared c =
    let r = c.in_ok-request.request in
    let checked = answer_of c.in_ok-checked.checked in
    let made = c.as_slice.ensures.value ∙ c.in_ok-bytes.ensures.bytes in
    let e = c.in_ok-request.ensures in
    IfOk-weaker c.summary.result _ _ (λ a is. compared c.args.number checked (answer_of a) (asked_of r.run) r.vars r.outvars c.as_slice.result.now e.run e.vars e.outvars made c.in_ok-checked.ensures.compared is) c.summary.ensures
