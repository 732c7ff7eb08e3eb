use Rattle.std.proofs.Common.{Ok, Err, sym, subst}
use Rattle.std.proofs.lemmas.Result.{IfOk-weaker}
use Rattle.adj_tree.specs.View.{procedures_of}
use Rattle.def_text.specs.Reads.{ReadsSplits}
use Rattle.adj_tool.specs.Views.{request_of}
use Rattle.adj_tool_answer.specs.Views.{answer_of}
use Rattle.adj_tool.proofs.Answered.{answered, refused_transforms}
use Rattle.adj_tool.proofs.answering.answer_wanted.Goals as goal

pub returns-in-Ok-clause-answer : goal.returns-in-Ok-clause-answer
returns-in-Ok-clause-answer c =
    answered c.args.wanted (request_of c.args.request.now) c.args.bytes.now c.requires (Ok (procedures_of c.in-Ok.reading.program)) c.in-Ok.ensures.is c.answer_program.result
    (IfOk-weaker c.answer_program.result _ _ (λ a h. record { lines = c.as_slice.result.now; reads = subst (ReadsSplits c.args.bytes.now) (sym c.as_slice.ensures.members) c.in-Ok.ensures.splits; such = h }) c.answer_program.ensures.answer)
    (IfOk-weaker c.answer_program.result _ _ (λ a h. h c.args.bytes.now c.requires (subst (ReadsSplits c.args.bytes.now) (sym c.as_slice.ensures.members) c.in-Ok.ensures.splits) c.in-Ok.ensures.reads c.in-Ok.ensures.exact) c.answer_program.ensures.transformed)

pub returns-in-Err-Refused-clause-answer : goal.returns-in-Err-Refused-clause-answer
returns-in-Err-Refused-clause-answer c =
    answered c.args.wanted (request_of c.args.request.now) c.args.bytes.now c.requires (Err c.in-Err-Refused.refusal) (rw c.in-Err-Refused.field-0-is at c.in-Err-Refused.ensures.is)
    c.refused.result (rw c.in-Err-Refused.refusal-is at c.refused.ensures)
    (IfOk-weaker c.refused.result _ _ (λ a is. refused_transforms c.args.wanted (request_of c.args.request.now) c.args.bytes.now _ (answer_of a) is) c.refused.ensures)
