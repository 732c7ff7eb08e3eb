use Rattle.std.proofs.Common.{Ok, Err}
use Rattle.adj_tree.specs.View.{procedures_of}
use Rattle.adj_tool_answer.specs.EndingViews.{asked_of}
use Rattle.adj_tool.proofs.Answered.{checked}
use Rattle.adj_tool.proofs.checking.answer_bytes.Goals as goal

pub returns-in-Ok-clause-answer : goal.returns-in-Ok-clause-answer
returns-in-Ok-clause-answer c =
    checked (asked_of c.args.request.now.run) c.args.request.now.vars c.args.request.now.outvars c.args.bytes.now c.requires (Ok (procedures_of c.in-Ok.reading.program)) c.in-Ok.ensures.is c.answer_program.result c.answer_program.ensures.answer

pub returns-in-Err-Refused-clause-answer : goal.returns-in-Err-Refused-clause-answer
returns-in-Err-Refused-clause-answer c =
    checked (asked_of c.args.request.now.run) c.args.request.now.vars c.args.request.now.outvars c.args.bytes.now c.requires (Err c.in-Err-Refused.refusal) (rw c.in-Err-Refused.field-0-is at c.in-Err-Refused.ensures.is)
    c.refused.result (rw c.in-Err-Refused.refusal-is at c.refused.ensures)
