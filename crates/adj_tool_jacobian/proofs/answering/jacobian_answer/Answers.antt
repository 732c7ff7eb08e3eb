use Rattle.std.proofs.Common.{Ok, Err}
use Rattle.adj_tree.specs.View.{procedures_of}
use Rattle.adj_tool_answer.specs.EndingViews.{asked_of}
use Rattle.adj_tool_jacobian.proofs.Answered.{answered}
use Rattle.adj_tool_jacobian.proofs.answering.jacobian_answer.Goals as goal

pub returns-in-Ok : goal.returns-in-Ok
returns-in-Ok c = answered (asked_of c.args.request.now) c.args.vars.now c.args.outvars.now c.args.bytes.now c.requires (Ok (procedures_of c.in-Ok.program)) c.in-Ok.ensures.is c.answer_program.result c.answer_program.ensures

pub returns-in-Err-Refused : goal.returns-in-Err-Refused
returns-in-Err-Refused c = answered (asked_of c.args.request.now) c.args.vars.now c.args.outvars.now c.args.bytes.now c.requires (Err c.in-Err-Refused.refusal) (rw c.in-Err-Refused.field-0-is at c.in-Err-Refused.ensures.is) c.refused.result c.refused.ensures
