-- Views: what clauses see of the types of the top call.
use Rattle.std.specs.Prelude.{Option, option_map}
use Rattle.adj_tool_answer.specs.EndingViews.{asked_of}
use Rattle.adj_tool.specs.Arguments as arguments
use Rattle.adj_tool.specs.declared.task.Request.{Request}
use Rattle.adj_tool.specs.declared.task.Task.{Task}
use Rattle.adj_tool.specs.declared.task.Task.TheVariants as task

abbrev pub request_of : Request → arguments.Request
request_of r = record { head = r.head; vars = r.vars; outvars = r.outvars }

abbrev pub some_request : Option Request → Option arguments.Request
some_request r = option_map request_of r

-- what is asked for
abbrev pub command_of : Task → arguments.Command
command_of (task.Adjoint r) = arguments.Adjoint (request_of r)
command_of (task.Tangent r) = arguments.Tangent (request_of r)
command_of (task.Plan r) = arguments.Plan (request_of r)
command_of (task.Run r) = arguments.Run (asked_of r)
command_of (task.Check r) = arguments.Check (asked_of r.run) r.vars r.outvars
command_of (task.Jacobian r) = arguments.Jacobian (asked_of r.run) r.vars r.outvars
command_of (task.Schedule r) = arguments.Schedule r.steps r.snapshots
command_of (task.Sample n) = arguments.Sample n
