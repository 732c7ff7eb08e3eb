-- Views: what clauses see of what is asked for, of data that give no input, and of a run that stopped.
use Rattle.std.specs.Prelude.{Option, Some, None}
use Rattle.adj_data.specs.DataCodes.{data_code_number}
use Rattle.adj_data.specs.declared.data_error.DataError.{DataError}
use Rattle.adj_data.specs.declared.data_error.DataError.TheVariants as error
use Rattle.adj_interp_frame.specs.Framed.{trap_of}
use Rattle.adj_interp.specs.declared.stop.Stop.{Stop}
use Rattle.adj_interp.specs.declared.stop.Stop.TheVariants as stop
use Rattle.adj_tool_answer.specs.Answer.{Answer}
use Rattle.adj_tool_answer.specs.Endings.{Asked, bad_data, trapped, used_up, tape_full}
use Rattle.adj_tool_answer.specs.declared.request.RunRequest.{RunRequest}

abbrev pub asked_of : RunRequest → Asked
asked_of r = record { head = r.head; budget = r.budget; room = r.room }

-- the answer to data that give no input, unless memory ran out
abbrev pub error_answer : DataError → Option Answer
error_answer (error.Data c n) = Some (bad_data (record { code = data_code_number c; line = n }))
error_answer error.Memory = None

-- the answer to a run that stopped, unless memory ran out
abbrev pub stop_answer : Asked → Stop → Option Answer
stop_answer r (stop.Trap t line) = Some (trapped (trap_of t) line)
stop_answer r stop.Budget = Some (used_up r.budget)
stop_answer r stop.TapeFull = Some (tape_full r.room)
stop_answer r stop.Memory = None
