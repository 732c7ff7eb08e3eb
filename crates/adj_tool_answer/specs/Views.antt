-- Views: what clauses see of an answer.
use Rattle.std.specs.Prelude.{ℕ}
use Rattle.adj_tool_answer.specs.Answer as answer
use Rattle.adj_tool_answer.specs.declared.answer.Answer.{Answer}
use Rattle.adj_tool_answer.specs.declared.answer.Status.{Status}
use Rattle.adj_tool_answer.specs.declared.answer.Status.TheVariants.{Done, Usage, Refused, Data, Trap, Budget, Tape}

-- the status of the program
abbrev pub status_of : Status → ℕ
status_of Done = 0
status_of Usage = 1
status_of Refused = 2
status_of Data = 3
status_of Trap = 4
status_of Budget = 5
status_of Tape = 6

-- what is written, with its status
abbrev pub answer_of : Answer → answer.Answer
answer_of a = record { status = status_of a.status; text = a.text.items }
