-- What is asked of a run, and what is written of data with a fault and of runs that end. (docs/COMMANDS.md, "`run`")
use Rattle.std.specs.Prelude.{ℕ, ℤ, List, ◌++◌, codes, decimal}
use Rattle.def_meaning.specs.Numbers.{words}
use Rattle.def_meaning.specs.Trap.{Trap, division, index, step_trap, shape_trap, tape_trap, schedule_trap, power_trap}
use Rattle.def_meaning.specs.Units.{Slot}
use Rattle.adj_data.specs.Faults.{Fault}
use Rattle.adj_data.specs.Printed.{values_text}
use Rattle.adj_tool_answer.specs.Answer.{Answer, line_of_one}

-- what is asked for: the unit that is run, the most statements that it may execute, and the most words that its tape may hold
pub record Asked : Type 0 where
  pub head : List ℕ
  pub budget : ℕ
  pub room : ℕ

-- a line of a keyword, the name or number behind it, and the line where it stands
abbrev pub line_of_two : List ℕ → List ℕ → ℕ → List ℕ
line_of_two keyword what line = keyword ++ what ++ codes " LINE " ++ decimal line ++ codes "\n"

abbrev pub bad_data : Fault → Answer
bad_data f = record { status = 3; text = line_of_two (codes "DATA ") (decimal f.code) f.line }

abbrev pub kind_text : Trap → List ℕ
kind_text division = codes "DIVISION"
kind_text index = codes "INDEX"
kind_text step_trap = codes "STEP"
kind_text shape_trap = codes "SHAPE"
kind_text tape_trap = codes "TAPE"
kind_text schedule_trap = codes "SCHEDULE"
kind_text power_trap = codes "POWER"

abbrev pub trapped : Trap → ℕ → Answer
trapped t line = record { status = 4; text = line_of_two (codes "TRAP ") (kind_text t) line }

-- the statements were used up, and there is more to do
abbrev pub used_up : ℕ → Answer
used_up budget = record { status = 5; text = line_of_one (codes "BUDGET ") budget }

abbrev pub tape_full : ℕ → Answer
tape_full room = record { status = 6; text = line_of_one (codes "TAPE ROOM ") room }

-- a line for each dummy, the words that are left on the tape, and the statements that were executed
abbrev pub done : List (List ℕ) → List (Slot ℤ) → ℕ → ℕ → Answer
done names slots words used = record { status = 0; text = values_text names slots ++ line_of_one (codes "TAPE ") words ++ line_of_one (codes "USED ") used }
