-- Sample: the answer of the command `sample`. (docs/COMMANDS.md, "`sample`")
use Rattle.std.specs.Prelude.{◌≡◌, ℕ, suc, ◌==◌, nat_le, Bool, true, false, List, [], ◌∷◌, ◌++◌, if◌then◌else◌, codes}
use Rattle.def_text.specs.Char.{line_feed}
use Rattle.adj_data.specs.Sample.{field_of, steps_of, snapshots_of, with_number, sample_bytes}
use Rattle.adj_tool_answer.specs.Answer.{Answer}
use Rattle.adj_tool_answer.specs.Endings.{Asked}
use Rattle.adj_tool.specs.Check.{AnswersCheck, ChecksAdjoint}

-- ---- how the sample is checked

-- its unit, with the statements and the tape that a check has where no option is given
abbrev pub sample_asked : Asked
sample_asked = record { head = codes "SAMPLE"; budget = 100000000; room = 16777216 }

abbrev pub sample_vars : List (List ℕ)
sample_vars = codes "U" ∷ []

abbrev pub sample_outvars : List (List ℕ)
sample_outvars = codes "S" ∷ []

-- ---- what is written

-- how many lines end in a text
abbrev pub line_ends : List ℕ → ℕ
line_ends [] = 0
line_ends (c ∷ cs) = if c == line_feed then suc (line_ends cs) else line_ends cs

-- the longest end of a text in which at most so many lines end: its last lines
abbrev pub last_lines : ℕ → List ℕ → List ℕ
last_lines k [] = []
last_lines k (c ∷ cs) = if nat_le (line_ends (c ∷ cs)) k then c ∷ cs else last_lines k cs

-- the number and the sizes of the sample
abbrev pub field_and_steps : ℕ → List ℕ
field_and_steps n = with_number (codes "\nFIELD ") (field_of n) ++ with_number (codes " STEPS ") (steps_of n)

abbrev pub snapshots_at_end : ℕ → List ℕ
snapshots_at_end n = with_number (codes " SNAPSHOTS ") (snapshots_of n) ++ codes "\n"

abbrev pub sample_heading : ℕ → List ℕ
sample_heading n = with_number (codes "SAMPLE ") n ++ (field_and_steps n ++ snapshots_at_end n)

abbrev pub summary_if : Bool → ℕ → Answer → Answer
summary_if true n checked = record { status = 0; text = sample_heading n ++ last_lines 2 checked.text }
summary_if false n checked = checked

-- what is written of a check that is done: the heading, and the last two lines, which are the products and the advances; of another one its answer
abbrev pub summary : ℕ → Answer → Answer
summary n checked = summary_if (checked.status == 0) n checked

-- the answer of `sample`: that of `check` to the sample, in short
pub record AnswersSample (n : ℕ) (a : Answer) : Type 0 where
  pub checked : Answer
  pub checks : AnswersCheck sample_asked sample_vars sample_outvars (sample_bytes n) checked
  pub is : a ≡ summary n checked

-- ---- where it is done

-- the text is the heading and the last two lines of an answer of `check` to the sample, of which all holds that holds of a check that is done
pub record SamplesAdjoint (n : ℕ) (text : List ℕ) : Type 0 where
  pub lines : List ℕ
  pub checks : ChecksAdjoint sample_asked sample_vars sample_outvars (sample_bytes n) lines
  pub is : text ≡ sample_heading n ++ last_lines 2 lines
