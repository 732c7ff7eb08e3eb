-- Answer: what a command writes, and the status that goes with it. (docs/COMMANDS.md, "Statuses")
use Rattle.std.specs.Prelude.{ℕ, ◌==◌, List, [], ◌++◌, codes, decimal, if◌then◌else◌}
use Rattle.adj_tree.specs.declared.fault.Refusal.{Refusal}

pub record Answer : Type 0 where
  pub status : ℕ
  pub text : List ℕ

-- a line of a keyword and a number
abbrev pub line_of_one : List ℕ → ℕ → List ℕ
line_of_one keyword p = keyword ++ decimal p ++ codes "\n"

-- arguments that are no command
abbrev pub usage : Answer
usage = record { status = 1; text = codes "USAGE\n" }

-- the limit that was passed, which code 21 alone has
abbrev pub limit_text : Refusal → List ℕ
limit_text r = if r.code == 21 then codes " LIMIT " ++ decimal r.number else []

abbrev pub refused : Refusal → Answer
refused r = record { status = 2; text = codes "REFUSED " ++ decimal r.code ++ codes " LINE " ++ decimal r.line ++ limit_text r ++ codes "\n" }

-- an input of more bytes than are taken
abbrev pub too_long : ℕ → Answer
too_long most = refused (record { code = 21; line = 0; number = most })
