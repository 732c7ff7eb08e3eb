-- Lists of statements, one after another.
use Rattle.std.specs.Prelude.{ℕ}
use Rattle.adj_tree.specs.Code.{Act, Code, stop, step}

infixr 5 ◌+++◌
-- the statements of one list and then those of another
abbrev pub ◌+++◌ : Code → Code → Code
stop +++ d = d
(step line a c) +++ d = step line a (c +++ d)

-- a list of one statement
abbrev pub one : ℕ → Act → Code
one line a = step line a stop
