-- The linked lists of the mirror, from and onto lists, and turned round.
use Rattle.std.specs.Prelude.{ℕ, List, [], ◌∷◌, map}
use Rattle.adj_tree.specs.Code as code
use Rattle.adj_tree.specs.Code.{Term, Terms, Code, none, more, stop, step}
use Rattle.adj_tree.specs.View.{act_of}
use Rattle.adj_tree.specs.declared.stmt.Stmt.{Stmt}

-- these expressions in order, and then others
abbrev pub terms_onto : List Term → Terms → Terms
terms_onto [] rest = rest
terms_onto (e ∷ es) rest = more e (terms_onto es rest)

-- the linked list of these expressions
abbrev pub terms_listed : List Term → Terms
terms_listed es = terms_onto es none

-- the expressions of the first in the other order, and then the second
abbrev pub terms_turned : Terms → Terms → Terms
terms_turned none made = made
terms_turned (more e rest) made = terms_turned rest (more e made)

-- a statement: its line, and what it does
abbrev pub statement_of : Stmt → ℕ × code.Act
statement_of s = (s.line, act_of s.act)

-- these statements in order, and then others
abbrev pub code_onto : List (ℕ × code.Act) → Code → Code
code_onto [] rest = rest
code_onto (s ∷ ss) rest = step s.0 s.1 (code_onto ss rest)

-- the linked list of these statements
abbrev pub code_listed : List (ℕ × code.Act) → Code
code_listed ss = code_onto ss stop

-- the statements of the first in the other order, and then the second
abbrev pub code_turned : Code → Code → Code
code_turned stop made = made
code_turned (step line a rest) made = code_turned rest (step line a made)

-- statements of the code in order, and then others
abbrev pub steps_onto : List Stmt → Code → Code
steps_onto stmts rest = code_onto (map statement_of stmts) rest
