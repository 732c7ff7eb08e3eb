-- Statements that sweeps write.
use Rattle.adj_tree.specs.Code.{Var, Term, Mark, unmarked, Act, loop, Code}

-- a DO that isn't marked
abbrev pub turns : Var → Term → Term → Term → Code → Act
turns x a b c body = loop x a b c body unmarked

-- a DO of the text
abbrev pub text_turns : Var → Term → Term → Term → Code → Mark → Act
text_turns x a b c body m = loop x a b c body m
