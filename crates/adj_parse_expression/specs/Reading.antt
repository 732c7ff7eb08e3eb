-- Reading: the longest expression or condition at the front of some lexemes, and the lexemes behind it.
use Rattle.std.specs.Prelude.{List, [], Option}
use Rattle.def_text.specs.Grammar.{Syntax}
use Rattle.def_text.specs.Condition.{Condition}
use Rattle.def_text.specs.Machine.{syntaxes, wanting, read}
use Rattle.def_text.specs.Lexeme.{Lexeme}
use Rattle.adj_parse_expression.specs.ConditionMachine.{conditions, beginning, read_test}

abbrev pub read_expression : List Lexeme → Option (Syntax × List Lexeme)
read_expression lexemes = read syntaxes (wanting []) lexemes

abbrev pub read_condition : List Lexeme → Option (Condition × List Lexeme)
read_condition lexemes = read_test conditions (beginning []) lexemes
