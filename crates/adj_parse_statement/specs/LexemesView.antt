-- LexemesView: what clauses see of the tokens that are still to be read.
use Rattle.std.specs.Prelude.{List}
use Rattle.def_text.specs.Lexeme.{Lexeme, lexemes_of}
use Rattle.adj_parse_statement.specs.declared.lexemes.Lexemes.{Lexemes}

abbrev pub lexemes_in : Lexemes → List Lexeme
lexemes_in w = lexemes_of w.text.now w.tokens.now
