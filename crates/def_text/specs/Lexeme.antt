-- Lexemes: tokens with their texts, and without where they stand.
use Rattle.std.specs.Prelude.{ℕ, ◌-◌, List, take, drop, map}
use Rattle.def_text.specs.declared.token.Token.{Token}
use Rattle.def_text.specs.declared.token.TokenKind.{TokenKind}
use Rattle.def_text.specs.declared.token.TokenKind.TheVariants.{Name, Number}

-- a name, a literal or label, or a mark, which is what its kind says
pub data Lexeme : Type 0 where
  Named : List ℕ → Lexeme
  Digits : List ℕ → Lexeme
  Mark : TokenKind → Lexeme

-- the lexeme of a kind with these characters
abbrev pub lexeme : TokenKind → List ℕ → Lexeme
lexeme Name text = Named text
lexeme Number text = Digits text
lexeme kind text = Mark kind

-- the part of a text from start up to end
abbrev pub part : List ℕ → ℕ → ℕ → List ℕ
part text start end = take (end - start) (drop start text)

-- the lexeme of a token of this text
abbrev pub lexeme_of : List ℕ → Token → Lexeme
lexeme_of text t = lexeme t.kind (part text t.start t.end)

abbrev pub lexemes_of : List ℕ → List Token → List Lexeme
lexemes_of text tokens = map (lexeme_of text) tokens
