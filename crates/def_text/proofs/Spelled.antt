-- Spelled: lexemes as characters, and where lexemes can be told apart when they are joined.
use Rattle.std.proofs.Common.{◌≡◌, ℕ, Bool, true, false, List, [], ◌∷◌}
use Rattle.std.specs.Prelude.{codes, ◌&&◌}
use Rattle.std.specs.List.{list_all}
use Rattle.def_text.specs.Char.{is_capital, is_digit, is_name_char}
use Rattle.def_text.specs.Lexeme.{Lexeme, Named, Digits, Mark}
use Rattle.def_text.specs.declared.token.TokenKind.{TokenKind}
use Rattle.def_text.specs.declared.token.TokenKind.TheVariants.{Name, Number, Power, Star, Slash, Plus, Minus, Left, Right, Comma, Equals, Lt, Le, Eq, Ne, Gt, Ge, Not, And, Or, Call}

abbrev pub chars_of : TokenKind → List ℕ
chars_of Name = []
chars_of Number = []
chars_of Power = codes "**"
chars_of Star = codes "*"
chars_of Slash = codes "/"
chars_of Plus = codes "+"
chars_of Minus = codes "-"
chars_of Left = codes "("
chars_of Right = codes ")"
chars_of Comma = codes ","
chars_of Equals = codes "="
chars_of Lt = codes ".LT."
chars_of Le = codes ".LE."
chars_of Eq = codes ".EQ."
chars_of Ne = codes ".NE."
chars_of Gt = codes ".GT."
chars_of Ge = codes ".GE."
chars_of Not = codes ".NOT."
chars_of And = codes ".AND."
chars_of Or = codes ".OR."
chars_of Call = []

abbrev pub spelling : Lexeme → List ℕ
spelling (Named x) = x
spelling (Digits ds) = ds
spelling (Mark k) = chars_of k

-- a name, and digits
abbrev pub is_name : List ℕ → Bool
is_name [] = false
is_name (c ∷ cs) = is_capital c && list_all is_name_char cs

abbrev pub is_number : List ℕ → Bool
is_number [] = false
is_number (d ∷ ds) = is_digit d && list_all is_digit ds

-- a mark that is scanned by its characters
abbrev pub IsMark : TokenKind → Type 0
IsMark Name = ⊥
IsMark Number = ⊥
IsMark Call = ⊥
IsMark _ = Unit {0}

-- what may stand behind a name, behind digits and behind a mark
abbrev pub EndsName : List Lexeme → Type 0
EndsName (Named x ∷ ws) = ⊥
EndsName (Digits ds ∷ ws) = ⊥
EndsName _ = Unit {0}

abbrev pub EndsNumber : List Lexeme → Type 0
EndsNumber (Digits ds ∷ ws) = ⊥
EndsNumber _ = Unit {0}

abbrev pub EndsMark : TokenKind → List Lexeme → Type 0
EndsMark Star (Mark Star ∷ ws) = ⊥
EndsMark Star (Mark Power ∷ ws) = ⊥
EndsMark k ws = Unit {0}

-- lexemes that can be told apart when they are joined
abbrev pub AreSpaced : List Lexeme → Type 0
AreSpaced [] = Unit {0}
AreSpaced (Named x ∷ ws) = (is_name x ≡ true) × EndsName ws × AreSpaced ws
AreSpaced (Digits ds ∷ ws) = (is_number ds ≡ true) × EndsNumber ws × AreSpaced ws
AreSpaced (Mark k ∷ ws) = IsMark k × EndsMark k ws × AreSpaced ws
