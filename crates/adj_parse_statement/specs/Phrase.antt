-- Phrase: what the lexemes of a statement say, with its expressions and conditions as they are written.
use Rattle.std.specs.Prelude.{◌≡◌, ℕ, ◌≤◌, Bool, true, false, List, [], ◌∷◌, Option, Some, None}
use Rattle.std.specs.List.{list_all}
use Rattle.def_text.specs.Condition.{Condition, Whole, DerivesCondition}
use Rattle.def_text.specs.Form.{Form, subroutine, implicit_none, end_do, go_on, otherwise, end_if, leaves, ends}
use Rattle.def_text.specs.Grammar.{Syntax, Arguments, count_of, Sum, Derives, DerivesAll}
use Rattle.def_text.specs.Statement.{ReadsHead}
use Rattle.def_text.specs.Lexeme.{Lexeme, Named, Digits, Mark}
use Rattle.def_text.specs.declared.stated.Kind.{Kind}
use Rattle.def_text.specs.declared.stated.Kind.TheVariants.{Do, BlockIf, LogicalIf, Assign, Continue, Return, End, EndIf, EndDo, Else, ImplicitNone, ElseIf, DoWhile, Subroutine, Integer, Call, Common}
use Rattle.def_text.specs.declared.token.TokenKind.TheVariants as mark

-- a name, with its subscripts or its actuals in parentheses, or without
pub record Entry : Type 0 where
  pub name : List ℕ
  pub list : Option Arguments

-- an assignment, or a CALL
pub data Deed : Type 0 where
  assigns : Entry → Syntax → Deed
  calls : Entry → Deed

-- an extent: digits, or a name
pub data Size : Type 0 where
  numbered : List ℕ → Size
  named : List ℕ → Size

-- a declared name with its extents
pub record Declared : Type 0 where
  pub name : List ℕ
  pub sizes : List Size

-- a loop's variable, first value, limit, and step where it has one
pub record Bounds : Type 0 where
  pub counter : List ℕ
  pub from : Syntax
  pub to : Syntax
  pub by : Option Syntax

-- what a statement says; without expressions this is its form
pub data Phrase : Type 0 where
  plainly : Form → Phrase
  declares : List Declared → Phrase
  -- the block of a COMMON statement and its items
  shares : List ℕ → List Declared → Phrase
  does : Deed → Phrase
  guards : Condition → Deed → Phrase
  -- the digits behind DO, where there are any
  repeats : Option (List ℕ) → Bounds → Phrase
  goes_while : Condition → Phrase
  opens : Condition → Phrase
  turns : Condition → Phrase

-- the lexemes up to the rest are a variable, or one with one or two subscripts
pub data SaysPlace : List Lexeme → List Lexeme → Entry → Type 0 where
  scalar : {x : List ℕ} {rest : List Lexeme} → SaysPlace (Named x ∷ rest) rest (record { name = x; list = None })
  element : {x : List ℕ} {ts rest : List Lexeme} {all : Arguments} → DerivesAll ts (Mark mark.Right ∷ rest) all → count_of all ≤ 2 → SaysPlace (Named x ∷ Mark mark.Left ∷ ts) rest (record { name = x; list = Some all })

pub data SaysAssignment : List Lexeme → Deed → Type 0 where
  assignment : {ts us : List Lexeme} {p : Entry} {e : Syntax} → SaysPlace ts (Mark mark.Equals ∷ us) p → Derives Sum us [] e → SaysAssignment ts (assigns p e)

-- behind CALL: a name, and expressions in parentheses or none
pub data SaysCall : List Lexeme → Deed → Type 0 where
  alone : {x : List ℕ} → SaysCall (Named x ∷ []) (calls (record { name = x; list = None }))
  empty : {x : List ℕ} → SaysCall (Named x ∷ Mark mark.Left ∷ Mark mark.Right ∷ []) (calls (record { name = x; list = None }))
  actuals : {x : List ℕ} {ts : List Lexeme} {all : Arguments} → DerivesAll ts (Mark mark.Right ∷ []) all → SaysCall (Named x ∷ Mark mark.Left ∷ ts) (calls (record { name = x; list = Some all }))

pub data SaysSize : List Lexeme → List Lexeme → Size → Type 0 where
  literal : {digits : List ℕ} {rest : List Lexeme} → SaysSize (Digits digits ∷ rest) rest (numbered digits)
  name : {x : List ℕ} {rest : List Lexeme} → SaysSize (Named x ∷ rest) rest (named x)

pub data SaysItem : List Lexeme → List Lexeme → Declared → Type 0 where
  scalar : {x : List ℕ} {rest : List Lexeme} → SaysItem (Named x ∷ rest) rest (record { name = x; sizes = [] })
  row : {x : List ℕ} {ts rest : List Lexeme} {a : Size} → SaysSize ts (Mark mark.Right ∷ rest) a → SaysItem (Named x ∷ Mark mark.Left ∷ ts) rest (record { name = x; sizes = a ∷ [] })
  table : {x : List ℕ} {ts us rest : List Lexeme} {a b : Size} → SaysSize ts (Mark mark.Comma ∷ us) a → SaysSize us (Mark mark.Right ∷ rest) b → SaysItem (Named x ∷ Mark mark.Left ∷ ts) rest (record { name = x; sizes = a ∷ b ∷ [] })

-- behind INTEGER: items separated by commas
pub data SaysItems : List Lexeme → List Declared → Type 0 where
  last : {ts : List Lexeme} {i : Declared} → SaysItem ts [] i → SaysItems ts (i ∷ [])
  another : {ts us : List Lexeme} {i : Declared} {is : List Declared} → SaysItem ts (Mark mark.Comma ∷ us) i → SaysItems us is → SaysItems ts (i ∷ is)

abbrev pub is_numbered : Size → Bool
is_numbered (numbered digits) = true
is_numbered (named x) = false

-- whether each extent of each item is digits
abbrev pub are_numbered : List Declared → Bool
are_numbered is = list_all (λ i. list_all is_numbered i.sizes) is

-- behind COMMON: the name of a block between slashes, and items separated by commas, whose extents are digits
pub data SaysCommon : List Lexeme → List ℕ → List Declared → Type 0 where
  block : {b : List ℕ} {ts : List Lexeme} {is : List Declared} → SaysItems ts is → are_numbered is ≡ true → SaysCommon (Mark mark.Slash ∷ Named b ∷ Mark mark.Slash ∷ ts) b is

pub data SaysBounds : List Lexeme → Bounds → Type 0 where
  by_one : {x : List ℕ} {ts us : List Lexeme} {a b : Syntax} → Derives Sum ts (Mark mark.Comma ∷ us) a → Derives Sum us [] b → SaysBounds (Named x ∷ Mark mark.Equals ∷ ts) (record { counter = x; from = a; to = b; by = None })
  by_step : {x : List ℕ} {ts us vs : List Lexeme} {a b c : Syntax} → Derives Sum ts (Mark mark.Comma ∷ us) a → Derives Sum us (Mark mark.Comma ∷ vs) b → Derives Sum vs [] c → SaysBounds (Named x ∷ Mark mark.Equals ∷ ts) (record { counter = x; from = a; to = b; by = Some c })

-- behind DO: the label where the loop has one, a comma or none, and the bounds
pub data SaysDo : List Lexeme → Phrase → Type 0 where
  unlabelled : {ts : List Lexeme} {b : Bounds} → SaysBounds ts b → SaysDo ts (repeats None b)
  labelled : {digits : List ℕ} {ts : List Lexeme} {b : Bounds} → SaysBounds ts b → SaysDo (Digits digits ∷ ts) (repeats (Some digits) b)
  labelled_comma : {digits : List ℕ} {ts : List Lexeme} {b : Bounds} → SaysBounds ts b → SaysDo (Digits digits ∷ Mark mark.Comma ∷ ts) (repeats (Some digits) b)

-- behind IF, ELSE IF or DO WHILE: a condition in parentheses
pub data SaysGuard : List Lexeme → List Lexeme → Condition → Type 0 where
  guard : {ts rest : List Lexeme} {c : Condition} → DerivesCondition Whole ts (Mark mark.Right ∷ rest) c → SaysGuard (Mark mark.Left ∷ ts) rest c

-- behind the condition of a logical IF: an assignment or a CALL
pub data SaysGuarded : List Lexeme → Deed → Type 0 where
  assigned : {ts : List Lexeme} {d : Deed} → SaysAssignment ts d → SaysGuarded ts d
  called : {ts : List Lexeme} {d : Deed} → SaysCall ts d → SaysGuarded (Mark mark.Call ∷ ts) d

-- Says class lexemes phrase: a statement of this class with these lexemes behind its keyword says this
pub data Says : Kind → List Lexeme → Phrase → Type 0 where
  heading : {ts : List Lexeme} {x : List ℕ} {dummies : List (List ℕ)} → ReadsHead ts x dummies → Says Subroutine ts (plainly (subroutine x dummies))
  implicit : Says ImplicitNone [] (plainly implicit_none)
  declaration : {ts : List Lexeme} {is : List Declared} → SaysItems ts is → Says Integer ts (declares is)
  shared : {ts : List Lexeme} {b : List ℕ} {is : List Declared} → SaysCommon ts b is → Says Common ts (shares b is)
  assigned : {ts : List Lexeme} {d : Deed} → SaysAssignment ts d → Says Assign ts (does d)
  called : {ts : List Lexeme} {d : Deed} → SaysCall ts d → Says Call ts (does d)
  guarded : {ts us : List Lexeme} {c : Condition} {d : Deed} → SaysGuard ts us c → SaysGuarded us d → Says LogicalIf ts (guards c d)
  begins : {ts : List Lexeme} {p : Phrase} → SaysDo ts p → Says Do ts p
  tests_first : {ts : List Lexeme} {c : Condition} → SaysGuard ts [] c → Says DoWhile ts (goes_while c)
  finished : Says EndDo [] (plainly end_do)
  continued : Says Continue [] (plainly go_on)
  tests : {ts : List Lexeme} {c : Condition} → SaysGuard ts [] c → Says BlockIf ts (opens c)
  turned : Says Else [] (plainly otherwise)
  tests_again : {ts : List Lexeme} {c : Condition} → SaysGuard ts [] c → Says ElseIf ts (turns c)
  closed : Says EndIf [] (plainly end_if)
  returned : Says Return [] (plainly leaves)
  ended : Says End [] (plainly ends)
