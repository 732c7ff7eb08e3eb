-- Form: what a statement says, by its class and lexemes.
use Rattle.std.specs.Prelude.{ℕ, List, [], Option}
use Rattle.adj_tree.specs.Code.{Test, Mark, unmarked, Act}
use Rattle.def_text.specs.declared.stated.Kind.{Kind}
use Rattle.def_text.specs.declared.stated.Kind.TheVariants.{Do, BlockIf, LogicalIf, Assign, Continue, Return, End, EndIf, EndDo, Else, ImplicitNone, ElseIf, DoWhile, Subroutine, Integer, Call, Common}
use Rattle.def_text.specs.Lexeme.{Lexeme}
use Rattle.def_text.specs.Statement.{Item, Range, ReadsHead, ReadsItems, ReadsCommon, ReadsAssignment, ReadsCall, ReadsGuard, ReadsGuarded, ReadsDo}

-- what a statement says; a DO with the label behind it and what the directive before it says
pub data Form : Type 0 where
  subroutine : List ℕ → List (List ℕ) → Form
  implicit_none : Form
  integers : List Item → Form
  common : List ℕ → List Item → Form
  simple : Act → Form
  logical : Test → Act → Form
  opens_do : Option ℕ → Range → Mark → Form
  opens_while : Test → Form
  end_do : Form
  go_on : Form
  opens_if : Test → Form
  otherwise : Form
  otherwise_if : Test → Form
  end_if : Form
  leaves : Form
  ends : Form

-- a statement: its line, its label or 0, and what it says
pub data Statement : Type 0 where
  at : ℕ → ℕ → Form → Statement

-- ReadsForm mark class lexemes form: a statement of this class with these lexemes behind its keyword says this; only a DO that is no DO WHILE has a mark
pub data ReadsForm : Mark → Kind → List Lexeme → Form → Type 0 where
  heading : {ts : List Lexeme} {x : List ℕ} {dummies : List (List ℕ)} → ReadsHead ts x dummies → ReadsForm unmarked Subroutine ts (subroutine x dummies)
  implicit : ReadsForm unmarked ImplicitNone [] implicit_none
  declaration : {ts : List Lexeme} {is : List Item} → ReadsItems ts is → ReadsForm unmarked Integer ts (integers is)
  shared : {ts : List Lexeme} {b : List ℕ} {is : List Item} → ReadsCommon ts b is → ReadsForm unmarked Common ts (common b is)
  assigned : {ts : List Lexeme} {a : Act} → ReadsAssignment ts a → ReadsForm unmarked Assign ts (simple a)
  calls : {ts : List Lexeme} {a : Act} → ReadsCall ts a → ReadsForm unmarked Call ts (simple a)
  guarded : {ts us : List Lexeme} {c : Test} {a : Act} → ReadsGuard ts us c → ReadsGuarded us a → ReadsForm unmarked LogicalIf ts (logical c a)
  begins : {ts : List Lexeme} {l : Option ℕ} {r : Range} {mark : Mark} → ReadsDo ts l r → ReadsForm mark Do ts (opens_do l r mark)
  repeats : {ts : List Lexeme} {c : Test} → ReadsGuard ts [] c → ReadsForm unmarked DoWhile ts (opens_while c)
  finished : ReadsForm unmarked EndDo [] end_do
  continued : ReadsForm unmarked Continue [] go_on
  tests : {ts : List Lexeme} {c : Test} → ReadsGuard ts [] c → ReadsForm unmarked BlockIf ts (opens_if c)
  turns : ReadsForm unmarked Else [] otherwise
  tests_again : {ts : List Lexeme} {c : Test} → ReadsGuard ts [] c → ReadsForm unmarked ElseIf ts (otherwise_if c)
  closed : ReadsForm unmarked EndIf [] end_if
  returned : ReadsForm unmarked Return [] leaves
  ended : ReadsForm unmarked End [] ends
