-- Following: which statements can follow others, by the grammar of units.
use Rattle.std.specs.Prelude.{◌≢◌, ℕ, ◌==◌, List, [], ◌∷◌, ◌++◌, map, Option, option_map, if◌then◌else◌}
use Rattle.adj_tree.specs.Code.{Test, Mark, Act}
use Rattle.adj_tree.specs.Common.{Shared}
use Rattle.def_text.specs.Form.{Form, subroutine, implicit_none, integers, common, simple, logical, opens_do, opens_while, end_do, go_on, opens_if, otherwise, otherwise_if, end_if, leaves, ends, Statement, at}
use Rattle.def_text.specs.Statement.{Item, Range}
use Rattle.def_text.specs.Unit.{ReadsUnits}
use Rattle.def_text.specs.declared.stated.Kind.{Kind}
use Rattle.def_text.specs.declared.stated.Kind.TheVariants.{Do, BlockIf, LogicalIf, Assign, Continue, Return, End, EndIf, EndDo, Else, ImplicitNone, ElseIf, DoWhile, Subroutine, Integer, Call, Common}

-- `DO 0` has a label that no CONTINUE can have; it counts as a DO with label k, where no statement has that
abbrev pub renumbered : ℕ → ℕ → ℕ
renumbered k l = if l == 0 then k else l

abbrev pub with_label : ℕ → Statement → Statement
with_label k (at n l (opens_do label r mark)) = at n l (opens_do (option_map (renumbered k) label) r mark)
with_label k s = s

abbrev pub IsFree : ℕ → List Statement → Type 0
IsFree k [] = k ≢ 0
IsFree k (at n l f ∷ ss) = (l ≢ k) × IsFree k ss

-- statements have a continuation that reads as units
pub record Continues (statements : List Statement) : Type 0 where
  pub label : ℕ
  pub free : IsFree label statements
  pub more : List Statement
  pub units : List Shared
  pub reads : ReadsUnits (map (with_label label) statements ++ more) units

-- a statement of this class says this
pub data IsOf : Kind → Form → Type 0 where
  heading : {x : List ℕ} {dummies : List (List ℕ)} → IsOf Subroutine (subroutine x dummies)
  implicit : IsOf ImplicitNone implicit_none
  declaration : {is : List Item} → IsOf Integer (integers is)
  shared : {b : List ℕ} {is : List Item} → IsOf Common (common b is)
  assigned : {a : Act} → IsOf Assign (simple a)
  called : {a : Act} → IsOf Call (simple a)
  guarded : {c : Test} {a : Act} → IsOf LogicalIf (logical c a)
  begins : {l : Option ℕ} {r : Range} {mark : Mark} → IsOf Do (opens_do l r mark)
  repeats : {c : Test} → IsOf DoWhile (opens_while c)
  finished : IsOf EndDo end_do
  continued : IsOf Continue go_on
  tests : {c : Test} → IsOf BlockIf (opens_if c)
  turns : IsOf Else otherwise
  tests_again : {c : Test} → IsOf ElseIf (otherwise_if c)
  whole : IsOf EndIf end_if
  returned : IsOf Return leaves
  ended : IsOf End ends

-- a statement of the class without a label can follow these: with it they have a continuation that reads
pub record CanFollow (kind : Kind) (statements : List Statement) : Type 0 where
  pub line : ℕ
  pub form : Form
  pub of_kind : IsOf kind form
  pub continues : Continues (statements ++ at line 0 form ∷ [])
