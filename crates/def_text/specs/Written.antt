-- Written: the programs that the trees of a text are, so that their canonical text reads as they are.
use Rattle.std.specs.Prelude.{◌≡◌, ℕ, ◌^◌, ◌<◌, ◌≤◌, ℤ, pos, negsuc, Bool, true, false, ◌&&◌, ◌||◌, List, [], ◌∷◌, length, None, is_some}
use Rattle.std.specs.List.{All, list_all}
use Rattle.adj_tree.specs.Code.{Var, plain, shadow, helper, Term, Terms, lit, var, elem, neg, bin, pow, power_of, abs, none, more, Test, compare, negation, conjunction, disjunction, Runtime, push_word, pop_word, push_array, pop_array, push_control, pop_control, zero_array, begin_reversal, count_actions, give_action, end_reversal, Mark, unmarked, with_count, count_from, Act, Code, assign, choose, loop, during, call, runtime, stop, step, Extent, fixed, given, Declaration, Procedure}
use Rattle.adj_tree.specs.Common.{Common, Shared}
use Rattle.def_text.specs.Char.{is_capital, is_name_char}
use Rattle.def_text.specs.Grammar.{is_absolute, operation_of, joins_literals}
use Rattle.def_text.specs.Statement.{runtime_call}

-- a capital letter, and then capital letters, digits and underscores
abbrev pub IsName : List ℕ → Type 0
IsName [] = ⊥
IsName (c ∷ cs) = (is_capital c ≡ true) × (list_all is_name_char cs ≡ true)

-- a variable of the text
abbrev pub IsVariable : Var → Type 0
IsVariable (plain x) = IsName x
IsVariable (shadow x) = ⊥
IsVariable (helper r k) = ⊥

abbrev pub is_intrinsic : List ℕ → Bool
is_intrinsic x = is_absolute x || is_some (operation_of x)

-- a variable that isn't named like an intrinsic
abbrev pub IsIndexed : Var → Type 0
IsIndexed (plain x) = IsName x × (is_intrinsic x ≡ false)
IsIndexed (shadow x) = ⊥
IsIndexed (helper r k) = ⊥

-- literals and extents are words that aren't negative
abbrev pub IsLiteral : ℤ → Type 0
IsLiteral (pos n) = n < 2 ^ 63
IsLiteral (negsuc n) = ⊥

-- one or two
abbrev pub AreSubscripts : Terms → Type 0
AreSubscripts (more a none) = Unit {0}
AreSubscripts (more a (more b none)) = Unit {0}
AreSubscripts _ = ⊥

-- whether only literals, signs, sums, differences, products and powers stand in an expression
abbrev pub is_literal : Term → Bool
is_literal (lit n) = true
is_literal (var x) = false
is_literal (elem x s) = false
is_literal (neg a) = is_literal a
is_literal (bin op a b) = joins_literals op && (is_literal a && is_literal b)
is_literal (pow a k) = is_literal a
is_literal (power_of a b) = is_literal a && is_literal b
is_literal (abs a) = false

-- an exponent that is kept as an expression isn't literal
abbrev mutual
  pub IsWrittenTerm : Term → Type 0
  IsWrittenTerm (lit n) = IsLiteral n
  IsWrittenTerm (var x) = IsVariable x
  IsWrittenTerm (elem x s) = IsIndexed x × AreSubscripts s × AreWrittenTerms s
  IsWrittenTerm (neg a) = IsWrittenTerm a
  IsWrittenTerm (bin op a b) = IsWrittenTerm a × IsWrittenTerm b
  IsWrittenTerm (pow a k) = IsWrittenTerm a × (k ≤ 63)
  IsWrittenTerm (power_of a b) = IsWrittenTerm a × IsWrittenTerm b × (is_literal b ≡ false)
  IsWrittenTerm (abs a) = IsWrittenTerm a

  pub AreWrittenTerms : Terms → Type 0
  AreWrittenTerms none = Unit {0}
  AreWrittenTerms (more e rest) = IsWrittenTerm e × AreWrittenTerms rest

abbrev pub IsWrittenTest : Test → Type 0
IsWrittenTest (compare r a b) = IsWrittenTerm a × IsWrittenTerm b
IsWrittenTest (negation c) = IsWrittenTest c
IsWrittenTest (conjunction c d) = IsWrittenTest c × IsWrittenTest d
IsWrittenTest (disjunction c d) = IsWrittenTest c × IsWrittenTest d

-- a place that an assignment changes: a scalar, or an element with any name
abbrev pub IsPlace : Var → Terms → Type 0
IsPlace x none = IsVariable x
IsPlace x s = IsVariable x × AreSubscripts s × AreWrittenTerms s

-- a place of a runtime call: a scalar, or an element that isn't named like an intrinsic
abbrev pub IsActualPlace : Var → Terms → Type 0
IsActualPlace x none = IsVariable x
IsActualPlace x s = IsIndexed x × AreSubscripts s × AreWrittenTerms s

abbrev pub IsWrittenRuntime : Runtime → Type 0
IsWrittenRuntime (push_word x s) = IsActualPlace x s
IsWrittenRuntime (pop_word x s) = IsActualPlace x s
IsWrittenRuntime (push_array x) = IsVariable x
IsWrittenRuntime (pop_array x) = IsVariable x
IsWrittenRuntime (push_control e) = IsWrittenTerm e
IsWrittenRuntime (pop_control x) = IsVariable x
IsWrittenRuntime (zero_array x) = IsVariable x
IsWrittenRuntime (begin_reversal l s) = IsWrittenTerm l × IsWrittenTerm s
IsWrittenRuntime (count_actions l s n) = IsWrittenTerm l × IsWrittenTerm s × IsVariable n
IsWrittenRuntime (give_action l s k a f t) = IsWrittenTerm l × IsWrittenTerm s × IsWrittenTerm k × IsVariable a × IsVariable f × IsVariable t
IsWrittenRuntime end_reversal = Unit {0}

-- a loop that is marked has 1 to 64 snapshots, or as many as a variable of the text says
abbrev pub IsWrittenMark : Mark → Type 0
IsWrittenMark unmarked = Unit {0}
IsWrittenMark (with_count n) = (0 < n) × (n ≤ 64)
IsWrittenMark (count_from x) = IsVariable x

-- a CALL of a unit has no name and actuals of a runtime call
abbrev mutual
  pub IsWrittenAct : Act → Type 0
  IsWrittenAct (assign x s e) = IsPlace x s × IsWrittenTerm e
  IsWrittenAct (choose c a b) = IsWrittenTest c × IsWrittenCode a × IsWrittenCode b
  IsWrittenAct (loop x a b c body m) = IsVariable x × IsWrittenTerm a × IsWrittenTerm b × IsWrittenTerm c × IsWrittenCode body × IsWrittenMark m
  IsWrittenAct (during c body) = IsWrittenTest c × IsWrittenCode body
  IsWrittenAct (call x actuals) = IsName x × AreWrittenTerms actuals × (runtime_call x actuals ≡ None)
  IsWrittenAct (runtime r) = IsWrittenRuntime r

  pub IsWrittenCode : Code → Type 0
  IsWrittenCode stop = Unit {0}
  IsWrittenCode (step line a rest) = IsWrittenAct a × IsWrittenCode rest

abbrev pub IsWrittenExtent : Extent → Type 0
IsWrittenExtent (fixed n) = IsLiteral n
IsWrittenExtent (given x) = IsName x

pub record IsWrittenDeclaration (d : Declaration) : Type 0 where
  pub named : IsName d.name
  pub few_extents : length d.extents ≤ 2
  pub extents : All IsWrittenExtent d.extents

pub record IsWrittenProcedure (p : Procedure) : Type 0 where
  pub named : IsName p.name
  pub dummies : All IsName p.dummies
  pub declarations : All IsWrittenDeclaration p.declarations
  pub body : IsWrittenCode p.body

-- each unit of the program is written
abbrev pub IsWritten : List Procedure → Type 0
IsWritten ps = All IsWrittenProcedure ps

-- a COMMON statement of such a text
pub record IsWrittenCommon (c : Common) : Type 0 where
  pub named : IsName c.block
  pub items : All IsWrittenDeclaration c.items

pub record IsWrittenShared (s : Shared) : Type 0 where
  pub unit : IsWrittenProcedure s.unit
  pub commons : All IsWrittenCommon s.commons

-- each unit and its COMMON statements are written
abbrev pub AreWritten : List Shared → Type 0
AreWritten ss = All IsWrittenShared ss
