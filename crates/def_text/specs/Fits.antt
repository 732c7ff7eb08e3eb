-- Fits: each literal and each extent of a program is a word.
use Rattle.std.specs.Prelude.{List}
use Rattle.std.specs.List.{All}
use Rattle.adj_tree.specs.Code.{Term, Terms, lit, var, elem, neg, bin, pow, power_of, abs, none, more, Test, compare, negation, conjunction, disjunction, Runtime, push_word, pop_word, push_control, begin_reversal, count_actions, give_action, Act, Code, assign, choose, loop, during, call, runtime, stop, step, Extent, fixed, given, Declaration, Procedure}
use Rattle.adj_tree.specs.Common.{Common, Shared}
use Rattle.def_text.specs.Written.{IsLiteral}

abbrev mutual
  pub FitsTerm : Term → Type 0
  FitsTerm (lit n) = IsLiteral n
  FitsTerm (var x) = Unit {0}
  FitsTerm (elem x s) = FitsTerms s
  FitsTerm (neg a) = FitsTerm a
  FitsTerm (bin op a b) = FitsTerm a × FitsTerm b
  FitsTerm (pow a k) = FitsTerm a
  FitsTerm (power_of a b) = FitsTerm a × FitsTerm b
  FitsTerm (abs a) = FitsTerm a

  pub FitsTerms : Terms → Type 0
  FitsTerms none = Unit {0}
  FitsTerms (more e rest) = FitsTerm e × FitsTerms rest

abbrev pub FitsTest : Test → Type 0
FitsTest (compare r a b) = FitsTerm a × FitsTerm b
FitsTest (negation c) = FitsTest c
FitsTest (conjunction c d) = FitsTest c × FitsTest d
FitsTest (disjunction c d) = FitsTest c × FitsTest d

abbrev pub FitsRuntime : Runtime → Type 0
FitsRuntime (push_word x s) = FitsTerms s
FitsRuntime (pop_word x s) = FitsTerms s
FitsRuntime (push_control e) = FitsTerm e
FitsRuntime (begin_reversal l s) = FitsTerm l × FitsTerm s
FitsRuntime (count_actions l s n) = FitsTerm l × FitsTerm s
FitsRuntime (give_action l s k a f t) = FitsTerm l × FitsTerm s × FitsTerm k
FitsRuntime _ = Unit {0}

abbrev mutual
  pub FitsAct : Act → Type 0
  FitsAct (assign x s e) = FitsTerms s × FitsTerm e
  FitsAct (choose c a b) = FitsTest c × FitsCode a × FitsCode b
  FitsAct (loop x a b c body m) = FitsTerm a × FitsTerm b × FitsTerm c × FitsCode body
  FitsAct (during c body) = FitsTest c × FitsCode body
  FitsAct (call x actuals) = FitsTerms actuals
  FitsAct (runtime r) = FitsRuntime r

  pub FitsCode : Code → Type 0
  FitsCode stop = Unit {0}
  FitsCode (step line a rest) = FitsAct a × FitsCode rest

abbrev pub FitsExtent : Extent → Type 0
FitsExtent (fixed n) = IsLiteral n
FitsExtent (given x) = Unit {0}

abbrev pub FitsDeclaration : Declaration → Type 0
FitsDeclaration d = All FitsExtent d.extents

pub record FitsProcedure (p : Procedure) : Type 0 where
  pub declarations : All FitsDeclaration p.declarations
  pub body : FitsCode p.body

-- each unit fits
abbrev pub Fits : List Procedure → Type 0
Fits ps = All FitsProcedure ps

abbrev pub FitsCommon : Common → Type 0
FitsCommon c = All FitsDeclaration c.items

pub record FitsShared (s : Shared) : Type 0 where
  pub unit : FitsProcedure s.unit
  pub commons : All FitsCommon s.commons

-- each unit and its COMMON statements fit
abbrev pub AllFit : List Shared → Type 0
AllFit ss = All FitsShared ss
