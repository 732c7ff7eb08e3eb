-- The kernel of a program: the steps from targets to calls. (The bodies of marked loops become units of their own before these steps.)
use Rattle.std.specs.Prelude.{◌≡◌, ℕ, List, Bool, Some}
use Rattle.adj_tree.specs.Code.{Var, plain, shadow, helper, Term, lit, var, elem, neg, bin, pow, power_of, abs, Terms, none, more, Test, compare, negation, conjunction, disjunction, Mark, unmarked, with_count, count_from, Act, assign, choose, loop, during, call, runtime, Code, stop, step, Procedure}
use Rattle.def_meaning.specs.Written.{find_unit, handed_back}
pub use Rattle.def_meaning.specs.Apart.{is_named}
use Rattle.law_kernel.specs.Apart.{EachCall}
use Rattle.def_kernel.specs.Calls.{AreHandedApart, ArraysStandOnce, ScalarsToScalars}
use Rattle.def_kernel.specs.Kernel.{EachUnit, names_of}

-- ---- the variables of a unit

-- whether it is one of the unit
abbrev pub is_of : Procedure → Var → Bool
is_of u = is_named (names_of u)

-- ---- locals

-- ---- units

-- ---- what a checked program gives

-- a CALL: its unit is there, no actual is handed back into what an earlier actual is, no array stands twice as a whole, and
-- what is handed back from a scalar goes into scalars
pub record IsFitCall (units : List Procedure) (caller : Procedure) (name : List ℕ) (args : Terms) : Type 0 where
  pub called : Procedure
  pub found : find_unit units name ≡ Some called
  pub once : AreHandedApart (handed_back units name) args
  pub arrays : ArraysStandOnce caller.declarations args
  pub ranks : ScalarsToScalars called.declarations caller.declarations called.dummies (handed_back units name) args

-- a variable of the text
abbrev pub PlainVar : Var → Type 0
PlainVar (plain x) = Unit {0}
PlainVar (shadow x) = ⊥
PlainVar (helper r k) = ⊥

abbrev mutual
  -- each variable is one of the text
  pub PlainTerm : Term → Type 0
  PlainTerm (lit z) = Unit {0}
  PlainTerm (var x) = PlainVar x
  PlainTerm (elem x subs) = PlainVar x × PlainTerms subs
  PlainTerm (neg a) = PlainTerm a
  PlainTerm (bin op a b) = PlainTerm a × PlainTerm b
  PlainTerm (pow a k) = PlainTerm a
  PlainTerm (power_of a b) = PlainTerm a × PlainTerm b
  PlainTerm (abs a) = PlainTerm a

  pub PlainTerms : Terms → Type 0
  PlainTerms none = Unit {0}
  PlainTerms (more e es) = PlainTerm e × PlainTerms es

abbrev pub PlainTest : Test → Type 0
PlainTest (compare r a b) = PlainTerm a × PlainTerm b
PlainTest (negation c) = PlainTest c
PlainTest (conjunction c d) = PlainTest c × PlainTest d
PlainTest (disjunction c d) = PlainTest c × PlainTest d

abbrev pub PlainMark : Mark → Type 0
PlainMark unmarked = Unit {0}
PlainMark (with_count m) = Unit {0}
PlainMark (count_from x) = PlainVar x

abbrev mutual
  pub PlainAct : Act → Type 0
  PlainAct (assign x subs e) = PlainVar x × (PlainTerms subs × PlainTerm e)
  PlainAct (choose c a b) = PlainTest c × (PlainCode a × PlainCode b)
  PlainAct (loop x first last by body m) = PlainVar x × ((PlainMark m × (PlainTerm first × (PlainTerm last × PlainTerm by))) × PlainCode body)
  PlainAct (during c body) = PlainTest c × PlainCode body
  PlainAct (call name args) = PlainTerms args
  PlainAct (runtime r) = Unit {0}

  pub PlainCode : Code → Type 0
  PlainCode stop = Unit {0}
  PlainCode (step line a rest) = PlainAct a × PlainCode rest

-- a program whose calls fit, without runtime calls, and whose variables are those of a text
pub record IsFit (units : List Procedure) : Type 0 where
  pub plains : EachUnit (λ u. PlainCode u.body) units
  pub calls : EachUnit (λ u. EachCall (IsFitCall units u) u.body) units
