-- Code that is formed as written code is, and whose variables stand as a property allows: with so many subscripts, or whole.
use Rattle.std.proofs.Common.{◌≡◌, ℕ, ◌<◌, ◌≤◌, Bool, true, false, List, refl}
use Rattle.std.specs.Prelude.{Option, Some, None}
use Rattle.adj_tree.specs.Code.{Var, plain, shadow, helper, Term, lit, var, elem, neg, bin, pow, power_of, abs, Terms, none, more, Test, compare, negation, conjunction, disjunction, Runtime, push_word, pop_word, push_array, pop_array, push_control, pop_control, zero_array, begin_reversal, count_actions, give_action, end_reversal, Mark, unmarked, with_count, count_from, Act, assign, choose, loop, during, call, runtime, Code, stop, step}
use Rattle.def_text.specs.Written.{IsName, IsLiteral, AreSubscripts, is_literal}
use Rattle.def_meaning.specs.Append.{◌+++◌}
use Rattle.def_names.specs.Standing.{count_of}
use Rattle.def_names.specs.Reserved.{is_runtime}
use Rattle.def_sweep.specs.Marked.{code_if}
use Rattle.def_sweep.specs.Plan.{names_of}
use Rattle.law_emitted.proofs.Lists.{Each}

module _ (Q : Var → Option ℕ → Type 0) (A : Var → Type 0) where
  abbrev mutual
    pub OverTerm : Term → Type 0
    OverTerm (lit n) = IsLiteral n
    OverTerm (var x) = Q x (Some 0)
    OverTerm (elem x s) = Q x (Some (count_of s)) × (AreSubscripts s × OverTerms s)
    OverTerm (neg a) = OverTerm a
    OverTerm (bin op a b) = OverTerm a × OverTerm b
    OverTerm (pow a k) = OverTerm a × (k ≤ 63)
    OverTerm (power_of a b) = OverTerm a × (OverTerm b × (is_literal b ≡ false))
    OverTerm (abs a) = OverTerm a

    pub OverTerms : Terms → Type 0
    OverTerms none = Unit {0}
    OverTerms (more e rest) = OverTerm e × OverTerms rest

  -- a scalar or an element
  abbrev pub OverPlace : Var → Terms → Type 0
  OverPlace x none = Q x (Some 0)
  OverPlace x (more e es) = Q x (Some (count_of (more e es))) × (AreSubscripts (more e es) × OverTerms (more e es))

  abbrev pub OverTest : Test → Type 0
  OverTest (compare r a b) = OverTerm a × OverTerm b
  OverTest (negation c) = OverTest c
  OverTest (conjunction c d) = OverTest c × OverTest d
  OverTest (disjunction c d) = OverTest c × OverTest d

  -- a name alone is an actual as a whole
  abbrev pub OverActual : Term → Type 0
  OverActual (var x) = Q x None
  OverActual (lit n) = OverTerm (lit n)
  OverActual (elem x s) = OverTerm (elem x s)
  OverActual (neg a) = OverTerm (neg a)
  OverActual (bin op a b) = OverTerm (bin op a b)
  OverActual (pow a k) = OverTerm (pow a k)
  OverActual (power_of a b) = OverTerm (power_of a b)
  OverActual (abs a) = OverTerm (abs a)

  abbrev pub OverActuals : Terms → Type 0
  OverActuals none = Unit {0}
  OverActuals (more e rest) = OverActual e × OverActuals rest

  -- an array of a runtime call stands whole
  abbrev pub OverRuntime : Runtime → Type 0
  OverRuntime (push_word x s) = OverPlace x s
  OverRuntime (pop_word x s) = OverPlace x s
  OverRuntime (push_array x) = Q x None × A x
  OverRuntime (pop_array x) = Q x None × A x
  OverRuntime (push_control e) = OverTerm e
  OverRuntime (pop_control x) = Q x (Some 0)
  OverRuntime (zero_array x) = Q x None × A x
  OverRuntime (begin_reversal l s) = OverTerm l × OverTerm s
  OverRuntime (count_actions l s n) = OverTerm l × (OverTerm s × Q n (Some 0))
  OverRuntime (give_action l s k a f t) = OverTerm l × (OverTerm s × (OverTerm k × (Q a (Some 0) × (Q f (Some 0) × Q t (Some 0)))))
  OverRuntime end_reversal = Unit {0}

  abbrev pub OverMark : Mark → Type 0
  OverMark unmarked = Unit {0}
  OverMark (with_count n) = (0 < n) × (n ≤ 64)
  OverMark (count_from x) = Q x (Some 0)

  -- another variable at the same place
  pub place_other : (x y : Var) (s : Terms) → (Q x (Some (count_of s)) → Q y (Some (count_of s))) → OverPlace x s → OverPlace y s
  place_other x y none f h = f h
  place_other x y (more e es) f h = (f h.0, h.1)

  -- names among actuals stand whole
  pub names_stand : (args : Terms) → OverActuals args → Each (λ a. Q (plain a) None) (names_of args)
  names_stand none h = tt
  names_stand (more (var (plain a)) es) h = (h.0, names_stand es h.1)
  names_stand (more (var (shadow a)) es) h = names_stand es h.1
  names_stand (more (var (helper r k)) es) h = names_stand es h.1
  names_stand (more (lit z) es) h = names_stand es h.1
  names_stand (more (elem x s) es) h = names_stand es h.1
  names_stand (more (neg a) es) h = names_stand es h.1
  names_stand (more (bin op a b) es) h = names_stand es h.1
  names_stand (more (pow a k) es) h = names_stand es h.1
  names_stand (more (power_of a b) es) h = names_stand es h.1
  names_stand (more (abs a) es) h = names_stand es h.1

-- statements, where of each CALL of a unit and its actuals C holds
module _ (Q : Var → Option ℕ → Type 0) (A : Var → Type 0) (C : List ℕ → Terms → Type 0) where
  abbrev mutual
    pub OverAct : Act → Type 0
    OverAct (assign x s e) = OverPlace Q A x s × OverTerm Q A e
    OverAct (choose c a b) = OverTest Q A c × (OverCode a × OverCode b)
    OverAct (loop x a b c body m) = Q x (Some 0) × (OverTerm Q A a × (OverTerm Q A b × (OverTerm Q A c × (OverCode body × OverMark Q A m))))
    OverAct (during c body) = OverTest Q A c × OverCode body
    OverAct (call name actuals) = IsName name × (OverActuals Q A actuals × ((is_runtime name ≡ false) × C name actuals))
    OverAct (runtime r) = OverRuntime Q A r

    pub OverCode : Code → Type 0
    OverCode stop = Unit {0}
    OverCode (step line a rest) = OverAct a × OverCode rest

  -- lists one after another
  pub over_append : (c d : Code) → OverCode c → OverCode d → OverCode (c +++ d)
  over_append stop d h g = g
  over_append (step line a c) d h g = (h.0, over_append c d h.1 g)

  pub over_if : (b : Bool) (c : Code) → (b ≡ true → OverCode c) → OverCode (code_if b c)
  over_if true c h = h refl
  over_if false c h = tt

-- nothing is asked of a CALL
abbrev pub Any : List ℕ → Terms → Type 0
Any name actuals = Unit {0}
