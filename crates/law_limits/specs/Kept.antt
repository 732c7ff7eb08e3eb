-- Kept: the limits on names, on depth and on nesting that a program keeps. (docs/LANGUAGE.md, "Modes")
use Rattle.std.specs.Prelude.{◌≡◌, ℕ, ◌+◌, Bool, true, ◌&&◌, nat_le, List, [], ◌∷◌, length}
use Rattle.std.specs.List.{list_all}
use Rattle.adj_tree.specs.Code.{Var, plain, shadow, helper, Term, Terms, lit, var, elem, neg, bin, pow, power_of, abs, none, more, Test, compare, negation, conjunction, disjunction, Runtime, push_word, pop_word, push_array, pop_array, push_control, pop_control, zero_array, begin_reversal, count_actions, give_action, end_reversal, Mark, unmarked, with_count, count_from, Act, assign, choose, loop, during, call, runtime, Code, stop, step, Extent, fixed, given, Procedure}
use Rattle.adj_tree.specs.Size.{term_depth, test_depth, IsNested}
use Rattle.law_limits.specs.Rule.{Rule, keeps}

-- the actuals of a call of the runtime; a place is an element, of no subscripts where it is a scalar
abbrev pub actuals_of : Runtime → Terms
actuals_of (push_word x s) = more (elem x s) none
actuals_of (pop_word x s) = more (elem x s) none
actuals_of (push_array x) = more (var x) none
actuals_of (pop_array x) = more (var x) none
actuals_of (push_control e) = more e none
actuals_of (pop_control x) = more (var x) none
actuals_of (zero_array x) = more (var x) none
actuals_of (begin_reversal l s) = more l (more s none)
actuals_of (count_actions l s n) = more l (more s (more (var n) none))
actuals_of (give_action l s k a f t) = more l (more s (more k (more (var a) (more (var f) (more (var t) none)))))
actuals_of end_reversal = none

-- ---- names of at most so many characters

abbrev pub is_short : ℕ → List ℕ → Bool
is_short n x = nat_le (length x) n

-- a variable of the text; no other has a name
abbrev pub var_short : ℕ → Var → Bool
var_short n (plain x) = is_short n x
var_short n (shadow x) = true
var_short n (helper r k) = true

abbrev mutual
  pub term_short : ℕ → Term → Bool
  term_short n (lit z) = true
  term_short n (var x) = var_short n x
  term_short n (elem x s) = var_short n x && terms_short n s
  term_short n (neg a) = term_short n a
  term_short n (bin op a b) = term_short n a && term_short n b
  term_short n (pow a k) = term_short n a
  term_short n (power_of a b) = term_short n a && term_short n b
  term_short n (abs a) = term_short n a

  pub terms_short : ℕ → Terms → Bool
  terms_short n none = true
  terms_short n (more e rest) = term_short n e && terms_short n rest

abbrev pub test_short : ℕ → Test → Bool
test_short n (compare r a b) = term_short n a && term_short n b
test_short n (negation c) = test_short n c
test_short n (conjunction c d) = test_short n c && test_short n d
test_short n (disjunction c d) = test_short n c && test_short n d

abbrev pub mark_short : ℕ → Mark → Bool
mark_short n unmarked = true
mark_short n (with_count k) = true
mark_short n (count_from x) = var_short n x

abbrev pub extent_short : ℕ → Extent → Bool
extent_short n (fixed z) = true
extent_short n (given x) = is_short n x

abbrev pub deed_short : ℕ → Act → Bool
deed_short n (assign x s e) = var_short n x && (terms_short n s && term_short n e)
deed_short n (choose c a b) = true
deed_short n (loop x a b c body m) = true
deed_short n (during c body) = true
deed_short n (call x es) = is_short n x && terms_short n es
deed_short n (runtime r) = terms_short n (actuals_of r)

abbrev pub short_names : ℕ → Rule
short_names n = record {
  heading = λ x dummies. is_short n x && list_all (is_short n) dummies;
  declared = λ x extents. is_short n x && list_all (extent_short n) extents;
  deed = deed_short n;
  test = test_short n;
  range = λ r m. var_short n r.counter && (term_short n r.from && (term_short n r.to && term_short n r.by)) && mark_short n m;
}

-- ---- expressions and conditions of at most so much depth, as a reader counts it: of subscripts and actuals each one, and of a CALL of the runtime each actual as well

abbrev pub is_shallow : ℕ → Term → Bool
is_shallow n e = nat_le (term_depth e) n

abbrev pub all_shallow : ℕ → Terms → Bool
all_shallow n none = true
all_shallow n (more e rest) = is_shallow n e && all_shallow n rest

abbrev pub deed_shallow : ℕ → Act → Bool
deed_shallow n (assign x s e) = all_shallow n s && is_shallow n e
deed_shallow n (choose c a b) = true
deed_shallow n (loop x a b c body m) = true
deed_shallow n (during c body) = true
deed_shallow n (call x es) = all_shallow n es
deed_shallow n (runtime r) = all_shallow n (actuals_of r)

abbrev pub shallow : ℕ → Rule
shallow n = record {
  heading = λ x dummies. true;
  declared = λ x extents. true;
  deed = deed_shallow n;
  test = λ c. nat_le (test_depth c) n;
  range = λ r m. (is_shallow n r.from && is_shallow n r.to) && is_shallow n r.by;
}

-- ---- how many statements there are, those in IF and DO included

abbrev mutual
  pub acts_in : Act → ℕ
  acts_in (assign x s e) = 1
  acts_in (choose c a b) = 1 + (acts_in_code a + acts_in_code b)
  acts_in (loop x a b c body m) = 1 + acts_in_code body
  acts_in (during c body) = 1 + acts_in_code body
  acts_in (call x es) = 1
  acts_in (runtime r) = 1

  pub acts_in_code : Code → ℕ
  acts_in_code stop = 0
  acts_in_code (step line a rest) = acts_in a + acts_in_code rest

abbrev pub statements_in : List Procedure → ℕ
statements_in [] = 0
statements_in (p ∷ ps) = acts_in_code p.body + statements_in ps

-- ---- all limits

-- a program whose names have at most so many characters, whose expressions and conditions are at most so deep, and whose statements are nested at most so deep
pub record IsKept (name depth nesting : ℕ) (ps : List Procedure) : Type 0 where
  pub names : keeps (short_names name) ps ≡ true
  pub depths : keeps (shallow depth) ps ≡ true
  pub nested : IsNested nesting ps
