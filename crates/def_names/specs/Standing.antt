-- Where names stand in a statement, and with how many subscripts. (docs/REFUSALS.md, "Names")
use Rattle.std.specs.Prelude.{ℕ, suc, List, [], ◌∷◌, ◌++◌, Option, Some, None}
use Rattle.adj_tree.specs.Code.{Var, plain, shadow, helper, Term, lit, var, elem, neg, bin, pow, power_of, abs, Terms, none, more, Test, compare, negation, conjunction, disjunction, Runtime, push_word, pop_word, push_array, pop_array, push_control, pop_control, zero_array, begin_reversal, count_actions, give_action, end_reversal, Mark, unmarked, with_count, count_from, Act, assign, choose, loop, during, call, runtime}

-- a name as it stands at a place: with so many subscripts, none for a scalar; or whole, as an actual that may be a scalar or an array
pub record Standing : Type 0 where
  pub name : List ℕ
  pub subscripts : Option ℕ

abbrev pub standing : Option ℕ → Var → List Standing
standing n (plain x) = record { name = x; subscripts = n } ∷ []
standing n (shadow x) = []
standing n (helper r k) = []

abbrev pub scalar : Var → List Standing
scalar x = standing (Some 0) x

abbrev pub whole : Var → List Standing
whole x = standing None x

abbrev pub count_of : Terms → ℕ
count_of none = 0
count_of (more e es) = suc (count_of es)

-- ---- in text order

abbrev mutual
  pub in_term : Term → List Standing
  in_term (lit z) = []
  in_term (var x) = scalar x
  in_term (elem x subs) = standing (Some (count_of subs)) x ++ in_terms subs
  in_term (neg a) = in_term a
  in_term (bin op a b) = in_term a ++ in_term b
  in_term (pow a k) = in_term a
  in_term (power_of a b) = in_term a ++ in_term b
  in_term (abs a) = in_term a

  pub in_terms : Terms → List Standing
  in_terms none = []
  in_terms (more e es) = in_term e ++ in_terms es

-- a scalar or an element
abbrev pub in_place : Var → Terms → List Standing
in_place x subs = standing (Some (count_of subs)) x ++ in_terms subs

abbrev pub in_test : Test → List Standing
in_test (compare r a b) = in_term a ++ in_term b
in_test (negation c) = in_test c
in_test (conjunction c d) = in_test c ++ in_test d
in_test (disjunction c d) = in_test c ++ in_test d

-- a name alone is an actual as a whole
abbrev pub in_actual : Term → List Standing
in_actual (var x) = whole x
in_actual (lit z) = in_term (lit z)
in_actual (elem x subs) = in_term (elem x subs)
in_actual (neg a) = in_term (neg a)
in_actual (bin op a b) = in_term (bin op a b)
in_actual (pow a k) = in_term (pow a k)
in_actual (power_of a b) = in_term (power_of a b)
in_actual (abs a) = in_term (abs a)

abbrev pub in_actuals : Terms → List Standing
in_actuals none = []
in_actuals (more e es) = in_actual e ++ in_actuals es

-- a call of the runtime takes arrays as a whole, and else words
abbrev pub in_runtime : Runtime → List Standing
in_runtime (push_word x subs) = in_place x subs
in_runtime (pop_word x subs) = in_place x subs
in_runtime (push_array x) = whole x
in_runtime (pop_array x) = whole x
in_runtime (push_control e) = in_term e
in_runtime (pop_control x) = scalar x
in_runtime (zero_array x) = whole x
in_runtime (begin_reversal l s) = in_term l ++ in_term s
in_runtime (count_actions l s n) = in_term l ++ (in_term s ++ scalar n)
in_runtime (give_action l s k a f t) = in_term l ++ (in_term s ++ (in_term k ++ (scalar a ++ (scalar f ++ scalar t))))
in_runtime end_reversal = []

-- the name that says the number of snapshots stands on a line of its own before its DO
abbrev pub in_mark : Mark → List Standing
in_mark unmarked = []
in_mark (with_count m) = []
in_mark (count_from x) = scalar x

-- in a statement itself, without those in it
abbrev pub in_act : Act → List Standing
in_act (assign x subs e) = in_place x subs ++ in_term e
in_act (choose c a b) = in_test c
in_act (loop x first last by body m) = in_mark m ++ (scalar x ++ (in_term first ++ (in_term last ++ in_term by)))
in_act (during c body) = in_test c
in_act (call name args) = in_actuals args
in_act (runtime r) = in_runtime r
