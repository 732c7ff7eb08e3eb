-- The names that stand in code once its variables have names.
use Rattle.std.proofs.Common.{◌≡◌, ℕ, suc, List, ◌∷◌, ◌++◌, refl, sym, ap, subst}
use Rattle.std.specs.Prelude.{Option, Some, None}
use Rattle.adj_tree.specs.Code.{Var, plain, Term, lit, var, elem, neg, bin, pow, power_of, abs, Terms, none, more, Test, compare, negation, conjunction, disjunction, Runtime, push_word, pop_word, push_array, pop_array, push_control, pop_control, zero_array, begin_reversal, count_actions, give_action, end_reversal, Mark, unmarked, with_count, count_from, Act, assign, choose, loop, during, call, runtime, Code, stop, step}
use Rattle.def_meaning.specs.Rename.{rename_term, rename_terms, rename_test, rename_runtime, rename_mark, rename_act, rename}
use Rattle.def_names.specs.Statements.{At, inner, statements}
use Rattle.def_names.specs.Standing.{Standing, scalar, whole, count_of, in_term, in_terms, in_test, in_place, in_actual, in_actuals, in_runtime, in_mark, in_act}
use Rattle.law_emitted.proofs.Lists.{Each, each_append}
use Rattle.law_emitted.proofs.Over.{OverTerm, OverTerms, OverTest, OverPlace, OverActual, OverActuals, OverRuntime, OverMark, OverAct, OverCode}

-- subscripts are as many under other names
renamed_count : (r : Var → Var) (s : Terms) → count_of (rename_terms r s) ≡ count_of s
renamed_count r none = refl
renamed_count r (more e es) = ap suc (renamed_count r es)

module _ (Q : Var → Option ℕ → Type 0) (A : Var → Type 0) (C : List ℕ → Terms → Type 0) (name : Var → List ℕ) (S : Standing → Type 0) (allow : (v : Var) (n : Option ℕ) → Q v n → S (record { name = name v; subscripts = n })) where
  abbrev named : Var → Var
  named v = plain (name v)

  stands_scalar : (v : Var) → Q v (Some 0) → Each S (scalar (named v))
  stands_scalar v q = (allow v (Some 0) q, tt)

  stands_whole : (v : Var) → Q v None → Each S (whole (named v))
  stands_whole v q = (allow v None q, tt)

  -- with subscripts
  stands_at : (v : Var) (s : Terms) → Q v (Some (count_of s)) → S (record { name = name v; subscripts = Some (count_of (rename_terms named s)) })
  stands_at v s q = subst (λ k. S (record { name = name v; subscripts = Some k })) (sym (renamed_count named s)) (allow v (Some (count_of s)) q)

  mutual
    stands_term : (e : Term) → OverTerm Q A e → Each S (in_term (rename_term named e))
    stands_term (lit z) o = tt
    stands_term (var x) o = stands_scalar x o
    stands_term (elem x s) o = (stands_at x s o.0, stands_terms s o.1.1)
    stands_term (neg a) o = stands_term a o
    stands_term (bin op a b) o = each_append S (in_term (rename_term named a)) (in_term (rename_term named b)) (stands_term a o.0) (stands_term b o.1)
    stands_term (pow a k) o = stands_term a o.0
    stands_term (power_of a b) o = each_append S (in_term (rename_term named a)) (in_term (rename_term named b)) (stands_term a o.0) (stands_term b o.1.0)
    stands_term (abs a) o = stands_term a o

    stands_terms : (es : Terms) → OverTerms Q A es → Each S (in_terms (rename_terms named es))
    stands_terms none o = tt
    stands_terms (more e es) o = each_append S (in_term (rename_term named e)) (in_terms (rename_terms named es)) (stands_term e o.0) (stands_terms es o.1)

  stands_test : (c : Test) → OverTest Q A c → Each S (in_test (rename_test named c))
  stands_test (compare p a b) o = each_append S (in_term (rename_term named a)) (in_term (rename_term named b)) (stands_term a o.0) (stands_term b o.1)
  stands_test (negation c) o = stands_test c o
  stands_test (conjunction c d) o = each_append S (in_test (rename_test named c)) (in_test (rename_test named d)) (stands_test c o.0) (stands_test d o.1)
  stands_test (disjunction c d) o = each_append S (in_test (rename_test named c)) (in_test (rename_test named d)) (stands_test c o.0) (stands_test d o.1)

  stands_place : (x : Var) (s : Terms) → OverPlace Q A x s → Each S (in_place (named x) (rename_terms named s))
  stands_place x none o = (allow x (Some 0) o, tt)
  stands_place x (more e es) o = (stands_at x (more e es) o.0, stands_terms (more e es) o.1.1)

  stands_actual : (e : Term) → OverActual Q A e → Each S (in_actual (rename_term named e))
  stands_actual (lit z) o = tt
  stands_actual (var x) o = stands_whole x o
  stands_actual (elem x s) o = stands_term (elem x s) o
  stands_actual (neg a) o = stands_term (neg a) o
  stands_actual (bin op a b) o = stands_term (bin op a b) o
  stands_actual (pow a k) o = stands_term (pow a k) o
  stands_actual (power_of a b) o = stands_term (power_of a b) o
  stands_actual (abs a) o = stands_term (abs a) o

  stands_actuals : (es : Terms) → OverActuals Q A es → Each S (in_actuals (rename_terms named es))
  stands_actuals none o = tt
  stands_actuals (more e es) o = each_append S (in_actual (rename_term named e)) (in_actuals (rename_terms named es)) (stands_actual e o.0) (stands_actuals es o.1)

  stands_runtime : (c : Runtime) → OverRuntime Q A c → Each S (in_runtime (rename_runtime named c))
  stands_runtime (push_word x s) o = stands_place x s o
  stands_runtime (pop_word x s) o = stands_place x s o
  stands_runtime (push_array x) o = stands_whole x o.0
  stands_runtime (pop_array x) o = stands_whole x o.0
  stands_runtime (push_control e) o = stands_term e o
  stands_runtime (pop_control x) o = stands_scalar x o
  stands_runtime (zero_array x) o = stands_whole x o.0
  stands_runtime (begin_reversal l s) o = each_append S (in_term (rename_term named l)) (in_term (rename_term named s)) (stands_term l o.0) (stands_term s o.1)
  stands_runtime (count_actions l s n) o =
      each_append S (in_term (rename_term named l)) (in_term (rename_term named s) ++ scalar (named n)) (stands_term l o.0) (each_append S (in_term (rename_term named s)) (scalar (named n)) (stands_term s o.1.0) (stands_scalar n o.1.1))
  stands_runtime (give_action l s k a f t) o =
      each_append S (in_term (rename_term named l)) _ (stands_term l o.0)
      (each_append S (in_term (rename_term named s)) _ (stands_term s o.1.0)
      (each_append S (in_term (rename_term named k)) _ (stands_term k o.1.1.0) (allow a (Some 0) o.1.1.1.0, (allow f (Some 0) o.1.1.1.1.0, (allow t (Some 0) o.1.1.1.1.1, tt)))))
  stands_runtime end_reversal o = tt

  stands_mark : (m : Mark) → OverMark Q A m → Each S (in_mark (rename_mark named m))
  stands_mark unmarked o = tt
  stands_mark (with_count n) o = tt
  stands_mark (count_from x) o = stands_scalar x o

  -- ---- statements at any depth

  abbrev pub Stands : At Act → Type 0
  Stands s = Each S (in_act s.1)

  mutual
    stands_act : (line : ℕ) (a : Act) → OverAct Q A C a → Each Stands ((line, rename_act named a) ∷ inner (rename_act named a))
    stands_act line (assign x s e) o = (each_append S (in_place (named x) (rename_terms named s)) (in_term (rename_term named e)) (stands_place x s o.0) (stands_term e o.1), tt)
    stands_act line (choose c a b) o = (stands_test c o.0, each_append Stands (statements (rename named a)) (statements (rename named b)) (stands_code a o.1.0) (stands_code b o.1.1))
    stands_act line (loop x a b c body m) o = (
      each_append S (in_mark (rename_mark named m)) _ (stands_mark m o.1.1.1.1.1)
          (each_append S (scalar (named x)) _ (stands_scalar x o.0)
          (each_append S (in_term (rename_term named a)) _ (stands_term a o.1.0)
          (each_append S (in_term (rename_term named b)) (in_term (rename_term named c)) (stands_term b o.1.1.0) (stands_term c o.1.1.1.0)))),
      stands_code body o.1.1.1.1.0,
    )
    stands_act line (during c body) o = (stands_test c o.0, stands_code body o.1)
    stands_act line (call unit args) o = (stands_actuals args o.1.0, tt)
    stands_act line (runtime c) o = (stands_runtime c o, tt)

    pub stands_code : (c : Code) → OverCode Q A C c → Each Stands (statements (rename named c))
    stands_code stop o = tt
    stands_code (step line a rest) o = let here = stands_act line a o.0 in (here.0, each_append Stands (inner (rename_act named a)) (statements (rename named rest)) here.1 (stands_code rest o.1))
