-- Two ways of renaming that agree on the variables which may stand in some code give the same.
use Rattle.std.proofs.Common.{◌≡◌, ℕ, List, refl, ap}
use Rattle.std.specs.Prelude.{Option, Some, None}
use Rattle.adj_tree.specs.Code.{Var, Term, lit, var, elem, neg, bin, pow, power_of, abs, Terms, none, more, Test, compare, negation, conjunction, disjunction, Runtime, push_word, pop_word, push_array, pop_array, push_control, pop_control, zero_array, begin_reversal, count_actions, give_action, end_reversal, Mark, unmarked, with_count, count_from, Act, assign, choose, loop, during, call, runtime, Code, stop, step}
use Rattle.def_meaning.specs.Rename.{rename_term, rename_terms, rename_test, rename_runtime, rename_mark, rename_act, rename}
use Rattle.def_names.specs.Standing.{count_of}
use Rattle.law_emitted.proofs.Over.{OverTerm, OverTerms, OverTest, OverPlace, OverActual, OverActuals, OverRuntime, OverMark, OverAct, OverCode}

module _ (Q : Var → Option ℕ → Type 0) (A : Var → Type 0) (C : List ℕ → Terms → Type 0) (r s : Var → Var) (same : (x : Var) (n : Option ℕ) → Q x n → r x ≡ s x) where
  mutual
    term_same : (e : Term) → OverTerm Q A e → rename_term r e ≡ rename_term s e
    term_same (lit z) h = refl
    term_same (var x) h = ap var (same x (Some 0) h)
    term_same (elem x subs) h = λ i. elem (same x (Some (count_of subs)) h.0 i) (terms_same subs h.1.1 i)
    term_same (neg a) h = ap neg (term_same a h)
    term_same (bin op a b) h = λ i. bin op (term_same a h.0 i) (term_same b h.1 i)
    term_same (pow a k) h = ap (λ e. pow e k) (term_same a h.0)
    term_same (power_of a b) h = λ i. power_of (term_same a h.0 i) (term_same b h.1.0 i)
    term_same (abs a) h = ap abs (term_same a h)

    terms_same : (es : Terms) → OverTerms Q A es → rename_terms r es ≡ rename_terms s es
    terms_same none h = refl
    terms_same (more e es) h = λ i. more (term_same e h.0 i) (terms_same es h.1 i)

  -- a place, of which a statement is made
  place_same : (x : Var) (es : Terms) (f : Var → Terms → Runtime) → OverPlace Q A x es → f (r x) (rename_terms r es) ≡ f (s x) (rename_terms s es)
  place_same x none f h = ap (λ y. f y none) (same x (Some 0) h)
  place_same x (more e es) f h = λ i. f (same x (Some (count_of (more e es))) h.0 i) (terms_same (more e es) h.1.1 i)

  target_same : (x : Var) (es : Terms) (e : Term) → OverPlace Q A x es → OverTerm Q A e → rename_act r (assign x es e) ≡ rename_act s (assign x es e)
  target_same x none e h g = λ i. assign (same x (Some 0) h i) none (term_same e g i)
  target_same x (more t ts) e h g = λ i. assign (same x (Some (count_of (more t ts))) h.0 i) (terms_same (more t ts) h.1.1 i) (term_same e g i)

  test_same : (c : Test) → OverTest Q A c → rename_test r c ≡ rename_test s c
  test_same (compare o a b) h = λ i. compare o (term_same a h.0 i) (term_same b h.1 i)
  test_same (negation c) h = ap negation (test_same c h)
  test_same (conjunction c d) h = λ i. conjunction (test_same c h.0 i) (test_same d h.1 i)
  test_same (disjunction c d) h = λ i. disjunction (test_same c h.0 i) (test_same d h.1 i)

  actual_same : (e : Term) → OverActual Q A e → rename_term r e ≡ rename_term s e
  actual_same (lit z) h = refl
  actual_same (var x) h = ap var (same x None h)
  actual_same (elem x subs) h = term_same (elem x subs) h
  actual_same (neg a) h = term_same (neg a) h
  actual_same (bin op a b) h = term_same (bin op a b) h
  actual_same (pow a k) h = term_same (pow a k) h
  actual_same (power_of a b) h = term_same (power_of a b) h
  actual_same (abs a) h = term_same (abs a) h

  actuals_same : (es : Terms) → OverActuals Q A es → rename_terms r es ≡ rename_terms s es
  actuals_same none h = refl
  actuals_same (more e es) h = λ i. more (actual_same e h.0 i) (actuals_same es h.1 i)

  runtime_same : (c : Runtime) → OverRuntime Q A c → rename_runtime r c ≡ rename_runtime s c
  runtime_same (push_word x subs) h = place_same x subs push_word h
  runtime_same (pop_word x subs) h = place_same x subs pop_word h
  runtime_same (push_array x) h = ap push_array (same x None h.0)
  runtime_same (pop_array x) h = ap pop_array (same x None h.0)
  runtime_same (push_control e) h = ap push_control (term_same e h)
  runtime_same (pop_control x) h = ap pop_control (same x (Some 0) h)
  runtime_same (zero_array x) h = ap zero_array (same x None h.0)
  runtime_same (begin_reversal l m) h = λ i. begin_reversal (term_same l h.0 i) (term_same m h.1 i)
  runtime_same (count_actions l m x) h = λ i. count_actions (term_same l h.0 i) (term_same m h.1.0 i) (same x (Some 0) h.1.1 i)
  runtime_same (give_action l m e x y z) h =
      λ i. give_action (term_same l h.0 i) (term_same m h.1.0 i) (term_same e h.1.1.0 i) (same x (Some 0) h.1.1.1.0 i) (same y (Some 0) h.1.1.1.1.0 i) (same z (Some 0) h.1.1.1.1.1 i)
  runtime_same end_reversal h = refl

  mark_same : (m : Mark) → OverMark Q A m → rename_mark r m ≡ rename_mark s m
  mark_same unmarked h = refl
  mark_same (with_count m) h = refl
  mark_same (count_from x) h = ap count_from (same x (Some 0) h)

  mutual
    act_same : (a : Act) → OverAct Q A C a → rename_act r a ≡ rename_act s a
    act_same (assign x subs e) h = target_same x subs e h.0 h.1
    act_same (choose c a b) h = λ i. choose (test_same c h.0 i) (code_same a h.1.0 i) (code_same b h.1.1 i)
    act_same (loop x first last by body m) h =
        λ i. loop (same x (Some 0) h.0 i) (term_same first h.1.0 i) (term_same last h.1.1.0 i) (term_same by h.1.1.1.0 i) (code_same body h.1.1.1.1.0 i) (mark_same m h.1.1.1.1.1 i)
    act_same (during c body) h = λ i. during (test_same c h.0 i) (code_same body h.1 i)
    act_same (call name args) h = ap (call name) (actuals_same args h.1.0)
    act_same (runtime c) h = ap runtime (runtime_same c h)

    pub code_same : (c : Code) → OverCode Q A C c → rename r c ≡ rename s c
    code_same stop h = refl
    code_same (step line a rest) h = λ i. step line (act_same a h.0 i) (code_same rest h.1 i)
