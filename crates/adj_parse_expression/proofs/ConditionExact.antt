-- ConditionExact: what stands for a condition while it is read is what it is judged to be.
use Rattle.std.proofs.Common.{◌≡◌, ℕ, suc, ◌+◌, min, max, Bool, List, [], Option, Some, None, Result, refl, ap, ap₂, ◌∙◌, arith}
use Rattle.std.specs.Prelude.{◌||◌, nat_lt, option_map, IfSome}
use Rattle.adj_tree.specs.Code.{Test, compare, negation, conjunction, disjunction}
use Rattle.def_text.specs.Grammar.{with_both, tree}
use Rattle.def_text.specs.Condition.{Condition, test, Part, Whole, DerivesCondition, comparison, group, plain, not, item, and, whole, or}
use Rattle.def_text.specs.Lexeme.{Lexeme}
use Rattle.adj_parse_expression.specs.declared.flaw.Flaw.{Flaw}
use Rattle.adj_parse_expression.specs.ConditionMachine.{test_value, beginning, Ends, read_test}
use Rattle.adj_parse_expression.specs.Flaws.{of_one, of_two, kept}
use Rattle.adj_parse_expression.specs.Front.{front_condition}
use Rattle.adj_parse_expression.specs.Judged.{has_large, depth, test_large, test_depth, judged_by, judged_test}
use Rattle.adj_parse_expression.specs.PartialCondition.{PartialTest, bounded_test, comparison_of, negation_of, conjunction_of, disjunction_of, test_algebra}
use Rattle.adj_parse_expression.specs.Reading.{read_condition}
use Rattle.adj_parse_expression.proofs.Exact.{of_one-judged, of_two-judged, kept-judged, deeper_one, deeper_two, exact}
use Rattle.adj_parse_expression.proofs.ConditionUnique.{test_derived, same_reading}

-- what it should be
abbrev exactly : ℕ → Condition → PartialTest
exactly limit c = record { found = judged_test limit c; depth = min (test_depth c) (limit + 1) }

same : {f g : Result Test Flaw} {d e : ℕ} → f ≡ g → d ≡ e → (let x : PartialTest = record { found = f; depth = d } in x) ≡ record { found = g; depth = e }
same p q = ap₂ (λ (r : Result Test Flaw) (n : ℕ). let x : PartialTest = record { found = r; depth = n } in x) p q

-- the tree or what is wrong, and what stands behind
abbrev pub found_of : PartialTest × List Lexeme → Result Test Flaw × List Lexeme
found_of f = (f.0.found, f.1)

module _ (limit : ℕ) where
  one_exact : (l : Bool) (d : ℕ) (o : Option Test) (f : Test → Test) → bounded_test limit (of_one f (judged_by l (nat_lt limit d) o)) (min d (limit + 1) + 1) ≡ record { found = judged_by l (nat_lt limit (suc d)) (option_map f o); depth = min (suc d) (limit + 1) }
  one_exact l d o f =
      let b = nat_lt limit (min d (limit + 1) + 1) in
      same (ap (kept b) (of_one-judged f l (nat_lt limit d) o) ∙ kept-judged b l (nat_lt limit d) (option_map f o) ∙ ap (λ e. judged_by l e (option_map f o)) (deeper_one limit d)) (omega arith)

  two_exact : {A : Type 0} (l m : Bool) (d e : ℕ) (o p : Option A) (f : A → A → Test) → bounded_test limit (of_two f (judged_by l (nat_lt limit d) o) (judged_by m (nat_lt limit e) p)) (max (min d (limit + 1)) (min e (limit + 1)) + 1) ≡ record { found = judged_by (l || m) (nat_lt limit (suc (max d e))) (with_both (λ t u. Some (f t u)) o p); depth = min (suc (max d e)) (limit + 1) }
  two_exact l m d e o p f =
      let b = nat_lt limit (max (min d (limit + 1)) (min e (limit + 1)) + 1) in
      let deep = nat_lt limit d || nat_lt limit e in
      let whole = with_both (λ t u. Some (f t u)) o p in
      same (ap (kept b) (of_two-judged f l (nat_lt limit d) m (nat_lt limit e) o p) ∙ kept-judged b (l || m) deep whole ∙ ap (λ g. judged_by (l || m) g whole) (deeper_two limit d e)) (omega arith)

  -- what is derived is read exactly
  test_exact : {part : Part} {ts rest : List Lexeme} {c : Condition} → DerivesCondition part ts rest c → test_value (test_algebra limit) c ≡ exactly limit c
  test_exact (comparison {a = a} {b = b} {r = r} rel p q) = ap₂ (comparison_of limit r) (exact limit p) (exact limit q) ∙ two_exact (has_large a) (has_large b) (depth a) (depth b) (tree a) (tree b) (compare r)
  test_exact (group p) = test_exact p
  test_exact (plain p) = test_exact p
  test_exact (not {c = c} p) = ap (negation_of limit) (test_exact p) ∙ one_exact (test_large c) (test_depth c) (test c) negation
  test_exact (item p) = test_exact p
  test_exact (and {c = c} {d = d} p q) = ap₂ (conjunction_of limit) (test_exact p) (test_exact q) ∙ two_exact (test_large c) (test_large d) (test_depth c) (test_depth d) (test c) (test d) conjunction
  test_exact (whole p) = test_exact p
  test_exact (or {c = c} {d = d} p q) = ap₂ (disjunction_of limit) (test_exact p) (test_exact q) ∙ two_exact (test_large c) (test_large d) (test_depth c) (test_depth d) (test c) (test d) disjunction

  found : (lexemes : List Lexeme) (o : Option (Condition × List Lexeme)) → IfSome o (λ r. DerivesCondition Whole lexemes r.1 r.0 × Ends r.1) → option_map found_of (option_map (λ f. (test_value (test_algebra limit) f.0, f.1)) o) ≡ option_map (λ f. (judged_test limit f.0, f.1)) o
  found lexemes None h = refl
  found lexemes (Some f) h = ap (λ (x : PartialTest). Some (found_of (x, f.1))) (test_exact h.0)

  -- what the code's machine reads at the front is what stands there, judged
  pub front_read : (lexemes : List Lexeme) → option_map found_of (read_test (test_algebra limit) (beginning []) lexemes) ≡ front_condition limit lexemes
  front_read lexemes = ap (option_map found_of) (same_reading (test_algebra limit) lexemes) ∙ found lexemes (read_condition lexemes) (test_derived lexemes)
