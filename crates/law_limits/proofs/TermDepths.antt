-- An expression or a condition is as deep as its tree.
use Rattle.std.proofs.Common.{◌≡◌, ℕ, suc, ◌+◌, max, pos, Bool, true, false, List, Option, Some, None, refl, sym, ap, ◌∙◌, arith}
use Rattle.std.specs.Prelude.{if◌then◌else◌}
use Rattle.adj_tree.specs.Code.{Op, Term, Terms, lit, var, elem, neg, bin, pow, power_of, abs, none, more, plain, Test, compare, negation, conjunction, disjunction}
use Rattle.adj_tree.specs.Size.{term_depth, terms_depth}
use Rattle.adj_tree.specs.Size as trees
use Rattle.def_text.specs.Char.{number_of}
use Rattle.def_text.specs.Condition.{Condition, compared, denied, both, either, test}
use Rattle.def_text.specs.Grammar.{Syntax, number, variable, negated, joined, raised, applied, Arguments, only, beside, is_literal, exponent, with_both, tree, trees_before, operation_of, is_absolute, application_of, two_arguments}
use Rattle.def_text.proofs.Parts.{map_some, then_some, both_some}
use Rattle.adj_parse_expression.specs.Judged.{depth, deepest, test_depth}

one_depth : (x : List ℕ) (a : Term) (b : Bool) → term_depth (if b then abs a else elem (plain x) (more a none)) ≡ term_depth a + 1
one_depth x a true = refl
one_depth x a false = omega arith

two_depth : (x : List ℕ) (a b : Term) (o : Option Op) → term_depth (two_arguments x o a b) ≡ max (term_depth a) (term_depth b) + 1
two_depth x a b (Some op) = refl
two_depth x a b None = omega arith

application_depth : (x : List ℕ) (es : Terms) → term_depth (application_of x es) ≡ terms_depth es + 1
application_depth x none = refl
application_depth x (more a none) = one_depth x a (is_absolute x) ∙ omega arith
application_depth x (more a (more b none)) = two_depth x a b (operation_of x) ∙ omega arith
application_depth x (more a (more b (more c es))) = refl

mutual
  pub tree_depth : (s : Syntax) (t : Term) → tree s ≡ Some t → depth s ≡ term_depth t
  tree_depth (number ds) t e = let q : lit (pos (number_of ds)) ≡ t = cc in ap term_depth q
  tree_depth (variable x) t e = let q : var (plain x) ≡ t = cc in ap term_depth q
  tree_depth (negated s) t e = let r = map_some neg (tree s) t e in let h = tree_depth s r.0 r.1 in let q : suc (depth s) ≡ term_depth (neg r.0) = omega arith in q ∙ ap term_depth r.2
  tree_depth (joined op a b) t e =
      let r = both_some (bin op) (tree a) (tree b) t e in
      let h = tree_depth a r.0 r.2 in
      let g = tree_depth b r.1 r.3 in
      let q : suc (max (depth a) (depth b)) ≡ term_depth (bin op r.0 r.1) = omega arith in
      q ∙ ap term_depth r.4
  tree_depth (raised a b) t e =
      elim (is_literal b) as (λ l. (if l then with_both (λ t k. Some (pow t k)) (tree a) (exponent b) else with_both (λ t u. Some (power_of t u)) (tree a) (tree b)) ≡ Some t → (if l then suc (depth a) else suc (max (depth a) (depth b))) ≡ term_depth t) [
        | true ↦ λ g. let r = both_some pow (tree a) (exponent b) t g in let h = tree_depth a r.0 r.2 in let q : suc (depth a) ≡ term_depth (pow r.0 r.1) = omega arith in q ∙ ap term_depth r.4
        | false ↦ λ g.
            let r = both_some power_of (tree a) (tree b) t g in
            let h = tree_depth a r.0 r.2 in
            let k = tree_depth b r.1 r.3 in
            let q : suc (max (depth a) (depth b)) ≡ term_depth (power_of r.0 r.1) = omega arith in
            q ∙ ap term_depth r.4
      ] e
  tree_depth (applied x all) t e =
      let r = map_some (application_of x) (trees_before all none) t e in
      let h = trees_depth all none r.0 r.1 in
      let q : suc (deepest all) ≡ terms_depth r.0 + 1 = omega arith in
      q ∙ sym (application_depth x r.0) ∙ ap term_depth r.2

  pub trees_depth : (all : Arguments) (rest ts : Terms) → trees_before all rest ≡ Some ts → max (deepest all) (terms_depth rest) ≡ terms_depth ts
  trees_depth (only s) rest ts e = let r = map_some (λ t. more t rest) (tree s) ts e in ap (λ k. max k (terms_depth rest)) (tree_depth s r.0 r.1) ∙ ap terms_depth r.2
  trees_depth (beside front s) rest ts e =
      let r = then_some (λ t. trees_before front (more t rest)) (tree s) ts e in
      let h = tree_depth s r.0 r.1 in
      let q : max (max (deepest front) (depth s)) (terms_depth rest) ≡ max (deepest front) (terms_depth (more r.0 rest)) = omega arith in
      q ∙ trees_depth front (more r.0 rest) ts r.2

pub test_deep : (c : Condition) (t : Test) → test c ≡ Some t → test_depth c ≡ trees.test_depth t
test_deep (compared o a b) t e =
    let r = both_some (compare o) (tree a) (tree b) t e in
    let h = tree_depth a r.0 r.2 in
    let g = tree_depth b r.1 r.3 in
    let q : suc (max (depth a) (depth b)) ≡ trees.test_depth (compare o r.0 r.1) = omega arith in
    q ∙ ap trees.test_depth r.4
test_deep (denied c) t e = let r = map_some negation (test c) t e in let h = test_deep c r.0 r.1 in let q : suc (test_depth c) ≡ trees.test_depth (negation r.0) = omega arith in q ∙ ap trees.test_depth r.2
test_deep (both c d) t e =
    let r = both_some conjunction (test c) (test d) t e in
    let h = test_deep c r.0 r.2 in
    let g = test_deep d r.1 r.3 in
    let q : suc (max (test_depth c) (test_depth d)) ≡ trees.test_depth (conjunction r.0 r.1) = omega arith in
    q ∙ ap trees.test_depth r.4
test_deep (either c d) t e =
    let r = both_some disjunction (test c) (test d) t e in
    let h = test_deep c r.0 r.2 in
    let g = test_deep d r.1 r.3 in
    let q : suc (max (test_depth c) (test_depth d)) ≡ trees.test_depth (disjunction r.0 r.1) = omega arith in
    q ∙ ap trees.test_depth r.4
