-- Expressions whose trees have no literal above the greatest word have none themselves.
use Rattle.std.proofs.Common.{◌≡◌, ℕ, ◌^◌, ℤ, pos, negsuc, neg_ℤ, Bool, true, false, List, Option, Some, None, refl, sym, ap, ◌∙◌, inl, inr}
use Rattle.std.specs.Prelude.{◌&&◌, nat_le, not, if◌then◌else◌}
use Rattle.std.proofs.lemmas.Bool.{cases_lt, le-ltb, lt-leb, and_parts, or_from}
use Rattle.adj_tree.specs.Code.{Op, Term, Terms, lit, var, elem, neg, bin, pow, power_of, abs, none, more, plain, Test, compare, negation, conjunction, disjunction, Act, assign, choose, loop, during, call, runtime, Extent, fixed, given}
use Rattle.std.specs.List.{list_all}
use Rattle.def_text.specs.Char.{number_of}
use Rattle.def_text.specs.Condition.{Condition, compared, denied, both, either, test}
use Rattle.def_text.specs.Grammar.{Syntax, number, variable, negated, joined, raised, applied, Arguments, only, beside, is_literal, in_words, constant, constant_of, constant_power, exponent, as_exponent, with_both, tree, trees_before, operation_of, is_absolute, application_of, two_arguments}
use Rattle.def_text.proofs.Parts.{map_some, then_some, both_some}
use Rattle.adj_parse_expression.specs.Judged.{has_large, any_large, test_large}
use Rattle.law_limits.specs.Kept.{actuals_of}
use Rattle.law_limits.specs.Rule.{Rule}
use Rattle.law_limits.proofs.Truths.{and_true, not_not}

-- whether each literal is a word
abbrev pub fits_literal : ℤ → Bool
fits_literal (pos k) = not (nat_le (2 ^ 63) k)
fits_literal (negsuc k) = false

abbrev mutual
  pub fits_term : Term → Bool
  fits_term (lit z) = fits_literal z
  fits_term (var x) = true
  fits_term (elem x s) = fits_terms s
  fits_term (neg a) = fits_term a
  fits_term (bin op a b) = fits_term a && fits_term b
  fits_term (pow a k) = fits_term a
  fits_term (power_of a b) = fits_term a && fits_term b
  fits_term (abs a) = fits_term a

  pub fits_terms : Terms → Bool
  fits_terms none = true
  fits_terms (more e rest) = fits_term e && fits_terms rest

abbrev pub fits_test : Test → Bool
fits_test (compare r a b) = fits_term a && fits_term b
fits_test (negation c) = fits_test c
fits_test (conjunction c d) = fits_test c && fits_test d
fits_test (disjunction c d) = fits_test c && fits_test d

abbrev pub fits_extent : Extent → Bool
fits_extent (fixed z) = fits_literal z
fits_extent (given x) = true

abbrev pub fits_deed : Act → Bool
fits_deed (assign x s e) = fits_terms s && fits_term e
fits_deed (choose c a b) = true
fits_deed (loop x a b c body m) = true
fits_deed (during c body) = true
fits_deed (call x es) = fits_terms es
fits_deed (runtime r) = fits_terms (actuals_of r)

abbrev pub fitting : Rule
fitting = record { heading = λ x dummies. true; declared = λ x extents. list_all fits_extent extents; deed = fits_deed; test = fits_test; range = λ r m. fits_term r.from && (fits_term r.to && fits_term r.by) }

-- ---- literal exponents

word_small : (k : ℕ) (z : ℤ) → in_words (pos k) ≡ Some z → nat_le (2 ^ 63) k ≡ false
word_small k z h =
    elim (cases_lt k (2 ^ 63)) [
      | inl lt ↦ lt-leb (2 ^ 63) k lt
      | inr le ↦ let none : in_words (pos k) ≡ None = rw (le-ltb k (2 ^ 63) le) refl in absurd cc
    ]

both_parts : {A B C : Type 0} (f : A → B → Option C) (o : Option A) (p : Option B) (r : C) → with_both f o p ≡ Some r → ((a : A) × (o ≡ Some a)) × ((b : B) × (p ≡ Some b))
both_parts f None p r e = absurd cc
both_parts f (Some a) None r e = absurd cc
both_parts f (Some a) (Some b) r e = ((a, refl), (b, refl))

constant_small : (s : Syntax) (z : ℤ) → constant s ≡ Some z → has_large s ≡ false
constant_small (number ds) z h = word_small (number_of ds) z h
constant_small (variable x) z h = absurd cc
constant_small (negated s) z h = let r = then_some (λ y. in_words (neg_ℤ y)) (constant s) z h in constant_small s r.0 r.1
constant_small (joined op a b) z h = let r = both_parts (constant_of op) (constant a) (constant b) z h in or_from (has_large a) (has_large b) (constant_small a r.0.0 r.0.1) (constant_small b r.1.0 r.1.1)
constant_small (raised a b) z h = let r = both_parts constant_power (constant a) (constant b) z h in or_from (has_large a) (has_large b) (constant_small a r.0.0 r.0.1) (constant_small b r.1.0 r.1.1)
constant_small (applied x all) z h = absurd cc

exponent_small : (s : Syntax) (k : ℕ) → exponent s ≡ Some k → has_large s ≡ false
exponent_small s k h = let r = then_some as_exponent (constant s) k h in constant_small s r.0 r.1

-- ---- trees

one_fits : (x : List ℕ) (a : Term) (b : Bool) → fits_term (if b then abs a else elem (plain x) (more a none)) ≡ fits_terms (more a none)
one_fits x a true = sym (and_true (fits_term a))
one_fits x a false = refl

two_fit : (x : List ℕ) (a b : Term) (o : Option Op) → fits_term (two_arguments x o a b) ≡ fits_terms (more a (more b none))
two_fit x a b (Some op) = ap (λ t. fits_term a && t) (sym (and_true (fits_term b)))
two_fit x a b None = refl

application_fits : (x : List ℕ) (es : Terms) → fits_term (application_of x es) ≡ fits_terms es
application_fits x none = refl
application_fits x (more a none) = one_fits x a (is_absolute x)
application_fits x (more a (more b none)) = two_fit x a b (operation_of x)
application_fits x (more a (more b (more c es))) = refl

mutual
  pub tree_small : (s : Syntax) (t : Term) → tree s ≡ Some t → fits_term t ≡ true → has_large s ≡ false
  tree_small (number ds) t e h = let q : lit (pos (number_of ds)) ≡ t = cc in not_not (nat_le (2 ^ 63) (number_of ds)) (ap fits_term q ∙ h)
  tree_small (variable x) t e h = refl
  tree_small (negated s) t e h = let r = map_some neg (tree s) t e in tree_small s r.0 r.1 (ap fits_term r.2 ∙ h)
  tree_small (joined op a b) t e h =
      let r = both_some (bin op) (tree a) (tree b) t e in
      let p = and_parts (fits_term r.0) (fits_term r.1) (ap fits_term r.4 ∙ h) in
      or_from (has_large a) (has_large b) (tree_small a r.0 r.2 p.0) (tree_small b r.1 r.3 p.1)
  tree_small (raised a b) t e h =
      elim (is_literal b) as (λ l. (if l then with_both (λ t k. Some (pow t k)) (tree a) (exponent b) else with_both (λ t u. Some (power_of t u)) (tree a) (tree b)) ≡ Some t → has_large (raised a b) ≡ false) [
        | true ↦ λ g. let r = both_some pow (tree a) (exponent b) t g in or_from (has_large a) (has_large b) (tree_small a r.0 r.2 (ap fits_term r.4 ∙ h)) (exponent_small b r.1 r.3)
        | false ↦ λ g.
            let r = both_some power_of (tree a) (tree b) t g in
            let p = and_parts (fits_term r.0) (fits_term r.1) (ap fits_term r.4 ∙ h) in
            or_from (has_large a) (has_large b) (tree_small a r.0 r.2 p.0) (tree_small b r.1 r.3 p.1)
      ] e
  tree_small (applied x all) t e h =
      let r = map_some (application_of x) (trees_before all none) t e in
      (trees_small all none r.0 r.1 (sym (application_fits x r.0) ∙ ap fits_term r.2 ∙ h)).0

  pub trees_small : (all : Arguments) (rest ts : Terms) → trees_before all rest ≡ Some ts → fits_terms ts ≡ true → (any_large all ≡ false) × (fits_terms rest ≡ true)
  trees_small (only s) rest ts e h =
      let r = map_some (λ t. more t rest) (tree s) ts e in
      let p = and_parts (fits_term r.0) (fits_terms rest) (ap fits_terms r.2 ∙ h) in
      (tree_small s r.0 r.1 p.0, p.1)
  trees_small (beside front s) rest ts e h =
      let r = then_some (λ t. trees_before front (more t rest)) (tree s) ts e in
      let q = trees_small front (more r.0 rest) ts r.2 h in
      let p = and_parts (fits_term r.0) (fits_terms rest) q.1 in
      (or_from (any_large front) (has_large s) q.0 (tree_small s r.0 r.1 p.0), p.1)

pub test_small : (c : Condition) (t : Test) → test c ≡ Some t → fits_test t ≡ true → test_large c ≡ false
test_small (compared o a b) t e h =
    let r = both_some (compare o) (tree a) (tree b) t e in
    let p = and_parts (fits_term r.0) (fits_term r.1) (ap fits_test r.4 ∙ h) in
    or_from (has_large a) (has_large b) (tree_small a r.0 r.2 p.0) (tree_small b r.1 r.3 p.1)
test_small (denied c) t e h = let r = map_some negation (test c) t e in test_small c r.0 r.1 (ap fits_test r.2 ∙ h)
test_small (both c d) t e h =
    let r = both_some conjunction (test c) (test d) t e in
    let p = and_parts (fits_test r.0) (fits_test r.1) (ap fits_test r.4 ∙ h) in
    or_from (test_large c) (test_large d) (test_small c r.0 r.2 p.0) (test_small d r.1 r.3 p.1)
test_small (either c d) t e h =
    let r = both_some disjunction (test c) (test d) t e in
    let p = and_parts (fits_test r.0) (fits_test r.1) (ap fits_test r.4 ∙ h) in
    or_from (test_large c) (test_large d) (test_small c r.0 r.2 p.0) (test_small d r.1 r.3 p.1)
