-- Exact: what stands for an expression while it is read is what it is judged to be.
use Rattle.std.proofs.Common.{◌≡◌, ℕ, suc, ◌+◌, ◌<◌, ◌≤◌, min, max, Bool, true, false, ◌&&◌, List, [], ◌∷◌, Option, Some, None, Result, refl, ap, ap₂, ◌∙◌, arith, inl, inr}
use Rattle.std.specs.Prelude.{◌^◌, ◌||◌, if◌then◌else◌, ℤ, pos, neg_ℤ, nat_lt, nat_le, option_map, option_and_then}
use Rattle.std.proofs.lemmas.Bool.{cases_lt, lt-ltb, le-ltb, le-leb, lt-leb}
use Rattle.std.proofs.lemmas.Bool.Decides.{nat_tests}
use Rattle.adj_tree.specs.Code.{Op, Term, lit, var, neg, bin, pow, power_of, plain, none, more}
use Rattle.def_text.specs.Char.{number_of}
use Rattle.def_text.specs.Grammar.{Syntax, applied, Arguments, only, beside, count_of, takes, takes_as, application_of, operation_of, is_absolute, two_arguments, in_words, with_both, constant_of, constant_power, as_exponent, joins_literals, is_literal, constant, tree, Symbol, Derives, literal, name, group, application, primary, power, factor, product, term, sign, sum, adds, subtracts, DerivesAll, single, another}
use Rattle.def_text.specs.Machine.{value}
use Rattle.def_text.specs.Lexeme.{Lexeme}
use Rattle.adj_parse_expression.specs.declared.flaw.Flaw.{Flaw}
use Rattle.adj_parse_expression.specs.declared.constant.Constant.{Constant}
use Rattle.adj_parse_expression.specs.declared.constant.Constant.TheVariants as constants
use Rattle.adj_parse_expression.specs.Constants.{valued, constancy, of_constant, of_constants, negated_constant, joined_constant, powered_constant}
use Rattle.adj_parse_expression.specs.Flaws.{of_one, of_two, kept, as_power}
use Rattle.adj_parse_expression.specs.Judged.{has_large, depth, judged_by, judged}
use Rattle.adj_parse_expression.specs.Partial as partial
use Rattle.adj_parse_expression.specs.Partial.{Partial, bounded, one_argument, algebra}

-- what it should be
abbrev pub exactly : ℕ → Syntax → Partial
exactly limit s = record { found = judged limit s; depth = min (depth s) (limit + 1); constant = constancy (is_literal s) (constant s) }

pub of_one-judged : {A B : Type 0} (f : A → B) (large deep : Bool) (o : Option A) → of_one f (judged_by large deep o) ≡ judged_by large deep (option_map f o)
of_one-judged f true deep o = refl
of_one-judged f false true o = refl
of_one-judged f false false None = refl
of_one-judged f false false (Some a) = refl

pub of_two-judged : {A B C : Type 0} (f : A → B → C) (l d m e : Bool) (o : Option A) (p : Option B) → of_two f (judged_by l d o) (judged_by m e p) ≡ judged_by (l || m) (d || e) (with_both (λ a b. Some (f a b)) o p)
of_two-judged f true d true e o p = refl
of_two-judged f true d false true o p = refl
of_two-judged f true d false false o (Some b) = refl
of_two-judged f true d false false o None = refl
of_two-judged f false true true e o p = refl
of_two-judged f false true false true o p = refl
of_two-judged f false true false false o (Some b) = refl
of_two-judged f false true false false o None = refl
of_two-judged f false false true e (Some a) p = refl
of_two-judged f false false true e None p = refl
of_two-judged f false false false true (Some a) p = refl
of_two-judged f false false false true None p = refl
of_two-judged f false false false false (Some a) (Some b) = refl
of_two-judged f false false false false (Some a) None = refl
of_two-judged f false false false false None (Some b) = refl
of_two-judged f false false false false None None = refl

pub kept-judged : {A : Type 0} (b l d : Bool) (o : Option A) → kept b (judged_by l d o) ≡ judged_by l (b || d) o
kept-judged false l d o = refl
kept-judged true true d o = refl
kept-judged true false true o = refl
kept-judged true false false (Some a) = refl
kept-judged true false false None = refl

as_power-judged : {A B : Type 0} (l d : Bool) (o : Option A) (k : Option B) → as_power (judged_by l d o) k ≡ judged_by l false k
as_power-judged true d o k = refl
as_power-judged false true o (Some k) = refl
as_power-judged false true o None = refl
as_power-judged false false (Some a) (Some k) = refl
as_power-judged false false (Some a) None = refl
as_power-judged false false None (Some k) = refl
as_power-judged false false None None = refl

-- the depth up to 1 more than the limit tells as much
pub deeper_one : (limit d : ℕ) → (nat_lt limit (min d (limit + 1) + 1) || nat_lt limit d) ≡ nat_lt limit (suc d)
deeper_one limit d = grind (arith, nat_tests)

pub deeper_two : (limit d e : ℕ) → (nat_lt limit (max (min d (limit + 1)) (min e (limit + 1)) + 1) || (nat_lt limit d || nat_lt limit e)) ≡ nat_lt limit (suc (max d e))
deeper_two limit d e = grind (arith, nat_tests)

or-false : (b : Bool) → b || false ≡ b
or-false true = refl
or-false false = refl

same : {f g : Result Term Flaw} {d e : ℕ} {c : Constant} → f ≡ g → d ≡ e → (let x : Partial = record { found = f; depth = d; constant = c } in x) ≡ record { found = g; depth = e; constant = c }
same {c = c} p q = ap₂ (λ (r : Result Term Flaw) (n : ℕ). let x : Partial = record { found = r; depth = n; constant = c } in x) p q

constantly : {f : Result Term Flaw} {d : ℕ} {c e : Constant} → c ≡ e → (let x : Partial = record { found = f; depth = d; constant = c } in x) ≡ record { found = f; depth = d; constant = e }
constantly {f = f} {d = d} p = ap (λ c. let x : Partial = record { found = f; depth = d; constant = c } in x) p

-- what is made of constants is literal where they are, and has the value that is made of theirs
one-constant : (f : ℤ → Option ℤ) (l : Bool) (c : Option ℤ) → of_constant f (constancy l c) ≡ constancy l (option_and_then f c)
one-constant f false c = refl
one-constant f true None = refl
one-constant f true (Some z) = refl

two-constants : (f : ℤ → ℤ → Option ℤ) (l m : Bool) (c d : Option ℤ) → of_constants f (constancy l c) (constancy m d) ≡ constancy (l && m) (with_both f c d)
two-constants f false m c d = refl
two-constants f true false None d = refl
two-constants f true false (Some a) d = refl
two-constants f true true None None = refl
two-constants f true true None (Some b) = refl
two-constants f true true (Some a) None = refl
two-constants f true true (Some a) (Some b) = refl

joined-constant : (op : Op) (l m : Bool) (c d : Option ℤ) → joined_constant op (constancy l c) (constancy m d) ≡ constancy (joins_literals op && (l && m)) (with_both (constant_of op) c d)
joined-constant op l m c d =
    elim (joins_literals op) as (λ j. (if j then of_constants (constant_of op) (constancy l c) (constancy m d) else constants.Other) ≡ constancy (j && (l && m)) (with_both (constant_of op) c d)) [
      | true ↦ two-constants (constant_of op) l m c d
      | false ↦ refl
    ]

module _ (limit : ℕ) where
  -- a part that is no expression of others
  leaf_exact : (large : Bool) (t : Term) (c : Constant) (found : Result Term Flaw) → found ≡ judged_by large false (Some t) → bounded limit found 1 c ≡ record { found = judged_by large (nat_lt limit 1) (Some t); depth = min 1 (limit + 1); constant = c }
  leaf_exact large t c found is = same (ap (kept (nat_lt limit 1)) is ∙ kept-judged (nat_lt limit 1) large false (Some t) ∙ ap (λ b. judged_by large b (Some t)) (or-false (nat_lt limit 1))) refl

  one_exact : (l : Bool) (d : ℕ) (o : Option Term) (f : Term → Term) (c : Constant) → bounded limit (of_one f (judged_by l (nat_lt limit d) o)) (min d (limit + 1) + 1) c ≡ record { found = judged_by l (nat_lt limit (suc d)) (option_map f o); depth = min (suc d) (limit + 1); constant = c }
  one_exact l d o f c =
      let b = nat_lt limit (min d (limit + 1) + 1) in
      same (ap (kept b) (of_one-judged f l (nat_lt limit d) o) ∙ kept-judged b l (nat_lt limit d) (option_map f o) ∙ ap (λ e. judged_by l e (option_map f o)) (deeper_one limit d)) (omega arith)

  two_exact : (l m : Bool) (d e : ℕ) (o p : Option Term) (f : Term → Term → Term) (c : Constant) → bounded limit (of_two f (judged_by l (nat_lt limit d) o) (judged_by m (nat_lt limit e) p)) (max (min d (limit + 1)) (min e (limit + 1)) + 1) c ≡ record { found = judged_by (l || m) (nat_lt limit (suc (max d e))) (with_both (λ t u. Some (f t u)) o p); depth = min (suc (max d e)) (limit + 1); constant = c }
  two_exact l m d e o p f c =
      let b = nat_lt limit (max (min d (limit + 1)) (min e (limit + 1)) + 1) in
      let deep = nat_lt limit d || nat_lt limit e in
      let whole = with_both (λ t u. Some (f t u)) o p in
      same (ap (kept b) (of_two-judged f l (nat_lt limit d) m (nat_lt limit e) o p) ∙ kept-judged b (l || m) deep whole ∙ ap (λ g. judged_by (l || m) g whole) (deeper_two limit d e)) (omega arith)

  power_exact : (l m : Bool) (d e : ℕ) (o p : Option Term) (k : Option ℕ) (c : Constant) → bounded limit (of_two pow (judged_by l (nat_lt limit d) o) (as_power (judged_by m (nat_lt limit e) p) k)) (min d (limit + 1) + 1) c ≡ record { found = judged_by (l || m) (nat_lt limit (suc d)) (with_both (λ t n. Some (pow t n)) o k); depth = min (suc d) (limit + 1); constant = c }
  power_exact l m d e o p k c =
      let b = nat_lt limit (min d (limit + 1) + 1) in
      let base = judged_by l (nat_lt limit d) o in
      let whole = with_both (λ t n. Some (pow t n)) o k in
      let found = ap (of_two pow base) (as_power-judged m (nat_lt limit e) p k) ∙ of_two-judged pow l (nat_lt limit d) m false o k ∙ ap (λ g. judged_by (l || m) g whole) (or-false (nat_lt limit d)) in
      same (ap (kept b) found ∙ kept-judged b (l || m) (nat_lt limit d) whole ∙ ap (λ g. judged_by (l || m) g whole) (deeper_one limit d)) (omega arith)

  -- a power is literal where both of its parts are
  raised_constant : (l : Bool) (c : Option ℤ) (z : Option ℤ) → powered_constant (constancy l c) (valued z) ≡ constancy (l && true) (with_both constant_power c z)
  raised_constant l c z = two-constants constant_power l true c z

  other_base : (base : Bool) (v : Option ℤ) → constants.Other ≡ constancy (base && false) v
  other_base true v = refl
  other_base false v = refl

  raised_exact : (literally base l m : Bool) (d e : ℕ) (o p : Option Term) (c z : Option ℤ) →
      partial.powered limit (record { found = judged_by l (nat_lt limit d) o; depth = min d (limit + 1); constant = constancy base c }) (record { found = judged_by m (nat_lt limit e) p; depth = min e (limit + 1); constant = constancy literally z })
      ≡ record { found = judged_by (l || m) (nat_lt limit (if literally then suc d else suc (max d e))) (if literally then with_both (λ t k. Some (pow t k)) o (option_and_then as_exponent z) else with_both (λ t u. Some (power_of t u)) o p); depth = min (if literally then suc d else suc (max d e)) (limit + 1); constant = constancy (base && literally) (with_both constant_power c z) }
  raised_exact true base l m d e o p c None = power_exact l m d e o p None (powered_constant (constancy base c) constants.Beyond) ∙ constantly (raised_constant base c None)
  raised_exact true base l m d e o p c (Some z) = power_exact l m d e o p (as_exponent z) (powered_constant (constancy base c) (constants.Word z)) ∙ constantly (raised_constant base c (Some z))
  raised_exact false base l m d e o p c z = two_exact l m d e o p power_of constants.Other ∙ constantly (other_base base (with_both constant_power c z))

  literal_exact : (n : ℕ) → partial.literal limit (in_words (pos n)) ≡ record { found = judged_by (nat_le (2 ^ 63) n) (nat_lt limit 1) (Some (lit (pos n))); depth = min 1 (limit + 1); constant = valued (in_words (pos n)) }
  literal_exact n =
      elim (cases_lt n (2 ^ 63)) [
        | inl lt ↦ rw (lt-ltb n (2 ^ 63) lt, lt-leb (2 ^ 63) n lt) (leaf_exact false (lit (pos n)) (constants.Word (pos n)) _ refl)
        | inr le ↦ rw (le-ltb n (2 ^ 63) le, le-leb (2 ^ 63) n le) (leaf_exact true (lit (pos n)) constants.Beyond _ refl)
      ]

  tree_one : (x : List ℕ) (o : Option Term) → option_map (one_argument x) o ≡ option_map (application_of x) (option_map (λ t. more t none) o)
  tree_one x None = refl
  tree_one x (Some t) = refl

  tree_two : (x : List ℕ) (o p : Option Term) → with_both (λ t u. Some (two_arguments x (operation_of x) t u)) o p ≡ option_map (application_of x) (option_and_then (λ u. option_map (λ t. more t (more u none)) o) p)
  tree_two x None None = refl
  tree_two x None (Some u) = refl
  tree_two x (Some t) None = refl
  tree_two x (Some t) (Some u) = refl

  -- no name takes three arguments
  few : (o : Option Op) (b : Bool) (n : ℕ) → takes_as o b n ≡ true → n ≤ 2
  few (Some op) b n h = grind (arith, nat_tests)
  few None true n h = grind (arith, nat_tests)
  few None false n h = grind (arith, nat_tests)

  some_argument : (all : Arguments) → 0 < count_of all
  some_argument (only s) = omega arith
  some_argument (beside front s) = omega arith

  mutual
    -- what is derived is read exactly
    pub exact : {symbol : Symbol} {ts rest : List Lexeme} {s : Syntax} → Derives symbol ts rest s → value (algebra limit) s ≡ exactly limit s
    exact (literal {digits = ds}) = literal_exact (number_of ds)
    exact (name {x = x}) = leaf_exact false (var (plain x)) constants.Other _ refl
    exact (group r) = exact r
    exact (application {x = x} r fits) = applied_exact x r fits
    exact (primary r) = exact r
    exact (power {a = a} {b = b} r q) = ap₂ (partial.powered limit) (exact r) (exact q) ∙ raised_exact (is_literal b) (is_literal a) (has_large a) (has_large b) (depth a) (depth b) (tree a) (tree b) (constant a) (constant b)
    exact (factor r) = exact r
    exact (product {a = a} {b = b} {op = op} k r q) = ap₂ (partial.combined limit op) (exact r) (exact q) ∙ two_exact (has_large a) (has_large b) (depth a) (depth b) (tree a) (tree b) (bin op) (joined_constant op (constancy (is_literal a) (constant a)) (constancy (is_literal b) (constant b))) ∙ constantly (joined-constant op (is_literal a) (is_literal b) (constant a) (constant b))
    exact (term r) = exact r
    exact (sign adds r) = exact r
    exact (sign {s = s} subtracts r) = ap (partial.opposite limit) (exact r) ∙ one_exact (has_large s) (depth s) (tree s) neg (negated_constant (constancy (is_literal s) (constant s))) ∙ constantly (one-constant (λ z. in_words (neg_ℤ z)) (is_literal s) (constant s))
    exact (sum {a = a} {b = b} {op = op} k r q) = ap₂ (partial.combined limit op) (exact r) (exact q) ∙ two_exact (has_large a) (has_large b) (depth a) (depth b) (tree a) (tree b) (bin op) (joined_constant op (constancy (is_literal a) (constant a)) (constancy (is_literal b) (constant b))) ∙ constantly (joined-constant op (is_literal a) (is_literal b) (constant a) (constant b))

    applied_exact : (x : List ℕ) {ts rest : List Lexeme} {all : Arguments} → DerivesAll ts rest all → takes x (count_of all) ≡ true → value (algebra limit) (applied x all) ≡ exactly limit (applied x all)
    applied_exact x (single {s = s} r) fits =
        ap (λ a. partial.application limit x (a ∷ [])) (exact r) ∙ one_exact (has_large s) (depth s) (tree s) (one_argument x) constants.Other ∙ same (ap (judged_by (has_large s) (nat_lt limit (suc (depth s)))) (tree_one x (tree s))) refl
    applied_exact x (another {s = s} (single {s = a} r) q) fits =
        ap₂ (λ a b. partial.application limit x (a ∷ b ∷ [])) (exact r) (exact q) ∙ two_exact (has_large a) (has_large s) (depth a) (depth s) (tree a) (tree s) (two_arguments x (operation_of x)) constants.Other ∙ same (ap (judged_by (has_large a || has_large s) (nat_lt limit (suc (max (depth a) (depth s))))) (tree_two x (tree a) (tree s))) refl
    applied_exact x (another (another {front = front} p r) q) fits = absurd (omega (arith, few (operation_of x) (is_absolute x) _ fits, some_argument front))
