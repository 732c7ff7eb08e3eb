-- The names among lexemes are those of the expressions and conditions that they derive.
use Rattle.std.proofs.Common.{◌≡◌, ◌≤◌, ℕ, pos, Bool, true, false, List, [], ◌∷◌, Option, Some, None, refl, sym, ap, ap₂, ◌∙◌}
use Rattle.std.specs.Prelude.{◌&&◌, if◌then◌else◌}
use Rattle.adj_tree.specs.Code.{Op, Term, Terms, lit, var, elem, neg, bin, pow, power_of, abs, none, more, plain, Test, compare, negation, conjunction, disjunction}
use Rattle.def_text.specs.Char.{number_of}
use Rattle.def_text.specs.Condition.{Condition, compared, denied, both, either, DerivesCondition, Relates, test, ReadsTest}
use Rattle.def_text.specs.Condition as conditions
use Rattle.def_text.specs.Grammar.{Syntax, number, variable, negated, joined, raised, applied, Arguments, only, beside, Symbol, adds, subtracts, Derives, DerivesAll, literal, name, group, application, primary, power, factor, product, term, sign, sum, single, another, joins_literals, is_literal, exponent, with_both, tree, trees_before, operation_of, is_absolute, application_of, two_arguments, ReadsTerm, ReadsTerms}
use Rattle.def_text.specs.Lexeme.{Lexeme, Named, Digits, Mark}
use Rattle.def_text.proofs.Parts.{map_some, then_some, both_some}
use Rattle.std.proofs.lemmas.Bool.{and_parts}
use Rattle.law_limits.specs.Kept.{is_short, term_short, terms_short, test_short}
use Rattle.law_limits.proofs.Truths.{and_true, and_group}
use Rattle.law_limits.proofs.Reserved.{absolute_short, operation_short}

-- whether the names among lexemes, and those of what they derive, have at most n characters
abbrev pub lexemes_short : ℕ → List Lexeme → Bool
lexemes_short n [] = true
lexemes_short n (Named x ∷ ws) = is_short n x && lexemes_short n ws
lexemes_short n (Digits ds ∷ ws) = lexemes_short n ws
lexemes_short n (Mark k ∷ ws) = lexemes_short n ws

abbrev mutual
  pub syntax_short : ℕ → Syntax → Bool
  syntax_short n (number ds) = true
  syntax_short n (variable x) = is_short n x
  syntax_short n (negated s) = syntax_short n s
  syntax_short n (joined op a b) = syntax_short n a && syntax_short n b
  syntax_short n (raised a b) = syntax_short n a && syntax_short n b
  syntax_short n (applied x all) = is_short n x && arguments_short n all

  pub arguments_short : ℕ → Arguments → Bool
  arguments_short n (only s) = syntax_short n s
  arguments_short n (beside front s) = arguments_short n front && syntax_short n s

abbrev pub condition_short : ℕ → Condition → Bool
condition_short n (compared r a b) = syntax_short n a && syntax_short n b
condition_short n (denied c) = condition_short n c
condition_short n (both c d) = condition_short n c && condition_short n d
condition_short n (either c d) = condition_short n c && condition_short n d

module _ (n : ℕ) where
  -- one part behind the other
  two : (ts us rest a b : Bool) → ts ≡ (a && us) → us ≡ (b && rest) → ts ≡ ((a && b) && rest)
  two ts us rest a b h g = h ∙ ap (λ t. a && t) g ∙ and_group a b rest

  mutual
    pub derived_short : {symbol : Symbol} {ts rest : List Lexeme} {s : Syntax} → Derives symbol ts rest s → lexemes_short n ts ≡ (syntax_short n s && lexemes_short n rest)
    derived_short literal = refl
    derived_short name = refl
    derived_short (group d) = derived_short d
    derived_short {rest = rest} (application {x = x} {all = all} ds e) = ap (λ t. is_short n x && t) (all_short ds) ∙ and_group (is_short n x) (arguments_short n all) (lexemes_short n rest)
    derived_short (primary d) = derived_short d
    derived_short {rest = rest} (power {a = a} {b = b} d e) = two _ _ (lexemes_short n rest) (syntax_short n a) (syntax_short n b) (derived_short d) (derived_short e)
    derived_short (factor d) = derived_short d
    derived_short {rest = rest} (product {a = a} {b = b} m d e) = two _ _ (lexemes_short n rest) (syntax_short n a) (syntax_short n b) (derived_short d) (derived_short e)
    derived_short (term d) = derived_short d
    derived_short (sign adds d) = derived_short d
    derived_short (sign subtracts d) = derived_short d
    derived_short {rest = rest} (sum {a = a} {b = b} m d e) = two _ _ (lexemes_short n rest) (syntax_short n a) (syntax_short n b) (derived_short d) (derived_short e)

    pub all_short : {ts rest : List Lexeme} {all : Arguments} → DerivesAll ts rest all → lexemes_short n ts ≡ (arguments_short n all && lexemes_short n rest)
    all_short (single d) = derived_short d
    all_short {rest = rest} (another {front = front} {s = s} ds d) = two _ _ (lexemes_short n rest) (arguments_short n front) (syntax_short n s) (all_short ds) (derived_short d)

  pub condition_derived : {part : conditions.Part} {ts rest : List Lexeme} {c : Condition} → DerivesCondition part ts rest c → lexemes_short n ts ≡ (condition_short n c && lexemes_short n rest)
  condition_derived {rest = rest} (conditions.comparison {a = a} {b = b} r d e) = two _ _ (lexemes_short n rest) (syntax_short n a) (syntax_short n b) (derived_short d) (derived_short e)
  condition_derived (conditions.DerivesCondition.group d) = condition_derived d
  condition_derived (conditions.DerivesCondition.plain d) = condition_derived d
  condition_derived (conditions.DerivesCondition.not d) = condition_derived d
  condition_derived (conditions.DerivesCondition.item d) = condition_derived d
  condition_derived {rest = rest} (conditions.DerivesCondition.and {c = c} {d = d} p q) = two _ _ (lexemes_short n rest) (condition_short n c) (condition_short n d) (condition_derived p) (condition_derived q)
  condition_derived (conditions.DerivesCondition.whole d) = condition_derived d
  condition_derived {rest = rest} (conditions.DerivesCondition.or {c = c} {d = d} p q) = two _ _ (lexemes_short n rest) (condition_short n c) (condition_short n d) (condition_derived p) (condition_derived q)

  -- a literal exponent has no names
  literal_short : (s : Syntax) → is_literal s ≡ true → syntax_short n s ≡ true
  literal_short (number ds) h = refl
  literal_short (variable x) h = absurd cc
  literal_short (negated s) h = literal_short s h
  literal_short (joined op a b) h = let p = and_parts (joins_literals op) (is_literal a && is_literal b) h in let q = and_parts (is_literal a) (is_literal b) p.1 in rw (literal_short a q.0, literal_short b q.1) refl
  literal_short (raised a b) h = let q = and_parts (is_literal a) (is_literal b) h in rw (literal_short a q.0, literal_short b q.1) refl
  literal_short (applied x all) h = absurd cc

  module _ (wide : 17 ≤ n) where
    one_short : (x : List ℕ) (a : Term) (b : Bool) → is_absolute x ≡ b → term_short n (if b then abs a else elem (plain x) (more a none)) ≡ (is_short n x && terms_short n (more a none))
    one_short x a true h = sym (ap (λ t. t && (term_short n a && true)) (absolute_short n wide x h) ∙ and_true (term_short n a))
    one_short x a false h = refl

    two_short : (x : List ℕ) (a b : Term) (o : Option Op) → operation_of x ≡ o → term_short n (two_arguments x o a b) ≡ (is_short n x && terms_short n (more a (more b none)))
    two_short x a b (Some op) h = sym (ap (λ t. t && (term_short n a && (term_short n b && true))) (operation_short n wide x op h) ∙ ap (λ t. term_short n a && t) (and_true (term_short n b)))
    two_short x a b None h = refl

    application_short : (x : List ℕ) (es : Terms) → term_short n (application_of x es) ≡ (is_short n x && terms_short n es)
    application_short x none = refl
    application_short x (more a none) = one_short x a (is_absolute x) refl
    application_short x (more a (more b none)) = two_short x a b (operation_of x) refl
    application_short x (more a (more b (more c es))) = refl

    mutual
      pub tree_short : (s : Syntax) (t : Term) → tree s ≡ Some t → syntax_short n s ≡ term_short n t
      tree_short (number ds) t e = let q : lit (pos (number_of ds)) ≡ t = cc in ap (term_short n) q
      tree_short (variable x) t e = let q : var (plain x) ≡ t = cc in ap (term_short n) q
      tree_short (negated s) t e = let r = map_some neg (tree s) t e in tree_short s r.0 r.1 ∙ ap (term_short n) r.2
      tree_short (joined op a b) t e = let r = both_some (bin op) (tree a) (tree b) t e in ap₂ (λ p q. p && q) (tree_short a r.0 r.2) (tree_short b r.1 r.3) ∙ ap (term_short n) r.4
      tree_short (raised a b) t e =
          elim (is_literal b) as (λ l. is_literal b ≡ l → (if l then with_both (λ t k. Some (pow t k)) (tree a) (exponent b) else with_both (λ t u. Some (power_of t u)) (tree a) (tree b)) ≡ Some t → (syntax_short n a && syntax_short n b) ≡ term_short n t) [
            | true ↦ λ l g. let r = both_some pow (tree a) (exponent b) t g in ap₂ (λ p q. p && q) (tree_short a r.0 r.2) (literal_short b l) ∙ and_true (term_short n r.0) ∙ ap (term_short n) r.4
            | false ↦ λ l g. let r = both_some power_of (tree a) (tree b) t g in ap₂ (λ p q. p && q) (tree_short a r.0 r.2) (tree_short b r.1 r.3) ∙ ap (term_short n) r.4
          ] refl e
      tree_short (applied x all) t e =
          let r = map_some (application_of x) (trees_before all none) t e in
          ap (λ q. is_short n x && q) (sym (and_true (arguments_short n all)) ∙ trees_short all none r.0 r.1) ∙ sym (application_short x r.0) ∙ ap (term_short n) r.2

      pub trees_short : (all : Arguments) (rest ts : Terms) → trees_before all rest ≡ Some ts → (arguments_short n all && terms_short n rest) ≡ terms_short n ts
      trees_short (only s) rest ts e = let r = map_some (λ t. more t rest) (tree s) ts e in ap (λ p. p && terms_short n rest) (tree_short s r.0 r.1) ∙ ap (terms_short n) r.2
      trees_short (beside front s) rest ts e =
          let r = then_some (λ t. trees_before front (more t rest)) (tree s) ts e in
          sym (and_group (arguments_short n front) (syntax_short n s) (terms_short n rest)) ∙ ap (λ p. arguments_short n front && (p && terms_short n rest)) (tree_short s r.0 r.1) ∙ trees_short front (more r.0 rest) ts r.2

    pub test_is_short : (c : Condition) (t : Test) → test c ≡ Some t → condition_short n c ≡ test_short n t
    test_is_short (compared o a b) t e = let r = both_some (compare o) (tree a) (tree b) t e in ap₂ (λ p q. p && q) (tree_short a r.0 r.2) (tree_short b r.1 r.3) ∙ ap (test_short n) r.4
    test_is_short (denied c) t e = let r = map_some negation (test c) t e in test_is_short c r.0 r.1 ∙ ap (test_short n) r.2
    test_is_short (both c d) t e = let r = both_some conjunction (test c) (test d) t e in ap₂ (λ p q. p && q) (test_is_short c r.0 r.2) (test_is_short d r.1 r.3) ∙ ap (test_short n) r.4
    test_is_short (either c d) t e = let r = both_some disjunction (test c) (test d) t e in ap₂ (λ p q. p && q) (test_is_short c r.0 r.2) (test_is_short d r.1 r.3) ∙ ap (test_short n) r.4

    -- what lexemes read as, and the lexemes behind it
    pub term_read : {ts rest : List Lexeme} {t : Term} → ReadsTerm ts rest t → lexemes_short n ts ≡ (term_short n t && lexemes_short n rest)
    term_read {rest = rest} {t = t} d = derived_short d.1 ∙ ap (λ p. p && lexemes_short n rest) (tree_short d.0 t d.2)

    pub terms_read : {ts rest : List Lexeme} {k : ℕ} {es : Terms} → ReadsTerms ts rest k es → lexemes_short n ts ≡ (terms_short n es && lexemes_short n rest)
    terms_read {rest = rest} {es = es} d = all_short d.1 ∙ ap (λ p. p && lexemes_short n rest) (sym (and_true (arguments_short n d.0)) ∙ trees_short d.0 none es d.3)

    pub test_read : {ts rest : List Lexeme} {t : Test} → ReadsTest ts rest t → lexemes_short n ts ≡ (test_short n t && lexemes_short n rest)
    test_read {rest = rest} {t = t} d = condition_derived d.1 ∙ ap (λ p. p && lexemes_short n rest) (test_is_short d.0 t d.2)
