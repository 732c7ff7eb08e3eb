-- The answer to the statements of a text is its first fault, where there is one.
use Rattle.std.proofs.Common.{◌≡◌, Bool, true, false, cond, eqb, List, [], ◌∷◌, length, Option, Some, None, inl, inr, refl, sym, ap, arith}
use Rattle.std.specs.Prelude.{◌&&◌, ◌||◌, not, is_none}
use Rattle.std.specs.List.{list_any}
use Rattle.std.proofs.lemmas.Bool.{ne_eqb, eq-eqb, eqb-true, eqb-false}
use Rattle.adj_tree.specs.declared.fault.Refusal.{Refusal}
use Rattle.def_text.specs.Class.{class_of, is_matched}
use Rattle.def_text.specs.Limits.{Limits}
use Rattle.def_text.specs.Lined.{Lines}
use Rattle.def_text.specs.Refused.{refused}
use Rattle.def_text.specs.Stated.{tokens_of, is_too_long, is_marked_long, with_tokens, with_class, stated, all_stated}
use Rattle.def_text.specs.declared.stated.Kind.{Kind}
use Rattle.def_text.specs.declared.token.Token.{Token}
use Rattle.def_refused.specs.Refusals.{StatementsAnswer, StatementsRefused, StatementsAccepted}
use Rattle.def_refused.specs.First.{code_at, IsAnswer}
use Rattle.def_refused.specs.StatementFaults.{StatementFault, unknown, empty, unmatched, untold, long_name, long_mark}
use Rattle.def_refused.proofs.Tests.{chosen, forgotten, when, test_more, Present, AreRanked, when_ranked, true_when, only_where, or_left, or_right, or_either, and_both, not_is, AreTested, AreOne, IsJudged, tested, tested_one, answer_more, answer_mapped, all_single, first_refused, none_answered}

module _ (limits : Limits) (s : Lines) where
  -- the tests in order: no class; no form of lexemes; a long name
  abbrev no_tokens : Option Kind → Bool
  no_tokens None = false
  no_tokens (Some kind) = is_none (tokens_of kind s.text)

  abbrev long_token : Option (List Token) → Bool
  long_token None = false
  long_token (Some tokens) = list_any (is_too_long limits.name) tokens

  abbrev long : Option Kind → Bool
  long None = false
  long (Some kind) = long_token (tokens_of kind s.text) || is_marked_long limits.name kind s.advice.mark

  abbrev no_class : Bool
  no_class = not (eqb (length s.text) 0) && is_none (class_of s.text)

  abbrev no_lexemes : Bool
  no_lexemes = eqb (length s.text) 0 || (not (is_matched 0 s.text) || no_tokens (class_of s.text))

  abbrev tests : List (Option Refusal)
  tests =
      when no_class (code_at 3 s.line)
      ∷ when no_lexemes (code_at 4 s.line)
      ∷ when (long (class_of s.text)) (code_at 6 s.line)
      ∷ []

  abbrev by_class : Bool → Bool → Option Kind → List (Option Refusal)
  by_class e m class =
      when (not e && is_none class) (code_at 3 s.line)
      ∷ when (e || (not m || no_tokens class)) (code_at 4 s.line)
      ∷ when (long class) (code_at 6 s.line)
      ∷ []

  by_tokens : (kind : Kind) (tokens : Option (List Token)) → forgotten (with_tokens limits s kind tokens) ≡ chosen (when (is_none tokens) (code_at 4 s.line) ∷ when (long_token tokens || is_marked_long limits.name kind s.advice.mark) (code_at 6 s.line) ∷ [])
  by_tokens kind None = refl
  by_tokens kind (Some tokens) = test_more (list_any (is_too_long limits.name) tokens || is_marked_long limits.name kind s.advice.mark) (code_at 6 s.line) [] _ (λ h. refl)

  tests_are : (e m : Bool) (class : Option Kind) → m ≡ is_matched 0 s.text → forgotten (cond e (refused 4 s.line) (with_class limits s class)) ≡ chosen (by_class e m class)
  tests_are true m None h = refl
  tests_are true m (Some kind) h = refl
  tests_are false m None h = refl
  tests_are false true (Some kind) h = rw (sym h) (by_tokens kind (tokens_of kind s.text))
  tests_are false false (Some kind) h = rw (sym h) refl

  ranked : AreRanked 0 tests
  ranked = (3, omega arith, when_ranked no_class (code_at 3 s.line), (4, omega arith, when_ranked no_lexemes (code_at 4 s.line), (6, omega arith, when_ranked (long (class_of s.text)) (code_at 6 s.line), tt)))

  module _ (before after : List Lines) where
    abbrev Fault : Refusal → Type 0
    Fault r = StatementFault limits before s after r

    present : (r : Refusal) → Fault r → Present tests r
    present r (unknown some none) = inl (true_when no_class (code_at 3 s.line) (rw (ne_eqb (length s.text) 0 some, none) refl))
    present r (empty e) = inr (inl (true_when no_lexemes (code_at 4 s.line) (or_left _ _ (eq-eqb (length s.text) 0 e))))
    present r (unmatched e) = inr (inl (true_when no_lexemes (code_at 4 s.line) (or_right (eqb (length s.text) 0) _ (or_left _ _ (ap not e)))))
    present r (untold kind e none) = inr (inl (true_when no_lexemes (code_at 4 s.line) (or_right (eqb (length s.text) 0) _ (or_right (not (is_matched 0 s.text)) _ (rw (e, none) refl)))))
    present r (long_name kind tokens e some h) = inr (inr (inl (true_when (long (class_of s.text)) (code_at 6 s.line) (rw (e, some, h) refl))))
    present r (long_mark kind e h) = inr (inr (inl (true_when (long (class_of s.text)) (code_at 6 s.line) (rw e (or_right (long_token (tokens_of kind s.text)) _ h)))))

    none_is : {A : Type 0} (o : Option A) → is_none o ≡ true → o ≡ None
    none_is None h = refl
    none_is (Some x) h = absurd cc

    no_tokens_stand : (class : Option Kind) → class_of s.text ≡ class → no_tokens class ≡ true → Fault (code_at 4 s.line)
    no_tokens_stand None e h = absurd cc
    no_tokens_stand (Some kind) e h = untold kind e (none_is (tokens_of kind s.text) h)

    long_tokens_stand : (kind : Kind) (tokens : Option (List Token)) → class_of s.text ≡ Some kind → tokens_of kind s.text ≡ tokens → long_token tokens ≡ true → Fault (code_at 6 s.line)
    long_tokens_stand kind None e f h = absurd cc
    long_tokens_stand kind (Some tokens) e f h = long_name kind tokens e f h

    long_stands : (class : Option Kind) → class_of s.text ≡ class → long class ≡ true → Fault (code_at 6 s.line)
    long_stands None e h = absurd cc
    long_stands (Some kind) e h = elim (or_either (long_token (tokens_of kind s.text)) (is_marked_long limits.name kind s.advice.mark) h) [
      | inl f ↦ long_tokens_stand kind (tokens_of kind s.text) e refl f
      | inr f ↦ long_mark kind e f
    ]

    unknown_stands : no_class ≡ true → Fault (code_at 3 s.line)
    unknown_stands h = let t = and_both (not (eqb (length s.text) 0)) (is_none (class_of s.text)) h in unknown (eqb-false (length s.text) 0 (not_is (eqb (length s.text) 0) t.0)) (none_is (class_of s.text) t.1)

    lexemeless_stands : no_lexemes ≡ true → Fault (code_at 4 s.line)
    lexemeless_stands h = elim (or_either (eqb (length s.text) 0) _ h) [
      | inl e ↦ empty (eqb-true (length s.text) 0 e)
      | inr g ↦ elim (or_either (not (is_matched 0 s.text)) _ g) [
        | inl e ↦ unmatched (not_is (is_matched 0 s.text) e)
        | inr e ↦ no_tokens_stand (class_of s.text) refl e
      ]
    ]

    stand : (r : Refusal) → Present tests r → Fault r
    stand r p = elim p [
      | inl h ↦ only_where Fault no_class (code_at 3 s.line) unknown_stands r h
      | inr q ↦ elim q [
        | inl h ↦ only_where Fault no_lexemes (code_at 4 s.line) lexemeless_stands r h
        | inr o ↦ elim o [
          | inl h ↦ only_where Fault (long (class_of s.text)) (code_at 6 s.line) (long_stands (class_of s.text) refl) r h
          | inr never ↦ absurd never
        ]
      ]
    ]

    pub are_tested : AreTested Fault tests
    are_tested = record { ranked = ranked; present = present; stand = stand }

    pub judged : IsJudged Fault (stated limits s)
    unfolding stated
    judged = tested tests (stated limits s) are_tested (tests_are (eqb (length s.text) 0) (is_matched 0 s.text) (class_of s.text) refl)

one : (limits : Limits) → AreOne (StatementFault limits)
one limits before after s r q f g e = tested_one (tests limits s) r q (are_tested limits s before after) f g e

answered : (limits : Limits) (before ss : List Lines) → IsAnswer (StatementFault limits) before ss (all_stated limits ss)
unfolding all_stated
answered limits before [] = tt
answered limits before (s ∷ ss) = answer_more (StatementFault limits) before ss s (stated limits s) _ (judged limits s before ss) (λ x e. answer_mapped (StatementFault limits) (s ∷ before) ss (all_stated limits ss) (λ xs. x ∷ xs) (answered limits (s ∷ before) ss))

-- the answer to the statements of a text is the first fault, where there is one
pub statements_answer : StatementsAnswer
statements_answer limits ss = answered limits [] ss

pub statements_refused : StatementsRefused
statements_refused limits ss r f = first_refused (StatementFault limits) [] ss (all_stated limits ss) r (all_single (StatementFault limits) (one limits) [] ss) (answered limits [] ss) f

pub statements_accepted : StatementsAccepted
statements_accepted limits ss f = none_answered (StatementFault limits) [] ss (all_stated limits ss) (answered limits [] ss) f
