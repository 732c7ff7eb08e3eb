-- The literals and extents of a program that can be written are words.
use Rattle.std.proofs.Common.{◌≡◌, ◌^◌, ℤ, pos, negsuc, Bool, true, List, [], ◌∷◌, refl, ap}
use Rattle.std.specs.Prelude.{not}
use Rattle.std.specs.List.{All, list_all}
use Rattle.std.proofs.lemmas.Bool.{lt-leb, and_from}
use Rattle.adj_tree.specs.Code.{Var, Term, Terms, lit, var, elem, neg, bin, pow, power_of, abs, none, more, Test, compare, negation, conjunction, disjunction, Runtime, push_word, pop_word, push_array, pop_array, push_control, pop_control, zero_array, begin_reversal, count_actions, give_action, end_reversal, Act, Code, assign, choose, loop, during, call, runtime, stop, step, Extent, fixed, given, Declaration, Procedure}
use Rattle.def_text.specs.Written.{IsLiteral, IsWrittenTerm, AreWrittenTerms, IsWrittenTest, IsPlace, IsActualPlace, IsWrittenRuntime, IsWrittenAct, IsWrittenCode, IsWrittenExtent, IsWrittenDeclaration, IsWrittenProcedure, IsWritten}
use Rattle.def_text.proofs.WrittenBack.{all_first, all_rest}
use Rattle.law_limits.specs.Rule.{act_keeps, code_keeps, declaration_keeps, procedure_keeps, keeps}
use Rattle.law_limits.specs.Kept.{actuals_of}
use Rattle.law_limits.proofs.FittingTerms.{fits_literal, fits_term, fits_terms, fits_test, fits_extent, fitting}

literal_fits : (z : ℤ) → IsLiteral z → fits_literal z ≡ true
literal_fits (pos n) h = ap not (lt-leb (2 ^ 63) n h)
literal_fits (negsuc n) h = absurd h

mutual
  term_fits : (t : Term) → IsWrittenTerm t → fits_term t ≡ true
  term_fits (lit z) h = literal_fits z h
  term_fits (var x) h = refl
  term_fits (elem x s) h = terms_fit s h.2
  term_fits (neg a) h = term_fits a h
  term_fits (bin op a b) h = and_from (fits_term a) (fits_term b) (term_fits a h.0) (term_fits b h.1)
  term_fits (pow a k) h = term_fits a h.0
  term_fits (power_of a b) h = and_from (fits_term a) (fits_term b) (term_fits a h.0) (term_fits b h.1)
  term_fits (abs a) h = term_fits a h

  terms_fit : (es : Terms) → AreWrittenTerms es → fits_terms es ≡ true
  terms_fit none h = refl
  terms_fit (more e rest) h = and_from (fits_term e) (fits_terms rest) (term_fits e h.0) (terms_fit rest h.1)

test_fits : (c : Test) → IsWrittenTest c → fits_test c ≡ true
test_fits (compare r a b) h = and_from (fits_term a) (fits_term b) (term_fits a h.0) (term_fits b h.1)
test_fits (negation c) h = test_fits c h
test_fits (conjunction c d) h = and_from (fits_test c) (fits_test d) (test_fits c h.0) (test_fits d h.1)
test_fits (disjunction c d) h = and_from (fits_test c) (fits_test d) (test_fits c h.0) (test_fits d h.1)

place_fits : (x : Var) (s : Terms) → IsPlace x s → fits_terms s ≡ true
place_fits x none h = refl
place_fits x (more e s) h = terms_fit (more e s) h.2

actual_fits : (x : Var) (s : Terms) → IsActualPlace x s → fits_terms (more (elem x s) none) ≡ true
actual_fits x none h = refl
actual_fits x (more e s) h = and_from (fits_terms (more e s)) true (terms_fit (more e s) h.2) refl

runtime_fits : (r : Runtime) → IsWrittenRuntime r → fits_terms (actuals_of r) ≡ true
runtime_fits (push_word x s) h = actual_fits x s h
runtime_fits (pop_word x s) h = actual_fits x s h
runtime_fits (push_array x) h = refl
runtime_fits (pop_array x) h = refl
runtime_fits (push_control e) h = and_from (fits_term e) true (term_fits e h) refl
runtime_fits (pop_control x) h = refl
runtime_fits (zero_array x) h = refl
runtime_fits (begin_reversal l s) h = terms_fit (more l (more s none)) (h.0, (h.1, tt))
runtime_fits (count_actions l s n) h = and_from (fits_term l) _ (term_fits l h.0) (and_from (fits_term s) _ (term_fits s h.1) refl)
runtime_fits (give_action l s k a f t) h = and_from (fits_term l) _ (term_fits l h.0) (and_from (fits_term s) _ (term_fits s h.1) (and_from (fits_term k) _ (term_fits k h.2) refl))
runtime_fits end_reversal h = refl

mutual
  act_fits : (a : Act) → IsWrittenAct a → act_keeps fitting a ≡ true
  act_fits (assign x s e) h = and_from (fits_terms s) (fits_term e) (place_fits x s h.0) (term_fits e h.1)
  act_fits (choose c a b) h = and_from (fits_test c) _ (test_fits c h.0) (and_from (code_keeps fitting a) (code_keeps fitting b) (code_fits a h.1) (code_fits b h.2))
  act_fits (loop x a b c body m) h = and_from _ (code_keeps fitting body) (and_from (fits_term a) _ (term_fits a h.1) (and_from (fits_term b) (fits_term c) (term_fits b h.2) (term_fits c h.3))) (code_fits body h.4)
  act_fits (during c body) h = and_from (fits_test c) (code_keeps fitting body) (test_fits c h.0) (code_fits body h.1)
  act_fits (call x es) h = terms_fit es h.1
  act_fits (runtime r) h = runtime_fits r h

  code_fits : (k : Code) → IsWrittenCode k → code_keeps fitting k ≡ true
  code_fits stop h = refl
  code_fits (step line a rest) h = and_from (act_keeps fitting a) (code_keeps fitting rest) (act_fits a h.0) (code_fits rest h.1)

extent_fits : (e : Extent) → IsWrittenExtent e → fits_extent e ≡ true
extent_fits (fixed z) h = literal_fits z h
extent_fits (given x) h = refl

-- each member of a list passes a test
each_passes : {X : Type 0} (P : X → Type 0) (f : X → Bool) → ((x : X) → P x → f x ≡ true) → (xs : List X) → All P xs → list_all f xs ≡ true
each_passes P f h [] g = refl
each_passes P f h (x ∷ xs) g = and_from (f x) (list_all f xs) (h x (all_first P x xs g)) (each_passes P f h xs (all_rest P x xs g))

declaration_fits : (d : Declaration) → IsWrittenDeclaration d → declaration_keeps fitting d ≡ true
declaration_fits d h = each_passes IsWrittenExtent fits_extent extent_fits d.extents h.extents

procedure_fits : (p : Procedure) → IsWrittenProcedure p → procedure_keeps fitting p ≡ true
procedure_fits p h = and_from _ (code_keeps fitting p.body) (each_passes IsWrittenDeclaration (declaration_keeps fitting) declaration_fits p.declarations h.declarations) (code_fits p.body h.body)

pub written_fits : (ps : List Procedure) → IsWritten ps → keeps fitting ps ≡ true
written_fits ps h = each_passes IsWrittenProcedure (procedure_keeps fitting) procedure_fits ps h
