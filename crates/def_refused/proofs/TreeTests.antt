-- TreeTests: the tests of the chain of faults at one statement are the faults of the statement.
use Rattle.std.proofs.Common.{◌≡◌, ℕ, ◌-◌, Bool, true, false, cond, eqb, leb, List, [], ◌∷◌, length, Option, Some, None, Result, inl, inr, refl, sym, ap, subst, ◌∙◌, arith}
use Rattle.std.specs.Prelude.{◌==◌, ◌&&◌, ◌||◌, not, nat_le, is_none, unwrap_or, option_map, reverse, IfSome}
use Rattle.std.proofs.lemmas.Bool.{eqb-true, eq-eqb, ne_eqb, leb-true, leb-false}
use Rattle.std.proofs.lemmas.List.{nil_from_length}
use Rattle.adj_tree.specs.View.{mark_of}
use Rattle.adj_tree.specs.declared.fault.Refusal.{Refusal}
use Rattle.adj_parse_expression.specs.Judged.{judged_by}
use Rattle.def_text.specs.Form.{Form, Statement}
use Rattle.def_text.specs.Reads.{ReadsAll}
use Rattle.def_text.specs.Refused.{limited}
use Rattle.def_text.specs.Lexeme.{Lexeme}
use Rattle.def_text.specs.declared.mode.Mode.{Mode}
use Rattle.def_text.specs.declared.stated.Kind.{Kind}
use Rattle.def_text.specs.declared.stated.Kind.TheVariants.{End, EndIf, EndDo, Else, ImplicitNone, ElseIf, Subroutine, Integer, Common}
use Rattle.def_text.specs.declared.stated.Stated.{Stated}
use Rattle.adj_parse_statement.specs.Phrase.{Phrase, Says}
use Rattle.adj_parse_statement.specs.Phrases.{phrase_of}
use Rattle.adj_parse_statement.specs.Said.{phrase_large, phrase_deep, form, judged_phrase, said}
use Rattle.adj_parse.specs.Order.{is_end, is_heading, opens_block}
use Rattle.adj_parse.specs.Trees.{bounds_of, State, has_stray_mark, is_large, is_deep, is_full, with_form, limited_by, checked}
use Rattle.adj_parse.specs.Unit.{Current, open_blocks}
use Rattle.adj_parse.proofs.Truths.{and_false}
use Rattle.adj_parse.proofs.TextReads.{one_all}
use Rattle.def_refused.proofs.LineTests.{none_is}
use Rattle.def_refused.specs.First.{code_at, limit_at, rank}
use Rattle.def_refused.specs.Opened.{opened, is_innermost, has_label, leaves_loop, misses_loop}
use Rattle.def_refused.specs.Following.{CanFollow}
use Rattle.def_refused.specs.TreeFaults.{lexemes, ends_in, passed, TreeFault, stray, formless, cut_off, misplaced, large, leaves, misses, beyond, exponent}
use Rattle.def_refused.proofs.Tests.{chosen, forgotten, when, true_when, when_ranked, test_more, Present, AreRanked, only_where, or_left, or_right, or_either, AreTested, IsJudged, tested}
use Rattle.def_refused.proofs.Places.{Inner, may_at, blocks_in, suits, misplaced_at, broken_at, stands_at, Leads, no_misses}
use Rattle.def_refused.proofs.Bridged.{place_of, length_same, misplaced_same, broken_same}
use Rattle.def_refused.proofs.Leading.{leads_blocks}
use Rattle.def_refused.proofs.Continuing.{continues, follows, follows_stands}

-- what is known of the lexemes of a statement
pub record Laws : Type 0 where
  pub complete : (kind : Kind) (lexemes : List Lexeme) (p : Phrase) → Says kind lexemes p → phrase_of kind lexemes ≡ Some p
  pub sound : (kind : Kind) (lexemes : List Lexeme) → IfSome (phrase_of kind lexemes) (Says kind lexemes)

-- behind RETURN no block is open
abbrev pub IsBare : Option Inner → Type 0
IsBare None = Unit {0}
IsBare (Some i) = i.stage.left ≡ true → i.blocks ≡ []

-- what closes a block round a DO with a label may follow by the order of a unit
leaves_follows : (kind : Kind) (i : Inner) → IsBare (Some i) → leaves_loop kind i.blocks ≡ true → may_at kind i.stage ≡ true
leaves_follows kind i bare h = by kind h
  where
    acting : (b : Bool) → i.stage.left ≡ b → is_innermost has_label i.blocks ≡ true → not b ≡ true
    acting true e g = let none = bare e in let never : false ≡ true = rw none at g in absurd cc
    acting false e g = refl

    inner : (a b : Bool) → (a && b) ≡ true → a ≡ true
    inner true b g = refl
    inner false b g = absurd cc

    never : (a : Bool) → (a && false) ≡ true → not (i.stage.left) ≡ true
    never a g = let no : false ≡ true = sym (and_false a) ∙ g in absurd cc

    by : (kind : Kind) → leaves_loop kind i.blocks ≡ true → may_at kind i.stage ≡ true
    by End g = refl
    by EndDo g = acting (i.stage.left) refl (inner _ _ g)
    by EndIf g = acting (i.stage.left) refl (inner _ _ g)
    by Else g = acting (i.stage.left) refl (inner _ _ g)
    by ElseIf g = acting (i.stage.left) refl (inner _ _ g)
    by Subroutine g = let no : false ≡ true = sym (and_false (is_innermost has_label i.blocks)) ∙ g in absurd cc
    by Integer g = let no : false ≡ true = sym (and_false (is_innermost has_label i.blocks)) ∙ g in absurd cc
    by Common g = let no : false ≡ true = sym (and_false (is_innermost has_label i.blocks)) ∙ g in absurd cc
    by ImplicitNone g = let no : false ≡ true = sym (and_false (is_innermost has_label i.blocks)) ∙ g in absurd cc
    by kind g = never (is_innermost has_label i.blocks) g

-- so what is misplaced doesn't close one
misplaced_stays : (kind : Kind) (w : Option Inner) → IsBare w → misplaced_at kind w ≡ true → leaves_loop kind (blocks_in w) ≡ false
misplaced_stays kind None bare h = refl
misplaced_stays kind (Some i) bare h = elim (leaves_loop kind i.blocks) as (λ b. leaves_loop kind i.blocks ≡ b → b ≡ false) [
  | true ↦ λ e. let m = leaves_follows kind i bare e in let never : false ≡ true = rw (m, e, or_true (suits kind i.blocks)) at h in absurd cc
  | false ↦ λ e. refl
] refl
  where
    or_true : (b : Bool) → (b || true) ≡ true
    or_true true = refl
    or_true false = refl

-- without a label and without closing a block round a DO, a statement stands where it isn't misplaced
stands_alone : (kind : Kind) (w : Option Inner) → misplaced_at kind w ≡ false → leaves_loop kind (blocks_in w) ≡ false → stands_at kind 0 w ≡ true
stands_alone kind w h g = rw (h, g, no_misses kind (blocks_in w)) refl

stands_placed : (kind : Kind) (w : Option Inner) → stands_at kind 0 w ≡ true → misplaced_at kind w ≡ false
stands_placed kind w h = by (misplaced_at kind w) (broken_at kind 0 w) h
  where
    by : (a b : Bool) → (not a && not b) ≡ true → a ≡ false
    by true b g = absurd cc
    by false b g = refl

-- the chain of limits, as the first limit that is passed
limits_are : {B : Type 0} (a b c e : Bool) (units : Option ℕ) (k l m line : ℕ) (cs : List (Option Refusal)) (x : Result B Refusal) → (a ≡ true → units ≡ Some (unwrap_or units 0)) → (c ≡ false → forgotten x ≡ chosen cs) →
    forgotten (cond a (limited (unwrap_or units 0) line) (cond b (limited k line) (cond c (limited l line) (cond e (limited m line) x)))) ≡ chosen (option_map (λ n. limit_at n line) (cond a units (cond b (Some k) (cond c (Some l) (cond e (Some m) None)))) ∷ cs)
limits_are true b c e units k l m line cs x h g = rw (h refl) refl
limits_are false true c e units k l m line cs x h g = refl
limits_are false false true e units k l m line cs x h g = refl
limits_are false false false true units k l m line cs x h g = refl
limits_are false false false false units k l m line cs x h g = g refl

is_reached : (heading : Bool) (units : Option ℕ) (n : ℕ) → (heading && is_full units n) ≡ true → units ≡ Some (unwrap_or units 0)
is_reached true None n h = absurd cc
is_reached true (Some k) n h = refl
is_reached false units n h = absurd cc

large_is : (big deep : Bool) (o : Option Form) → is_large (Some (judged_by big deep o)) ≡ big
large_is true deep o = refl
large_is false true o = refl
large_is false false None = refl
large_is false false (Some f) = refl

deep_is : (big deep : Bool) (o : Option Form) → big ≡ false → is_deep (Some (judged_by big deep o)) ≡ deep
deep_is true deep o h = absurd cc
deep_is false true o h = refl
deep_is false false None h = refl
deep_is false false (Some f) h = refl

form_is : (big deep : Bool) (o : Option Form) (line : ℕ) → big ≡ false → deep ≡ false → forgotten (with_form (Some (judged_by big deep o)) line) ≡ chosen (when (is_none o) (code_at 25 line) ∷ [])
form_is true deep o line h g = absurd cc
form_is false true o line h g = absurd cc
form_is false false None line h g = refl
form_is false false (Some f) line h g = refl

-- what is known behind the statements before, the nearest first
pub record At (mode : Mode) (before : List Stated) (s : State) : Type 0 where
  pub statements : List Statement
  pub say : ReadsAll (reverse before) statements
  pub leads : Leads None statements (place_of s.units.current)
  pub bare : IsBare (place_of s.units.current)
  pub room : s.room ≡ (bounds_of mode).statements - length before
  pub done : length s.units.done ≡ ends_in before

module _ (laws : Laws) (mode : Mode) (before : List Stated) (s : State) (t : Stated) (after : List Stated) (here : At mode before s) where
  abbrev said_as : Option Phrase
  said_as = phrase_of t.kind (lexemes t)

  abbrev w : Option Inner
  w = place_of s.units.current

  abbrev Fault : Refusal → Type 0
  Fault r = TreeFault mode before t after r

  blocks_are : blocks_in w ≡ opened [] here.statements
  blocks_are = leads_blocks None w here.statements here.leads

  abbrev is_last : Bool
  is_last = (length after == 0) && not (is_end t.kind)

  abbrev pub ill : Option Phrase → Bool
  ill o = is_none o || (misplaced_at t.kind w || is_last)

  abbrev big : Option Phrase → Bool
  big None = false
  big (Some p) = phrase_large p

  abbrev reached : Phrase → Option ℕ
  reached p = passed mode (ends_in before) (length before) (length (blocks_in w)) t.kind p

  abbrev pub limit_test : Option Phrase → Option Refusal
  limit_test None = None
  limit_test (Some p) = option_map (λ m. limit_at m t.line) (reached p)

  abbrev unformed : Option Phrase → Bool
  unformed None = false
  unformed (Some p) = is_none (form (mark_of t.mark) p)

  abbrev pub tests : Option Phrase → List (Option Refusal)
  tests o =
      when (has_stray_mark t) (code_at 20 t.mark_line)
      ∷ when (ill o) (code_at 4 t.line)
      ∷ when (big o) (code_at 5 t.line)
      ∷ when (broken_at t.kind t.label w) (code_at 10 t.line)
      ∷ limit_test o
      ∷ when (unformed o) (code_at 25 t.line)
      ∷ []

  limit_ranked : (o : Option Phrase) (r : Refusal) → limit_test o ≡ Some r → rank r ≡ 21
  limit_ranked None r h = absurd cc
  limit_ranked (Some p) r h = by (reached p) h
    where
      by : (m : Option ℕ) → option_map (λ n. limit_at n t.line) m ≡ Some r → rank r ≡ 21
      by None g = absurd cc
      by (Some n) g = let same : limit_at n t.line ≡ r = cc in ap rank (sym same)

  ranked : (o : Option Phrase) → AreRanked 0 (tests o)
  ranked o = (0, omega arith, when_ranked (has_stray_mark t) (code_at 20 t.mark_line), (4, omega arith, when_ranked (ill o) (code_at 4 t.line), (5, omega arith, when_ranked (big o) (code_at 5 t.line), (10, omega arith, when_ranked (broken_at t.kind t.label w) (code_at 10 t.line), (21, omega arith, limit_ranked o, (25, omega arith, when_ranked (unformed o) (code_at 25 t.line), tt))))))

  -- ---- the chain makes these tests

  full_same : (n limit room : ℕ) → room ≡ limit - n → (room == 0) ≡ nat_le limit n
  full_same n limit room e = elim (leb limit n) as (λ b. leb limit n ≡ b → eqb room 0 ≡ b) [
    | true ↦ λ h. eq-eqb room 0 (omega (arith, e, leb-true limit n h))
    | false ↦ λ h. ne_eqb room 0 (λ q. let never : ⊥ = omega (arith, e, q, leb-false limit n h) in absurd never)
  ] refl

  limits_made : (p : Phrase) → phrase_large p ≡ false → forgotten (limited_by (bounds_of mode) s t (Some (judged_phrase (bounds_of mode).depth (mark_of t.mark) p))) ≡ chosen (limit_test (Some p) ∷ when (unformed (Some p)) (code_at 25 t.line) ∷ [])
  limits_made p small =
      rw (deep_is (phrase_large p) (phrase_deep (bounds_of mode).depth p) (form (mark_of t.mark) p) small, full_same (length before) (bounds_of mode).statements s.room here.room, here.done, sym (blocks_length s.units.current))
      (limits_are (is_heading t.kind && is_full (bounds_of mode).units (ends_in before)) (nat_le (bounds_of mode).statements (length before)) (phrase_deep (bounds_of mode).depth p) (opens_block t.kind && nat_le (bounds_of mode).nesting (length (blocks_in w))) (bounds_of mode).units (bounds_of mode).statements (bounds_of mode).depth (bounds_of mode).nesting t.line
      (when (unformed (Some p)) (code_at 25 t.line) ∷ []) (with_form (Some (judged_phrase (bounds_of mode).depth (mark_of t.mark) p)) t.line) (is_reached (is_heading t.kind) (bounds_of mode).units (ends_in before)) (form_is (phrase_large p) (phrase_deep (bounds_of mode).depth p) (form (mark_of t.mark) p) t.line small))
    where
      blocks_length : (c : Option Current) → length (blocks_in (place_of c)) ≡ length (open_blocks c)
      blocks_length None = refl
      blocks_length (Some c) = length_same c.nest.blocks

  checked_made : (o : Option Phrase) → forgotten (checked (bounds_of mode) s t (length after) (option_map (judged_phrase (bounds_of mode).depth (mark_of t.mark)) o)) ≡ chosen (tests o)
  checked_made None = test_more (has_stray_mark t) (code_at 20 t.mark_line) _ _ (λ h. refl)
  checked_made (Some p) =
      rw (sym (misplaced_same t.kind s.units.current), sym (broken_same t.kind t.label s.units.current), large_is (phrase_large p) (phrase_deep (bounds_of mode).depth p) (form (mark_of t.mark) p))
      (test_more (has_stray_mark t) (code_at 20 t.mark_line) _ _ (λ a.
      test_more (ill (Some p)) (code_at 4 t.line) _ _ (λ b.
      test_more (phrase_large p) (code_at 5 t.line) _ _ (λ small.
      test_more (broken_at t.kind t.label w) (code_at 10 t.line) _ _ (λ d.
      limits_made p small)))))

  -- ---- the tests are the faults

  says_one : (p : Phrase) → Says t.kind (lexemes t) p → said_as ≡ Some p
  says_one p h = laws.complete t.kind (lexemes t) p h

  says_it : (o : Option Phrase) → said_as ≡ o → IfSome o (Says t.kind (lexemes t))
  says_it o e = subst (λ q. IfSome q (Says t.kind (lexemes t))) e (laws.sound t.kind (lexemes t))

  same_statements : {ss : List Statement} → ReadsAll (reverse before) ss → ss ≡ here.statements
  same_statements r = one_all r here.say

  same_blocks : (ss : List Statement) → ReadsAll (reverse before) ss → opened [] ss ≡ blocks_in w
  same_blocks ss r = ap (opened []) (same_statements r) ∙ sym blocks_are

  no_phrase : (o : Option Phrase) → said_as ≡ o → ((p : Phrase) → Says t.kind (lexemes t) p → ⊥) → is_none o ≡ true
  no_phrase None e h = refl
  no_phrase (Some p) e h = absurd (h p (says_it (Some p) e))

  misplaced_tells : (ss : List Statement) → ReadsAll (reverse before) ss → (CanFollow t.kind ss → ⊥) → leaves_loop t.kind (opened [] ss) ≡ false → misplaced_at t.kind w ≡ true
  misplaced_tells ss r none stays = elim (misplaced_at t.kind w) as (λ b. misplaced_at t.kind w ≡ b → b ≡ true) [
    | true ↦ λ e. refl
    | false ↦ λ e.
        let stands = stands_alone t.kind w e (sym (ap (leaves_loop t.kind) (same_blocks ss r)) ∙ stays) in
        absurd (none (subst (CanFollow t.kind) (sym (same_statements r)) (follows t.kind here.statements w here.leads stands)))
  ] refl

  present : (r : Refusal) → Fault r → Present (tests said_as) r
  present r (stray h) = inl (true_when (has_stray_mark t) (code_at 20 t.mark_line) h)
  present r (formless h) = inr (inl (true_when (ill said_as) (code_at 4 t.line) (or_left _ _ (no_phrase said_as refl h))))
  present r (cut_off h g) = inr (inl (true_when (ill said_as) (code_at 4 t.line) (or_right (is_none said_as) _ (or_right (misplaced_at t.kind w) _ (rw (h, g) refl)))))
  present r (misplaced ss read goes none stays) = inr (inl (true_when (ill said_as) (code_at 4 t.line) (or_right (is_none said_as) _ (or_left _ _ (misplaced_tells ss read none stays)))))
  present r (large p h g) = inr (inr (inl (true_when (big said_as) (code_at 5 t.line) (ap big (says_one p h) ∙ g))))
  present r (leaves ss read h) = inr (inr (inr (inl (true_when (broken_at t.kind t.label w) (code_at 10 t.line) (or_left _ _ (ap (leaves_loop t.kind) (sym (same_blocks ss read)) ∙ h))))))
  present r (misses ss read h) = inr (inr (inr (inl (true_when (broken_at t.kind t.label w) (code_at 10 t.line) (or_right (leaves_loop t.kind (blocks_in w)) _ (ap (misses_loop t.kind t.label) (sym (same_blocks ss read)) ∙ h))))))
  present r (beyond ss p limit read h g) = inr (inr (inr (inr (inl (ap limit_test (says_one p h) ∙ ap (option_map (λ m. limit_at m t.line)) (ap (λ os. passed mode (ends_in before) (length before) (length os) t.kind p) (sym (same_blocks ss read)) ∙ g))))))
  present r (exponent p h g) = inr (inr (inr (inr (inr (inl (true_when (unformed said_as) (code_at 25 t.line) (ap unformed (says_one p h) ∙ ap is_none g)))))))

  misplaced_stands : misplaced_at t.kind w ≡ true → Fault (code_at 4 t.line)
  misplaced_stands h =
      let stays = misplaced_stays t.kind w here.bare h in
      misplaced here.statements here.say (continues here.statements w here.leads)
      (λ f. let no = stands_placed t.kind w (follows_stands t.kind here.statements w here.leads f) in let never : true ≡ false = sym h ∙ no in absurd cc)
      (ap (leaves_loop t.kind) (sym blocks_are) ∙ stays)

  ill_stands : (o : Option Phrase) → said_as ≡ o → ill o ≡ true → Fault (code_at 4 t.line)
  ill_stands None e h = formless (λ p says. let never : None ≡ Some p = sym e ∙ says_one p says in absurd cc)
  ill_stands (Some p) e h = elim (or_either (misplaced_at t.kind w) is_last h) [
    | inl g ↦ misplaced_stands g
    | inr g ↦ let b = parts (length after == 0) (is_end t.kind) g in cut_off (nil_from_length after (eqb-true (length after) 0 b.0)) b.1
  ]
    where
      parts : (a b : Bool) → (a && not b) ≡ true → (a ≡ true) × (b ≡ false)
      parts true true g = absurd cc
      parts true false g = (refl, refl)
      parts false b g = absurd cc

  large_stands : (o : Option Phrase) → said_as ≡ o → big o ≡ true → Fault (code_at 5 t.line)
  large_stands None e h = absurd cc
  large_stands (Some p) e h = large p (says_it (Some p) e) h

  broken_stands : broken_at t.kind t.label w ≡ true → Fault (code_at 10 t.line)
  broken_stands h = elim (or_either (leaves_loop t.kind (blocks_in w)) (misses_loop t.kind t.label (blocks_in w)) h) [
    | inl g ↦ leaves here.statements here.say (ap (leaves_loop t.kind) (sym blocks_are) ∙ g)
    | inr g ↦ misses here.statements here.say (ap (misses_loop t.kind t.label) (sym blocks_are) ∙ g)
  ]

  limit_stands : (o : Option Phrase) → said_as ≡ o → (r : Refusal) → limit_test o ≡ Some r → Fault r
  limit_stands None e r h = absurd cc
  limit_stands (Some p) e r h = by (reached p) refl h
    where
      by : (m : Option ℕ) → reached p ≡ m → option_map (λ n. limit_at n t.line) m ≡ Some r → Fault r
      by None f g = absurd cc
      by (Some n) f g =
          let same : limit_at n t.line ≡ r = cc in
          subst Fault same (beyond here.statements p n here.say (says_it (Some p) e) (ap (λ os. passed mode (ends_in before) (length before) (length os) t.kind p) (sym blocks_are) ∙ f))

  unformed_stands : (o : Option Phrase) → said_as ≡ o → unformed o ≡ true → Fault (code_at 25 t.line)
  unformed_stands None e h = absurd cc
  unformed_stands (Some p) e h = exponent p (says_it (Some p) e) (none_is (form (mark_of t.mark) p) h)

  stand : (r : Refusal) → Present (tests said_as) r → Fault r
  stand r (inl h) = only_where Fault (has_stray_mark t) (code_at 20 t.mark_line) stray r h
  stand r (inr (inl h)) = only_where Fault (ill said_as) (code_at 4 t.line) (ill_stands said_as refl) r h
  stand r (inr (inr (inl h))) = only_where Fault (big said_as) (code_at 5 t.line) (large_stands said_as refl) r h
  stand r (inr (inr (inr (inl h)))) = only_where Fault (broken_at t.kind t.label w) (code_at 10 t.line) broken_stands r h
  stand r (inr (inr (inr (inr (inl h))))) = limit_stands said_as refl r h
  stand r (inr (inr (inr (inr (inr (inl h)))))) = only_where Fault (unformed said_as) (code_at 25 t.line) (unformed_stands said_as refl) r h
  stand r (inr (inr (inr (inr (inr (inr h)))))) = absurd h

  pub are_tested : AreTested (TreeFault mode before t after) (tests said_as)
  are_tested = record { ranked = ranked said_as; present = present; stand = stand }

  pub judged : IsJudged (TreeFault mode before t after) (checked (bounds_of mode) s t (length after) (said (bounds_of mode).depth (mark_of t.mark) t.kind (lexemes t)))
  unfolding said
  judged = tested (tests said_as) (checked (bounds_of mode) s t (length after) (option_map (judged_phrase (bounds_of mode).depth (mark_of t.mark)) said_as)) are_tested (checked_made said_as)
