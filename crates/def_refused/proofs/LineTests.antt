-- The answer to the lines of a text is its first fault, where there is one.
use Rattle.std.proofs.Common.{◌≡◌, ℕ, ◌+◌, ◌-◌, ◌≤◌, Bool, true, false, cond, leb, ltb, List, [], ◌∷◌, Option, Some, None, Result, Ok, Err, ◌⊎◌, inl, inr, refl, sym, ap, subst, ◌∙◌, arith}
use Rattle.std.specs.Prelude.{◌==◌, ◌&&◌, ◌||◌, not, is_none, unwrap_or, option_map}
use Rattle.std.specs.List.{list_all}
use Rattle.std.proofs.lemmas.Bool.{leb-true, leb-false, le-leb, ltb-true, lt-ltb, le-ltb}
use Rattle.adj_tree.specs.declared.fault.Refusal.{Refusal}
use Rattle.def_text.specs.Char.{blank, nought, is_between, is_allowed}
use Rattle.def_text.specs.Limits.{Limits}
use Rattle.def_text.specs.Line.{cut_lines, without_cr, next_number, is_data, column, is_directive, is_comment, is_continuation, body, label_of, advice_of}
use Rattle.def_text.specs.Lined.{Lines, Directive, Pass, start, flushed, with_directive, with_initial, has_room, with_continuation, behind_directive, with_line, ended, pass_over, lines_of}
use Rattle.def_text.specs.Refused.{◌>>=◌, refused, limited}
use Rattle.def_text.specs.declared.stated.Advice.{Advice}
use Rattle.def_refused.specs.First.{code_at, limit_at, rank, IsLeast, HasNone, IsAnswer}
use Rattle.def_text.specs.Forming.{Line, numbered, lines_in, Sort, directive, comment, continuation, initial, sort}
use Rattle.def_refused.specs.LineFaults.{lead_in, continuations, LineFault, unlabelled, shifted, alone, unmarked, foreign, garbled, astray, too_long}
use Rattle.def_refused.specs.Refusals.{LinesAnswer, LinesRefused, LinesAccepted}
use Rattle.def_refused.proofs.Tests.{chosen, forgotten, when, true_when, when_ranked, test_more, Present, AreRanked, only_where, or_left, or_right, or_either, not_is, AreTested, AreOne, tested, tested_one, answer_behind, answer_more, all_single, first_refused, none_answered}

pub none_is : {A : Type 0} (o : Option A) → is_none o ≡ true → o ≡ None
none_is None h = refl
none_is (Some x) h = absurd cc

and_not : (a b : Bool) → not (a && b) ≡ true → (a ≡ false) ⊎ (b ≡ false)
and_not true b h = inr (not_is b h)
and_not false b h = inl refl

not_and_left : (a b : Bool) → a ≡ false → not (a && b) ≡ true
not_and_left true b h = absurd cc
not_and_left false b h = refl

not_and_right : (a b : Bool) → b ≡ false → not (a && b) ≡ true
not_and_right true b h = ap not h
not_and_right false b h = refl

module _ (limits : Limits) where
  abbrev Fault : List Line → Line → List Line → Refusal → Type 0
  Fault before l after r = LineFault limits before l after r

  module _ (before : List Line) (l : Line) (after : List Line) where
    abbrev clear : Bool
    clear = column l.characters 6 == blank || column l.characters 6 == nought

    abbrev allowed : Bool
    allowed = list_all is_allowed (body l.characters)

    abbrev marked : Bool
    marked = is_between 33 126 (column l.characters 6)

    -- the limit of continuation lines that is reached
    abbrev limit_test : Option ℕ → Option ℕ → Option Refusal
    limit_test (Some most) (Some so_far) = when (leb most so_far) (limit_at most l.number)
    limit_test (Some most) None = None
    limit_test None so_far = None

    -- the tests of a line of each sort, in order
    abbrev tests : Sort → List (Option Refusal)
    tests directive = when (is_none (advice_of l.characters) || not (lead_in after)) (code_at 20 l.number) ∷ []
    tests comment = []
    tests continuation = when (is_none (continuations before)) (code_at 1 l.number) ∷ when (not (marked && allowed)) (code_at 2 l.number) ∷ limit_test limits.continuations (continuations before) ∷ []
    tests initial = when (is_none (label_of l.characters) || not clear) (code_at 1 l.number) ∷ when (not allowed) (code_at 2 l.number) ∷ []

    limit_ranked : (most so_far : Option ℕ) (r : Refusal) → limit_test most so_far ≡ Some r → rank r ≡ 21
    limit_ranked (Some most) (Some so_far) r h = when_ranked (leb most so_far) (limit_at most l.number) r h
    limit_ranked (Some most) None r h = absurd cc
    limit_ranked None so_far r h = absurd cc

    ranked : (s : Sort) → AreRanked 0 (tests s)
    ranked directive = (0, omega arith, when_ranked (is_none (advice_of l.characters) || not (lead_in after)) (code_at 20 l.number), tt)
    ranked comment = tt
    ranked continuation = (1, omega arith, when_ranked (is_none (continuations before)) (code_at 1 l.number), (2, omega arith, when_ranked (not (marked && allowed)) (code_at 2 l.number), (21, omega arith, limit_ranked limits.continuations (continuations before), tt)))
    ranked initial = (1, omega arith, when_ranked (is_none (label_of l.characters) || not clear) (code_at 1 l.number), (2, omega arith, when_ranked (not allowed) (code_at 2 l.number), tt))

    limit_there : (most so_far : ℕ) → most ≤ so_far → limit_test (Some most) (Some so_far) ≡ Some (limit_at most l.number)
    limit_there most so_far h = true_when (leb most so_far) (limit_at most l.number) (le-leb most so_far h)

    present : (s : Sort) → sort l.characters ≡ s → (r : Refusal) → Fault before l after r → Present (tests s) r
    present initial e r (unlabelled f h) = inl (true_when _ (code_at 1 l.number) (or_left _ _ (ap is_none h)))
    present s e r (unlabelled f h) = absurd cc
    present initial e r (shifted f h) = inl (true_when _ (code_at 1 l.number) (or_right (is_none (label_of l.characters)) _ (ap not h)))
    present s e r (shifted f h) = absurd cc
    present continuation e r (alone f h) = inl (true_when _ (code_at 1 l.number) (rw h refl))
    present s e r (alone f h) = absurd cc
    present continuation e r (unmarked f h) = inr (inl (true_when _ (code_at 2 l.number) (not_and_left marked allowed h)))
    present s e r (unmarked f h) = absurd cc
    present continuation e r (foreign f h) = inr (inl (true_when _ (code_at 2 l.number) (not_and_right marked allowed h)))
    present initial e r (foreign f h) = inr (inl (true_when _ (code_at 2 l.number) (ap not h)))
    present directive e r (foreign f h) = let never : false ≡ true = rw e at f in absurd cc
    present comment e r (foreign f h) = let never : false ≡ true = rw e at f in absurd cc
    present directive e r (garbled f h) = inl (true_when _ (code_at 20 l.number) (or_left _ _ (ap is_none h)))
    present s e r (garbled f h) = absurd cc
    present directive e r (astray f h) = inl (true_when _ (code_at 20 l.number) (or_right (is_none (advice_of l.characters)) _ (ap not h)))
    present s e r (astray f h) = absurd cc
    present continuation e r (too_long most so_far f g h k) = inr (inr (inl (rw (g, h) (limit_there most so_far k))))
    present s e r (too_long most so_far f g h k) = absurd cc

    limit_stands : sort l.characters ≡ continuation → (most so_far : Option ℕ) → limits.continuations ≡ most → continuations before ≡ so_far → (r : Refusal) → limit_test most so_far ≡ Some r → Fault before l after r
    limit_stands e (Some most) (Some so_far) f g r h = only_where (Fault before l after) (leb most so_far) (limit_at most l.number) (λ t. too_long most so_far e f g (leb-true most so_far t)) r h
    limit_stands e (Some most) None f g r h = absurd cc
    limit_stands e None so_far f g r h = absurd cc

    stand : (s : Sort) → sort l.characters ≡ s → (r : Refusal) → Present (tests s) r → Fault before l after r
    stand directive e r (inl h) = only_where (Fault before l after) (is_none (advice_of l.characters) || not (lead_in after)) (code_at 20 l.number) (λ t. elim (or_either (is_none (advice_of l.characters)) (not (lead_in after)) t) [
      | inl x ↦ garbled e (none_is (advice_of l.characters) x)
      | inr x ↦ astray e (not_is (lead_in after) x)
    ]) r h
    stand directive e r (inr h) = absurd h
    stand comment e r h = absurd h
    stand continuation e r (inl h) = only_where (Fault before l after) (is_none (continuations before)) (code_at 1 l.number) (λ t. alone e (none_is (continuations before) t)) r h
    stand continuation e r (inr (inl h)) = only_where (Fault before l after) (not (marked && allowed)) (code_at 2 l.number) (λ t. elim (and_not marked allowed t) [
      | inl x ↦ unmarked e x
      | inr x ↦ foreign (rw e refl) x
    ]) r h
    stand continuation e r (inr (inr (inl h))) = limit_stands e limits.continuations (continuations before) refl refl r h
    stand continuation e r (inr (inr (inr h))) = absurd h
    stand initial e r (inl h) = only_where (Fault before l after) (is_none (label_of l.characters) || not clear) (code_at 1 l.number) (λ t. elim (or_either (is_none (label_of l.characters)) (not clear) t) [
      | inl x ↦ unlabelled e (none_is (label_of l.characters) x)
      | inr x ↦ shifted e (not_is clear x)
    ]) r h
    stand initial e r (inr (inl h)) = only_where (Fault before l after) (not allowed) (code_at 2 l.number) (λ t. foreign (rw e refl) (not_is allowed t)) r h
    stand initial e r (inr (inr h)) = absurd h

    are_tested : (s : Sort) → sort l.characters ≡ s → AreTested (Fault before l after) (tests s)
    are_tested s e = record { ranked = ranked s; present = present s e; stand = stand s e }

  one : AreOne (LineFault limits)
  one before after l r q f g e = tested_one (tests before l after (sort l.characters)) r q (are_tested before l after (sort l.characters) refl) f g e

  -- how many continuation lines a statement may still have, of which it has so many
  abbrev RoomIs : Option ℕ → ℕ → Option ℕ → Type 0
  RoomIs None k room = room ≡ None
  RoomIs (Some most) k room = (room ≡ Some (most - k)) × (k ≤ most)

  -- the statement whose lines may go on
  abbrev Goes : Option ℕ → Option Lines → Type 0
  Goes None None = Unit {0}
  Goes (Some k) (Some s) = RoomIs limits.continuations k s.room
  Goes found current = ⊥

  passed : {X : Type 0} (b : Bool) (e : Refusal) (x : Result X Refusal) (y : X) → cond b (Err e) x ≡ Ok y → x ≡ Ok y
  passed true e x y h = absurd cc
  passed false e x y h = h

  ok_same : {X : Type 0} (x y : X) → ◌≡◌ {A = Result X Refusal} (Ok x) (Ok y) → x ≡ y
  ok_same x y h = cc

  -- behind an initial line, and behind a continuation
  initial_next : (p : Pass) (n : ℕ) (l : List ℕ) (label : Option ℕ) (q : Pass) → with_initial limits p n l label ≡ Ok q → (q.pending ≡ None) × Goes (Some 0) q.current
  initial_next p n l None q h = absurd cc
  initial_next p n l (Some label) q h =
      let same = ok_same _ q (passed (not (list_all is_allowed (body l))) _ _ q (passed (not (column l 6 == blank || column l 6 == nought)) _ _ q h)) in
      subst (λ (r : Pass). (r.pending ≡ None) × Goes (Some 0) r.current) same (refl, room_at_first limits.continuations)
    where
      room_at_first : (most : Option ℕ) → RoomIs most 0 most
      room_at_first None = refl
      room_at_first (Some most) = (ap Some (omega arith), omega arith)

  room_left : (most room : Option ℕ) (k : ℕ) → RoomIs most k room → not (has_room room) ≡ false → RoomIs most (k + 1) (option_map (λ count. count - 1) room)
  room_left None room k h g = rw h refl
  room_left (Some most) room k h g =
      let left : not (ltb 0 (most - k)) ≡ false = rw (h.0) at g in
      let some : 1 ≤ most - k = ltb-true 0 (most - k) (sure (ltb 0 (most - k)) left) in
      (rw (h.0) (ap Some (omega arith)), omega (arith, some))
    where
      sure : (b : Bool) → not b ≡ false → b ≡ true
      sure true h = refl
      sure false h = absurd cc

  let_by : {X : Type 0} (b : Bool) (e : Refusal) (x : Result X Refusal) (y : X) → cond b (Err e) x ≡ Ok y → b ≡ false
  let_by true e x y h = absurd cc
  let_by false e x y h = refl

  continuation_next : (p : Pass) (n : ℕ) (l : List ℕ) (found : Option ℕ) (current : Option Lines) (q : Pass) → Goes found current → with_continuation limits p n l current ≡ Ok q → (q.pending ≡ None) × Goes (option_map (λ k. k + 1) found) q.current
  continuation_next p n l found None q g h = absurd cc
  continuation_next p n l None (Some s) q g h = absurd g
  continuation_next p n l (Some k) (Some s) q g h =
      let formed = passed (not (is_between 33 126 (column l 6) && list_all is_allowed (body l))) _ _ q h in
      let same = ok_same _ q (passed (not (has_room s.room)) _ _ q formed) in
      subst (λ (r : Pass). (r.pending ≡ None) × Goes (Some (k + 1)) r.current) same (refl, room_left limits.continuations s.room k g (let_by (not (has_room s.room)) _ _ q formed))

  module _ (before : List Line) (l : Line) (after : List Line) where
    initial_tests : (p : Pass) (label : Option ℕ) → label ≡ label_of l.characters → forgotten (with_initial limits p l.number l.characters label) ≡ chosen (tests before l after initial)
    initial_tests p None h = rw (sym h) refl
    initial_tests p (Some label) h = rw (sym h) (test_more (not (clear before l after)) (code_at 1 l.number) _ _ (λ e. test_more (not (allowed before l after)) (code_at 2 l.number) [] _ (λ f. refl)))

    room_test : (most room : Option ℕ) (k : ℕ) (x : Pass) → RoomIs most k room → forgotten (cond (not (has_room room)) (limited (unwrap_or most 0) l.number) (Ok x)) ≡ chosen (limit_test before l after most (Some k) ∷ [])
    room_test None room k x h = rw h refl
    room_test (Some most) room k x h = rw (h.0, full) (test_more (leb most k) (limit_at most l.number) [] (Ok x) (λ e. refl))
      where
        full : not (ltb 0 (most - k)) ≡ leb most k
        full = elim (leb most k) as (λ t. leb most k ≡ t → not (ltb 0 (most - k)) ≡ t) [
          | true ↦ λ e. ap not (le-ltb 0 (most - k) (omega (arith, leb-true most k e)))
          | false ↦ λ e. ap not (lt-ltb 0 (most - k) (omega (arith, leb-false most k e)))
        ] refl

    continuation_tests : (p : Pass) (current : Option Lines) → Goes (continuations before) current → forgotten (with_continuation limits p l.number l.characters current) ≡ chosen (tests before l after continuation)
    continuation_tests p current g = by (continuations before) current refl g
      where
        by : (found : Option ℕ) (current : Option Lines) → continuations before ≡ found → Goes found current → forgotten (with_continuation limits p l.number l.characters current) ≡ chosen (tests before l after continuation)
        by None None e h = rw e refl
        by (Some k) None e h = absurd h
        by None (Some s) e h = absurd h
        by (Some k) (Some s) e h = rw e (test_more (not (marked before l after && allowed before l after)) (code_at 2 l.number) (limit_test before l after limits.continuations (Some k) ∷ []) _ (λ f. room_test limits.continuations s.room k _ h))

    -- an initial line, and a continuation
    initial_answer : (p : Pass) (next : Pass → Result (List Lines) Refusal) → sort l.characters ≡ initial → ((q : Pass) → q.pending ≡ None → Goes (continuations (l ∷ before)) q.current → IsAnswer (LineFault limits) (l ∷ before) after (next q)) → IsAnswer (LineFault limits) before (l ∷ after) (with_initial limits p l.number l.characters (label_of l.characters) >>= next)
    initial_answer p next e rest =
        answer_more (LineFault limits) before after l (with_initial limits p l.number l.characters (label_of l.characters)) next (tested (tests before l after initial) _ (are_tested before l after initial e) (initial_tests p (label_of l.characters) refl))
        (λ q h. let i = initial_next p l.number l.characters (label_of l.characters) q h in rest q i.0 (rw e (i.1)))

    continuation_answer : (p : Pass) (next : Pass → Result (List Lines) Refusal) → sort l.characters ≡ continuation → Goes (continuations before) p.current → ((q : Pass) → q.pending ≡ None → Goes (continuations (l ∷ before)) q.current → IsAnswer (LineFault limits) (l ∷ before) after (next q)) → IsAnswer (LineFault limits) before (l ∷ after) (with_continuation limits p l.number l.characters p.current >>= next)
    continuation_answer p next e g rest =
        answer_more (LineFault limits) before after l (with_continuation limits p l.number l.characters p.current) next (tested (tests before l after continuation) _ (are_tested before l after continuation e) (continuation_tests p p.current g))
        (λ q h. let i = continuation_next p l.number l.characters (continuations before) p.current q g h in rest q i.0 (rw e (i.1)))

    none_in_comment : sort l.characters ≡ comment → HasNone (LineFault limits before l after)
    none_in_comment e = λ r f. present before l after comment e r f

    -- a directive: what it says is told, and an initial line comes next
    directive_tests : (advice : Option Advice) → advice ≡ advice_of l.characters → lead_in after ≡ true → (p : Pass) → forgotten (with_directive p l.number advice) ≡ chosen (tests before l after directive)
    directive_tests None h e p = rw (sym h) refl
    directive_tests (Some advice) h e p = rw (sym h, e) refl

    astray_first : {B : Type 0} (answer : Result B Refusal) → sort l.characters ≡ directive → lead_in after ≡ false → answer ≡ refused 20 l.number → IsAnswer (LineFault limits) before (l ∷ after) answer
    astray_first {B} answer e f h =
        let least : IsLeast (LineFault limits before l after) (code_at 20 l.number) = tested {B = B} (tests before l after directive) (refused 20 l.number) (are_tested before l after directive e) (rw f (led (is_none (advice_of l.characters)))) in
        subst (IsAnswer (LineFault limits) before (l ∷ after)) (sym h) (inl least)
      where
        led : (b : Bool) → Err (code_at 20 l.number) ≡ chosen (when (b || true) (code_at 20 l.number) ∷ [])
        led true = refl
        led false = refl

    directive_next : (p : Pass) (advice : Option Advice) (q : Pass) → with_directive p l.number advice ≡ Ok q → (d : Directive) × (q.pending ≡ Some d) × (d.line ≡ l.number)
    directive_next p None q h = absurd cc
    directive_next p (Some advice) q h = (record { advice = advice; line = l.number }, ap (λ (r : Pass). r.pending) (sym (ok_same _ q h)), refl)

  -- what the next line is to the pass, by its sort
  abbrev by_sort : Pass → ℕ → List ℕ → Sort → Result Pass Refusal
  by_sort p n l directive = behind_directive p.pending (with_directive p n (advice_of l))
  by_sort p n l comment = Ok p
  by_sort p n l continuation = behind_directive p.pending (with_continuation limits p n l p.current)
  by_sort p n l initial = with_initial limits p n l (label_of l)

  line_sort : (p : Pass) (n : ℕ) (l : List ℕ) → with_line limits p n l ≡ by_sort p n l (sort l)
  unfolding with_line
  line_sort p n l = by (is_directive l) (is_comment l) (is_continuation l)
    where
      by : (a b c : Bool) → cond a (by_sort p n l directive) (cond b (by_sort p n l comment) (cond c (by_sort p n l continuation) (by_sort p n l initial))) ≡ by_sort p n l (cond a directive (cond b comment (cond c continuation initial)))
      by true b c = refl
      by false true c = refl
      by false false true = refl
      by false false false = refl

  abbrev over : Pass → ℕ → List (List ℕ) → Result (List Lines) Refusal
  over p n ls = pass_over limits p n ls

  abbrev at_number : ℕ → List ℕ → Line
  at_number n l = record { number = n; characters = without_cr l }

  -- one line more, where it isn't `$DATA`
  over_more : (p : Pass) (n : ℕ) (l : List ℕ) (ls : List (List ℕ)) (s : Sort) → is_data (without_cr l) ≡ false → sort (without_cr l) ≡ s → over p n (l ∷ ls) ≡ (by_sort p n (without_cr l) s >>= λ q. over q (next_number n) ls)
  unfolding pass_over
  over_more p n l ls s d e = rw d (ap (λ r. r >>= λ q. over q (next_number n) ls) (line_sort p n (without_cr l) ∙ ap (by_sort p n (without_cr l)) e))

  over_data : (p : Pass) (n : ℕ) (l : List ℕ) (ls : List (List ℕ)) → is_data (without_cr l) ≡ true → over p n (l ∷ ls) ≡ ended p p.pending
  unfolding pass_over
  over_data p n l ls d = rw d refl

  over_none : (p : Pass) (n : ℕ) → over p n [] ≡ ended p p.pending
  unfolding pass_over
  over_none p n = refl

  numbered_data : (n : ℕ) (l : List ℕ) (ls : List (List ℕ)) → is_data (without_cr l) ≡ true → numbered n (l ∷ ls) ≡ []
  numbered_data n l ls d = rw d refl

  numbered_more : (n : ℕ) (l : List ℕ) (ls : List (List ℕ)) → is_data (without_cr l) ≡ false → numbered n (l ∷ ls) ≡ at_number n l ∷ numbered (next_number n) ls
  numbered_more n l ls d = rw d refl

  -- the answer to the lines from here on, where no directive waits; and where one does
  abbrev Plain : List Line → ℕ → List (List ℕ) → Type 0
  Plain before n ls = (p : Pass) → p.pending ≡ None → Goes (continuations before) p.current → IsAnswer (LineFault limits) before (numbered n ls) (over p n ls)

  abbrev Led : List Line → ℕ → List (List ℕ) → Type 0
  Led before n ls = (p : Pass) (d : Directive) → p.pending ≡ Some d → (lead_in (numbered n ls) ≡ true → IsAnswer (LineFault limits) before (numbered n ls) (over p n ls)) × (lead_in (numbered n ls) ≡ false → over p n ls ≡ refused 20 d.line)

  module _ (before : List Line) (n : ℕ) (l : List ℕ) (ls : List (List ℕ)) (plain : Plain (at_number n l ∷ before) (next_number n) ls) (led : Led (at_number n l ∷ before) (next_number n) ls) (no_data : is_data (without_cr l) ≡ false) where
    abbrev here : Line
    here = at_number n l

    abbrev after : List Line
    after = numbered (next_number n) ls

    abbrev Answered : Pass → Type 0
    Answered p = IsAnswer (LineFault limits) before (here ∷ after) (over p n (l ∷ ls))

    by_step : (p : Pass) (s : Sort) → sort (without_cr l) ≡ s → IsAnswer (LineFault limits) before (here ∷ after) (by_sort p n (without_cr l) s >>= λ q. over q (next_number n) ls) → Answered p
    by_step p s e h = subst (IsAnswer (LineFault limits) before (here ∷ after)) (sym (over_more p n l ls s no_data e)) h

    initial_line : (p : Pass) → sort (without_cr l) ≡ initial → Answered p
    initial_line p e = by_step p initial e (initial_answer before here after p (λ q. over q (next_number n) ls) e (λ q h g. plain q h g))

    -- a directive before lines
    directive_line : (p : Pass) → p.pending ≡ None → sort (without_cr l) ≡ directive → Answered p
    directive_line p h e = by_step p directive e (rw h (from (advice_of (without_cr l)) refl (lead_in after) refl))
      where
        from : (advice : Option Advice) → advice ≡ advice_of (without_cr l) → (b : Bool) → lead_in after ≡ b → IsAnswer (LineFault limits) before (here ∷ after) (with_directive p n advice >>= λ q. over q (next_number n) ls)
        from advice f true g = answer_more (LineFault limits) before after here (with_directive p n advice) (λ q. over q (next_number n) ls) (tested (tests before here after directive) _ (are_tested before here after directive e) (directive_tests before here after advice f g p))
            (λ q k. let d = directive_next before here after p advice q k in (led q d.0 d.1).0 g)
        from None f false g = astray_first before here after {B = List Lines} (refused 20 n) e g refl
        from (Some advice) f false g =
            let q : Pass = record { done = flushed p; current = None; pending = Some (record { advice = advice; line = n }) } in
            astray_first before here after (over q (next_number n) ls) e g ((led q (record { advice = advice; line = n }) refl).1 g)

    comment_line : (p : Pass) → sort (without_cr l) ≡ comment → IsAnswer (LineFault limits) (here ∷ before) after (over p (next_number n) ls) → Answered p
    comment_line p e h = by_step p comment e (answer_behind (LineFault limits) before after here (over p (next_number n) ls) (none_in_comment before here after e) h)

    plain_line : (p : Pass) → p.pending ≡ None → Goes (continuations before) p.current → (s : Sort) → sort (without_cr l) ≡ s → Answered p
    plain_line p h g directive e = directive_line p h e
    plain_line p h g comment e = comment_line p e (plain p h (rw e g))
    plain_line p h g continuation e = by_step p continuation e (rw h (continuation_answer before here after p (λ q. over q (next_number n) ls) e g (λ q i k. plain q i k)))
    plain_line p h g initial e = initial_line p e

    led_line : (p : Pass) (d : Directive) → p.pending ≡ Some d → (s : Sort) → sort (without_cr l) ≡ s → (lead_in (here ∷ after) ≡ true → Answered p) × (lead_in (here ∷ after) ≡ false → over p n (l ∷ ls) ≡ refused 20 d.line)
    led_line p d h directive e = (λ f. let never : false ≡ true = rw e at f in absurd cc, λ f. over_more p n l ls directive no_data e ∙ rw h refl)
    led_line p d h comment e = (λ f. comment_line p e ((led p d h).0 (rw e at f)), λ f. over_more p n l ls comment no_data e ∙ (led p d h).1 (rw e at f))
    led_line p d h continuation e = (λ f. let never : false ≡ true = rw e at f in absurd cc, λ f. over_more p n l ls continuation no_data e ∙ rw h refl)
    led_line p d h initial e = (λ f. initial_line p e, λ f. let never : true ≡ false = rw e at f in absurd cc)

  walked : (ls : List (List ℕ)) (before : List Line) (n : ℕ) → Plain before n ls × Led before n ls
  walked [] before n = (λ p h g. subst (λ (r : Result (List Lines) Refusal). IsAnswer (LineFault limits) before [] r) (sym (over_none p n ∙ ap (ended p) h)) tt, λ p d h. (λ f. absurd cc, λ f. over_none p n ∙ ap (ended p) h))
  walked (l ∷ ls) before n = elim (is_data (without_cr l)) as (λ t. is_data (without_cr l) ≡ t → Plain before n (l ∷ ls) × Led before n (l ∷ ls)) [
    | true ↦ λ d. at_data d
    | false ↦ λ d. let rest = walked ls (at_number n l ∷ before) (next_number n) in at_line d rest.0 rest.1
  ] refl
    where
      at_data : is_data (without_cr l) ≡ true → Plain before n (l ∷ ls) × Led before n (l ∷ ls)
      at_data d = (
        λ p h g. rw (numbered_data n l ls d, over_data p n l ls d, h) tt,
        λ p q h. (λ f. let never : false ≡ true = rw (numbered_data n l ls d) at f in absurd cc, λ f. over_data p n l ls d ∙ ap (ended p) h),
      )

      at_line : is_data (without_cr l) ≡ false → Plain (at_number n l ∷ before) (next_number n) ls → Led (at_number n l ∷ before) (next_number n) ls → Plain before n (l ∷ ls) × Led before n (l ∷ ls)
      at_line d plain led = (
        λ p h g. subst (λ all. IsAnswer (LineFault limits) before all (over p n (l ∷ ls))) (sym (numbered_more n l ls d)) (plain_line before n l ls plain led d p h g (sort (without_cr l)) refl),
        λ p q h. let r = led_line before n l ls plain led d p q h (sort (without_cr l)) refl in subst (λ all. (lead_in all ≡ true → IsAnswer (LineFault limits) before all (over p n (l ∷ ls))) × (lead_in all ≡ false → over p n (l ∷ ls) ≡ refused 20 q.line)) (sym (numbered_more n l ls d)) r,
      )

-- the answer to the lines of a text is the first fault, where there is one
pub lines_answer : LinesAnswer
lines_answer limits bytes = (walked limits (cut_lines bytes) [] 1).0 start refl tt

pub lines_refused : LinesRefused
lines_refused limits bytes r f = first_refused (LineFault limits) [] (lines_in bytes) (lines_of limits bytes) r (all_single (LineFault limits) (one limits) [] (lines_in bytes)) (lines_answer limits bytes) f

pub lines_accepted : LinesAccepted
lines_accepted limits bytes f = none_answered (LineFault limits) [] (lines_in bytes) (lines_of limits bytes) (lines_answer limits bytes) f
