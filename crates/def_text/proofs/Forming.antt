-- Forming: the scan of the lines of a text gives just the statements that they form.
use Rattle.std.proofs.Common.{◌≡◌, ℕ, Bool, true, false, cond, List, [], ◌∷◌, ◌++◌, Option, Some, None, Result, Ok, Err, refl, sym, ap, subst, ◌∙◌}
use Rattle.std.specs.Prelude.{option_to_list, ◌||◌, ◌==◌, ◌&&◌, not}
use Rattle.std.specs.List.{list_all}
use Rattle.std.proofs.lemmas.List.{append-nil, append_assoc}
use Rattle.adj_tree.specs.declared.fault.Refusal.{Refusal}
use Rattle.def_text.specs.Char.{blank, nought, is_between, is_allowed, folded}
use Rattle.def_text.specs.Limits.{no_limits}
use Rattle.def_text.specs.Line.{cut_lines, column, body, without_cr, is_data, next_number, label_of, advice_of, is_directive, is_comment, is_continuation}
use Rattle.def_text.specs.Lined.{Lines, Directive, Pass, start, flushed, directive_before, has_room, one_less, with_directive, with_initial, with_continuation, behind_directive, with_line, ended, pass_over, lines_of}
use Rattle.def_text.specs.Refused.{◌>>=◌}
use Rattle.def_text.specs.declared.stated.Advice.{Advice}
use Rattle.def_text.specs.Forming as forming
use Rattle.def_text.specs.Forming.{Line, numbered, lines_in, Sort, directive, comment, continuation, initial, sort, IsInitial, IsContinued, GoesOn, LeadsTo, statement_at, FormStatements}
use Rattle.def_text.proofs.LinesMarked.{bind_ok}

-- ---- a scan on its way

-- a statement whose characters go on with these
abbrev longer : Lines → List ℕ → Lines
longer s text = record { line = s.line; label = s.label; advice = s.advice; mark_line = s.mark_line; text = s.text ++ text; room = None }

-- a statement goes on, or a directive waits for one, or neither
abbrev IsGood : Option Lines → Option Directive → Type 0
IsGood None pending = Unit {0}
IsGood (Some s) None = s.room ≡ None
IsGood (Some s) (Some d) = ⊥

-- what the lines that are left make of it
record GoesOnAs (s : Lines) (ls : List Line) (ss : List Lines) : Type 0 where
  text : List ℕ
  rest : List Line
  others : List Lines
  goes : GoesOn ls text rest
  form : FormStatements rest others
  is : ss ≡ longer s text ∷ others

record LeadsToOne (d : Directive) (ls : List Line) (ss : List Lines) : Type 0 where
  line : Line
  after : List Line
  label : ℕ
  text : List ℕ
  rest : List Line
  others : List Lines
  leads : LeadsTo ls line after
  initial_line : IsInitial line label
  goes : GoesOn after text rest
  form : FormStatements rest others
  is : ss ≡ statement_at d.advice d.line line label text ∷ others

abbrev Left : Option Lines → Option Directive → List Line → List Lines → Type 0
Left None None ls ss = FormStatements ls ss
Left (Some s) None ls ss = GoesOnAs s ls ss
Left None (Some d) ls ss = LeadsToOne d ls ss
Left (Some s) (Some d) ls ss = ⊥

-- what it gives in the end, with what is done already
record Gives (done : List Lines) (current : Option Lines) (pending : Option Directive) (ls : List Line) (ss : List Lines) : Type 0 where
  others : List Lines
  is : ss ≡ done ++ others
  left : Left current pending ls others

same_lines : (s : Lines) → s.room ≡ None → s ≡ longer s []
same_lines s h = let e : s.text ≡ s.text ++ [] = sym (append-nil s.text) in let f : None ≡ s.room = sym h in rw (h) (ap (λ t. record { line = s.line; label = s.label; advice = s.advice; mark_line = s.mark_line; text = t; room = None }) e)

-- where the current statement has ended
flush : (p : Pass) → IsGood p.current None → (ls : List Line) (ss rest : List Lines) → FormStatements ls rest → ss ≡ flushed p ++ rest → Gives p.done p.current None ls ss
flush p g ls ss rest f e = by p.current g e
  where
    by : (current : Option Lines) → IsGood current None → ss ≡ (p.done ++ option_to_list current) ++ rest → Gives p.done current None ls ss
    by None g e = record { others = rest; is = e ∙ append_assoc p.done [] rest; left = f }
    by (Some s) g e = record {
      others = s ∷ rest;
      is = e ∙ append_assoc p.done (s ∷ []) rest;
      left = record { text = []; rest = ls; others = rest; goes = forming.GoesOn.ends; form = f; is = ap (λ x. x ∷ rest) (same_lines s g) };
    }

-- ---- from the scan to the statements

-- where a test fails, what stands behind it is there
passed : {X : Type 0} (b : Bool) (e : Refusal) (x : Result X Refusal) (y : X) → cond b (Err e) x ≡ Ok y → (b ≡ false) × (x ≡ Ok y)
passed true e x y h = absurd cc
passed false e x y h = (refl, h)

ok_same : {X : Type 0} (x y : X) → ◌≡◌ {A = Result X Refusal} (Ok x) (Ok y) → x ≡ y
ok_same x y h = cc

not_false : (b : Bool) → not b ≡ false → b ≡ true
not_false true h = refl
not_false false h = absurd cc

both : (a b : Bool) → a && b ≡ true → (a ≡ true) × (b ≡ true)
both true b h = (refl, h)
both false b h = absurd cc

-- a line was scanned, and what the scan came to leaves this
record Scanned (p : Pass) (l : Line) (ls : List Line) (ss : List Lines) (q : Pass) : Type 0 where
  good : IsGood q.current q.pending
  gives : (others : List Lines) → ss ≡ q.done ++ others → Left q.current q.pending ls others → Gives p.done p.current p.pending (l ∷ ls) ss

alone : (d : Directive) (current : Option Lines) → IsGood current (Some d) → current ≡ None
alone d None h = refl
alone d (Some s) h = absurd h

module _ (l : Line) (ls : List Line) (ss : List Lines) where
  by_directive : (p : Pass) → sort l.characters ≡ directive → IsGood p.current p.pending → (q : Pass) → behind_directive p.pending (with_directive p l.number (advice_of l.characters)) ≡ Ok q → Scanned p l ls ss q
  by_directive p is g q h = by p.pending refl (advice_of l.characters) refl h
    where
      by : (pending : Option Directive) → p.pending ≡ pending → (advice : Option Advice) → advice_of l.characters ≡ advice → behind_directive pending (with_directive p l.number advice) ≡ Ok q → Scanned p l ls ss q
      by None e None f h = absurd cc
      by (Some d) e advice f h = absurd cc
      by None e (Some advice) f h =
          let same = ok_same _ q h in
          subst (Scanned p l ls ss) same (record {
            good = tt;
            gives = λ others is left.
                let one : FormStatements (l ∷ ls) others = subst (FormStatements (l ∷ ls)) (sym left.is) (forming.FormStatements.marked is_directive_line f left.leads left.initial_line left.goes left.form) in
                rw e (flush p (rw e at g) (l ∷ ls) ss others one is);
          })
        where
          is_directive_line : sort l.characters ≡ directive
          is_directive_line = is

  by_comment : (p : Pass) → sort l.characters ≡ comment → IsGood p.current p.pending → Scanned p l ls ss p
  by_comment p is g = record { good = g; gives = λ others e left. record { others = others; is = e; left = by p.current p.pending others left } }
    where
      by : (current : Option Lines) (pending : Option Directive) (others : List Lines) → Left current pending ls others → Left current pending (l ∷ ls) others
      by None None others left = forming.FormStatements.past_comment is left
      by (Some s) None others left = record { text = left.text; rest = left.rest; others = left.others; goes = forming.GoesOn.past_comment is left.goes; form = left.form; is = left.is }
      by None (Some d) others left = record {
        line = left.line;
        after = left.after;
        label = left.label;
        text = left.text;
        rest = left.rest;
        others = left.others;
        leads = forming.LeadsTo.past_comment is left.leads;
        initial_line = left.initial_line;
        goes = left.goes;
        form = left.form;
        is = left.is;
      }
      by (Some s) (Some d) others left = absurd left

  by_continuation : (p : Pass) → sort l.characters ≡ continuation → IsGood p.current p.pending → (q : Pass) → behind_directive p.pending (with_continuation no_limits p l.number l.characters p.current) ≡ Ok q → Scanned p l ls ss q
  by_continuation p is g q h = by p.current p.pending refl refl g h
    where
      by : (current : Option Lines) (pending : Option Directive) → p.current ≡ current → p.pending ≡ pending → IsGood current pending → behind_directive pending (with_continuation no_limits p l.number l.characters current) ≡ Ok q → Scanned p l ls ss q
      by current (Some d) e f g h = absurd cc
      by None None e f g h = absurd cc
      by (Some s) None e f g h =
          let formed = passed (not (is_between 33 126 (column l.characters 6) && list_all is_allowed (body l.characters))) _ _ q h in
          let are = both (is_between 33 126 (column l.characters 6)) (list_all is_allowed (body l.characters)) (not_false _ formed.0) in
          let roomy = passed (not (has_room s.room)) _ _ q formed.1 in
          let same = ok_same _ q roomy.1 in
          subst (Scanned p l ls ss) same (record {
            good = ap one_less g;
            gives = λ others at left. record {
              others = others;
              is = at;
              left = rw (e, f) (record {
                text = folded (body l.characters) ++ left.text;
                rest = left.rest;
                others = left.others;
                goes = forming.GoesOn.continued (record { is = is; sixth = are.0; allowed = are.1 }) left.goes;
                form = left.form;
                is = left.is ∙ ap (λ t. record { line = s.line; label = s.label; advice = s.advice; mark_line = s.mark_line; text = t; room = None } ∷ left.others) (append_assoc s.text (folded (body l.characters)) left.text);
              });
            };
          })

  by_initial : (p : Pass) → sort l.characters ≡ initial → IsGood p.current p.pending → (q : Pass) → with_initial no_limits p l.number l.characters (label_of l.characters) ≡ Ok q → Scanned p l ls ss q
  by_initial p is g q h = by (label_of l.characters) refl h
    where
      by : (label : Option ℕ) → label_of l.characters ≡ label → with_initial no_limits p l.number l.characters label ≡ Ok q → Scanned p l ls ss q
      by None e h = absurd cc
      by (Some label) e h =
          let first = passed (not (column l.characters 6 == blank || column l.characters 6 == nought)) _ _ q h in
          let second = passed (not (list_all is_allowed (body l.characters))) _ _ q first.1 in
          let same = ok_same _ q second.1 in
          let line : IsInitial l label = record { is = is; labelled = e; sixth = not_false _ first.0; allowed = not_false _ second.0 } in
          subst (Scanned p l ls ss) same (record { good = refl; gives = λ others at left. begins line p.pending refl others at left })
        where
          begins : IsInitial l label → (pending : Option Directive) → p.pending ≡ pending → (others : List Lines) → ss ≡ flushed p ++ others →
              GoesOnAs (record { line = l.number; label = label; advice = (directive_before pending).advice; mark_line = (directive_before pending).line; text = folded (body l.characters); room = None }) ls others → Gives p.done p.current p.pending (l ∷ ls) ss
          begins line None f others at left =
              rw f (flush p (rw f at g) (l ∷ ls) ss others (subst (FormStatements (l ∷ ls)) (sym left.is) (forming.FormStatements.statement line left.goes left.form)) at)
          begins line (Some d) f others at left =
              rw (f, alone d p.current (rw f at g)) (record {
                others = others;
                is = at ∙ (ap (λ c. (p.done ++ option_to_list c) ++ others) (alone d p.current (rw f at g)) ∙ append_assoc p.done [] others);
                left = record { line = l; after = ls; label = label; text = left.text; rest = left.rest; others = left.others; leads = forming.LeadsTo.here; initial_line = line; goes = left.goes; form = left.form; is = left.is };
              })

-- ---- the sort of a line by what the scan asks

sort_directive : (l : List ℕ) → is_directive l ≡ true → sort l ≡ directive
sort_directive l h = rw h refl

sort_comment : (l : List ℕ) → is_directive l ≡ false → is_comment l ≡ true → sort l ≡ comment
sort_comment l h g = rw (h, g) refl

sort_continuation : (l : List ℕ) → is_directive l ≡ false → is_comment l ≡ false → is_continuation l ≡ true → sort l ≡ continuation
sort_continuation l h g k = rw (h, g, k) refl

sort_initial : (l : List ℕ) → is_directive l ≡ false → is_comment l ≡ false → is_continuation l ≡ false → sort l ≡ initial
sort_initial l h g k = rw (h, g, k) refl

-- what the scan does with a line, by its sort
abbrev line_by : Sort → Pass → ℕ → List ℕ → Result Pass Refusal
line_by directive p n l = behind_directive p.pending (with_directive p n (advice_of l))
line_by comment p n l = Ok p
line_by continuation p n l = behind_directive p.pending (with_continuation no_limits p n l p.current)
line_by initial p n l = with_initial no_limits p n l (label_of l)

by_sort : (p : Pass) (n : ℕ) (l : List ℕ) → with_line no_limits p n l ≡ line_by (sort l) p n l
unfolding with_line
by_sort p n l = by (is_directive l) (is_comment l) (is_continuation l)
  where
    by : (a b c : Bool) → cond a (behind_directive p.pending (with_directive p n (advice_of l))) (cond b (Ok p) (cond c (behind_directive p.pending (with_continuation no_limits p n l p.current)) (with_initial no_limits p n l (label_of l)))) ≡ line_by (cond a directive (cond b comment (cond c continuation initial))) p n l
    by true b c = refl
    by false true c = refl
    by false false true = refl
    by false false false = refl

scanned : (l : Line) (ls : List Line) (ss : List Lines) (p : Pass) → IsGood p.current p.pending → (q : Pass) → with_line no_limits p l.number l.characters ≡ Ok q → Scanned p l ls ss q
scanned l ls ss p g q h = by (sort l.characters) refl (sym (by_sort p l.number l.characters) ∙ h)
  where
    by : (s : Sort) → sort l.characters ≡ s → line_by s p l.number l.characters ≡ Ok q → Scanned p l ls ss q
    by directive e h = by_directive l ls ss p e g q h
    by comment e h = subst (Scanned p l ls ss) (ok_same p q h) (by_comment l ls ss p e g)
    by continuation e h = by_continuation l ls ss p e g q h
    by initial e h = by_initial l ls ss p e g q h

-- the end of a text
ended_gives : (p : Pass) → IsGood p.current p.pending → (ss : List Lines) → ended p p.pending ≡ Ok ss → Gives p.done p.current p.pending [] ss
ended_gives p g ss h = by p.pending refl h
  where
    by : (pending : Option Directive) → p.pending ≡ pending → ended p pending ≡ Ok ss → Gives p.done p.current p.pending [] ss
    by (Some d) e h = absurd cc
    by None e h = let same = ok_same (flushed p) ss h in rw e (flush p (rw e at g) [] ss [] forming.FormStatements.none (sym same ∙ sym (append-nil (flushed p))))

scan_gives : (ls : List (List ℕ)) (p : Pass) (n : ℕ) (ss : List Lines) → IsGood p.current p.pending → pass_over no_limits p n ls ≡ Ok ss → Gives p.done p.current p.pending (numbered n ls) ss
unfolding pass_over
scan_gives [] p n ss g h = ended_gives p g ss h
scan_gives (l ∷ ls) p n ss g h = by (λ q good after. scan_gives ls q (next_number n) ss good after) (is_data (without_cr l)) h
  where
    by : ((q : Pass) → IsGood q.current q.pending → pass_over no_limits q (next_number n) ls ≡ Ok ss → Gives q.done q.current q.pending (numbered (next_number n) ls) ss) → (b : Bool) → cond b (ended p p.pending) (with_line no_limits p n (without_cr l) >>= λ q. pass_over no_limits q (next_number n) ls) ≡ Ok ss →
        Gives p.done p.current p.pending (cond b [] (record { number = n; characters = without_cr l } ∷ numbered (next_number n) ls)) ss
    by rest true h = ended_gives p g ss h
    by rest false h =
        let r = bind_ok (with_line no_limits p n (without_cr l)) (λ q. pass_over no_limits q (next_number n) ls) ss h in
        let s = scanned (record { number = n; characters = without_cr l }) (numbered (next_number n) ls) ss p g r.0 r.1 in
        let t = rest r.0 s.good r.2 in
        s.gives t.others t.is t.left

-- the statements that the scan gives are formed by the lines
pub lines_formed : (bytes : List ℕ) (ss : List Lines) → lines_of no_limits bytes ≡ Ok ss → FormStatements (lines_in bytes) ss
lines_formed bytes ss h = let t = scan_gives (cut_lines bytes) start 1 ss tt h in subst (FormStatements (lines_in bytes)) (sym t.is) t.left

-- ---- from the statements to the scan

-- the scan takes the line and goes on
record Takes (p : Pass) (l : Line) (ls : List Line) (others : List Lines) : Type 0 where
  next : Pass
  takes : with_line no_limits p l.number l.characters ≡ Ok next
  good : IsGood next.current next.pending
  behind : List Lines
  left : Left next.current next.pending ls behind
  is : p.done ++ others ≡ next.done ++ behind

-- the statements that lines behind a comment form
past : (l : Line) (ls : List Line) (ss : List Lines) → sort l.characters ≡ comment → FormStatements (l ∷ ls) ss → FormStatements ls ss
past l ls _ is (forming.FormStatements.past_comment also form) = form
past l ls _ is (forming.FormStatements.statement h goes form) = let never : comment ≡ initial = sym is ∙ h.is in absurd cc
past l ls _ is (forming.FormStatements.marked also advice leads h goes form) = let never : comment ≡ directive = sym is ∙ also in absurd cc

-- no lines form no statements
none_formed : (ss : List Lines) → FormStatements [] ss → ss ≡ []
none_formed _ forming.FormStatements.none = refl

module _ (p : Pass) (l : Line) (ls : List Line) (others : List Lines) where
  by_line : (s : Sort) → sort l.characters ≡ s → (q : Pass) → line_by s p l.number l.characters ≡ Ok q → with_line no_limits p l.number l.characters ≡ Ok q
  by_line s e q h = by_sort p l.number l.characters ∙ (ap (λ x. line_by x p l.number l.characters) e ∙ h)

  -- an initial line
  take_initial : (label : ℕ) → IsInitial l label → with_line no_limits p l.number l.characters ≡ Ok (record { done = flushed p; current = Some (record { line = l.number; label = label; advice = (directive_before p.pending).advice; mark_line = (directive_before p.pending).line; text = folded (body l.characters); room = None }); pending = None })
  take_initial label h = by_line initial h.is _ (rw (h.labelled, h.sixth, h.allowed) refl)

  -- a directive where none waits
  take_directive : (advice : Advice) → p.pending ≡ None → sort l.characters ≡ directive → advice_of l.characters ≡ Some advice → with_line no_limits p l.number l.characters ≡ Ok (record { done = flushed p; current = None; pending = Some (record { advice = advice; line = l.number }) })
  take_directive advice e is h = by_line directive is _ (rw (e, h) refl)

  -- a continuation line
  take_continued : (s : Lines) → p.current ≡ Some s → p.pending ≡ None → s.room ≡ None → IsContinued l →
      with_line no_limits p l.number l.characters ≡ Ok (record { done = p.done; current = Some (record { line = s.line; label = s.label; advice = s.advice; mark_line = s.mark_line; text = s.text ++ folded (body l.characters); room = one_less s.room }); pending = None })
  take_continued s e f g h = by_line continuation h.is _ (rw (f, e, h.sixth, h.allowed, g) refl)

  -- where the current statement ends, and the lines that are left form statements
  take_form : IsGood p.current None → p.pending ≡ None → (rest : List Lines) → p.done ++ others ≡ flushed p ++ rest → FormStatements (l ∷ ls) rest → (sort l.characters ≡ comment → Takes p l ls others) → Takes p l ls others
  take_form g e rest at (forming.FormStatements.past_comment is f) skip = skip is
  take_form g e _ at (forming.FormStatements.statement {label = label} {text = text} {ss = ss} h goes f) skip = record {
    next = _;
    takes = take_initial label h;
    good = refl;
    behind = _;
    left = record { text = text; rest = _; others = ss; goes = goes; form = f; is = refl };
    is = rw e at;
  }
  take_form g e _ at (forming.FormStatements.marked {advice = advice} {label = label} {text = text} {ss = ss} is says leads h goes f) skip = record {
    next = _;
    takes = take_directive advice e is says;
    good = tt;
    behind = _;
    left = record { line = _; after = _; label = label; text = text; rest = _; others = ss; leads = leads; initial_line = h; goes = goes; form = f; is = refl };
    is = at;
  }

  -- any line, as what is left says
  take : (current : Option Lines) (pending : Option Directive) → p.current ≡ current → p.pending ≡ pending → IsGood current pending → Left current pending (l ∷ ls) others → Takes p l ls others
  take None None e f g left = take_form (rw e tt) f others (ap (λ c. p.done ++ others) e ∙ rw e (ap (λ d. d ++ others) (sym (append-nil p.done)))) left (λ is. skip is left)
    where
      skip : sort l.characters ≡ comment → FormStatements (l ∷ ls) others → Takes p l ls others
      skip is form = record { next = p; takes = by_line comment is p refl; good = rw e tt; behind = others; left = rw (e, f) (past l ls others is form); is = refl }
  take (Some s) None e f g left = by left.text left.rest left.goes left.form left.is
    where
      by : (text : List ℕ) (rest : List Line) → GoesOn (l ∷ ls) text rest → FormStatements rest left.others → others ≡ longer s text ∷ left.others → Takes p l ls others
      by _ _ (forming.GoesOn.past_comment is goes) form at =
          record { next = p; takes = by_line comment is p refl; good = rw (e, f) g; behind = others; left = rw (e, f) (record { text = _; rest = _; others = left.others; goes = goes; form = form; is = at }); is = refl }
      by _ _ (forming.GoesOn.continued {text = text} h goes) form at = record {
        next = _;
        takes = take_continued s e f g h;
        good = ap one_less g;
        behind = others;
        left = record {
          text = text;
          rest = _;
          others = left.others;
          goes = goes;
          form = form;
          is = at ∙ ap (λ t. record { line = s.line; label = s.label; advice = s.advice; mark_line = s.mark_line; text = t; room = None } ∷ left.others) (sym (append_assoc s.text (folded (body l.characters)) text));
        };
        is = refl;
      }
      by _ _ forming.GoesOn.ends form at =
          take_form (rw e g) f left.others (ap (λ x. p.done ++ x) at ∙ (ap (λ x. p.done ++ (x ∷ left.others)) (sym (same_lines s g)) ∙ rw e (sym (append_assoc p.done (s ∷ []) left.others)))) form (λ is. skip is form at)
        where
          skip : sort l.characters ≡ comment → FormStatements (l ∷ ls) left.others → others ≡ longer s [] ∷ left.others → Takes p l ls others
          skip is form at =
              record { next = p; takes = by_line comment is p refl; good = rw (e, f) g; behind = others; left = rw (e, f) (record { text = []; rest = ls; others = left.others; goes = forming.GoesOn.ends; form = past l ls left.others is form; is = at }); is = refl }
  take None (Some d) e f g left = by left.line left.after left.leads left.initial_line left.goes left.is
    where
      by : (i : Line) (after : List Line) → LeadsTo (l ∷ ls) i after → IsInitial i left.label → GoesOn after left.text left.rest → others ≡ statement_at d.advice d.line i left.label left.text ∷ left.others → Takes p l ls others
      by _ _ forming.LeadsTo.here h goes at = record {
        next = _;
        takes = take_initial left.label h;
        good = refl;
        behind = others;
        left = rw f (record { text = left.text; rest = left.rest; others = left.others; goes = goes; form = left.form; is = at });
        is = rw e (ap (λ x. x ++ others) (sym (append-nil p.done)));
      }
      by i after (forming.LeadsTo.past_comment is leads) h goes at =
          record { next = p; takes = by_line comment is p refl; good = rw e tt; behind = others; left = rw (e, f) (record { line = i; after = after; label = left.label; text = left.text; rest = left.rest; others = left.others; leads = leads; initial_line = h; goes = goes; form = left.form; is = at }); is = refl }
  take (Some s) (Some d) e f g left = absurd g

leads_nowhere : (ls : List Line) (l : Line) (after : List Line) → LeadsTo ls l after → ls ≡ [] → ⊥
leads_nowhere _ _ _ forming.LeadsTo.here e = cc
leads_nowhere _ _ _ (forming.LeadsTo.past_comment is leads) e = cc

-- no line is left
ended_done : (p : Pass) → IsGood p.current p.pending → (others : List Lines) → Left p.current p.pending [] others → ended p p.pending ≡ Ok (p.done ++ others)
ended_done p g others left = by p.current p.pending refl refl g left
  where
    by : (current : Option Lines) (pending : Option Directive) → p.current ≡ current → p.pending ≡ pending → IsGood current pending → Left current pending [] others → ended p p.pending ≡ Ok (p.done ++ others)
    by None None e f g left = rw (f, e) (ap (λ x. Ok (p.done ++ x)) (sym (none_formed others left)))
    by (Some s) None e f g left = goes left.text left.rest left.goes left.form left.is
      where
        goes : (text : List ℕ) (rest : List Line) → GoesOn [] text rest → FormStatements rest left.others → others ≡ longer s text ∷ left.others → ended p p.pending ≡ Ok (p.done ++ others)
        goes _ _ forming.GoesOn.ends form at = rw (f, e) (ap (λ x. Ok (p.done ++ x)) (sym (at ∙ (ap (λ x. longer s [] ∷ x) (none_formed left.others form) ∙ ap (λ x. x ∷ []) (sym (same_lines s g))))))
    by None (Some d) e f g left = absurd (leads_nowhere [] left.line left.after left.leads refl)
    by (Some s) (Some d) e f g left = absurd g

scan_done : (ls : List (List ℕ)) (p : Pass) (n : ℕ) (others : List Lines) → IsGood p.current p.pending → Left p.current p.pending (numbered n ls) others → pass_over no_limits p n ls ≡ Ok (p.done ++ others)
unfolding pass_over
scan_done [] p n others g left = ended_done p g others left
scan_done (l ∷ ls) p n others g left = by (λ q good behind left. scan_done ls q (next_number n) behind good left) (is_data (without_cr l)) left
  where
    by : ((q : Pass) → IsGood q.current q.pending → (behind : List Lines) → Left q.current q.pending (numbered (next_number n) ls) behind → pass_over no_limits q (next_number n) ls ≡ Ok (q.done ++ behind)) →
        (b : Bool) → Left p.current p.pending (cond b [] (record { number = n; characters = without_cr l } ∷ numbered (next_number n) ls)) others →
        cond b (ended p p.pending) (with_line no_limits p n (without_cr l) >>= λ q. pass_over no_limits q (next_number n) ls) ≡ Ok (p.done ++ others)
    by rest true left = ended_done p g others left
    by rest false left =
        let t = take p (record { number = n; characters = without_cr l }) (numbered (next_number n) ls) others p.current p.pending refl refl g left in
        ap (λ x. x >>= λ q. pass_over no_limits q (next_number n) ls) t.takes ∙ (rest t.next t.good t.behind t.left ∙ ap Ok (sym t.is))

-- the statements that the lines form, the scan gives
pub formed_lines : (bytes : List ℕ) (ss : List Lines) → FormStatements (lines_in bytes) ss → lines_of no_limits bytes ≡ Ok ss
formed_lines bytes ss h = scan_done (cut_lines bytes) start 1 ss tt h
