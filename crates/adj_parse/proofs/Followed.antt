-- The chain of faults: what it lets through is derived, and what is derived it refuses for its size alone.
use Rattle.std.proofs.Common.{◌≡◌, ℕ, Bool, true, false, cond, List, [], ◌∷◌, Option, Some, None, Result, Ok, Err, refl, sym, ap, subst, ◌∙◌, ◌⊎◌, inl, inr}
use Rattle.std.proofs.Math.Dec.{eqb-suc-zero}
use Rattle.std.proofs.lemmas.Bool.{or_parts}
use Rattle.std.specs.Prelude.{◌==◌, ◌&&◌, ◌||◌, not, is_none, nat_le, length, unwrap_or}
use Rattle.adj_tree.specs.Code.{Mark, unmarked, with_count, count_from}
use Rattle.adj_tree.specs.Common.{Shared}
use Rattle.adj_tree.specs.View.{mark_of}
use Rattle.adj_tree.specs.declared.fault.Refusal.{Refusal}
use Rattle.adj_parse_expression.specs.declared.flaw.Flaw.{Flaw}
use Rattle.adj_parse_expression.specs.declared.flaw.Flaw.TheVariants.{Large, Deep}
use Rattle.def_text.specs.Form as forms
use Rattle.def_text.specs.Form.{Form, Statement, at, ReadsForm, subroutine, ends}
use Rattle.def_text.specs.Reads as texts
use Rattle.def_text.specs.Reads.{ReadsAll}
use Rattle.def_text.specs.Refused.{◌>>=◌, limited}
use Rattle.def_text.specs.Lexeme.{Lexeme, lexemes_of}
use Rattle.def_text.specs.declared.mode.Mode.{Mode}
use Rattle.def_text.specs.declared.stated.Kind.{Kind}
use Rattle.def_text.specs.declared.stated.Kind.TheVariants.{Do, Assign, Call}
use Rattle.def_text.specs.declared.stated.Stated.{Stated}
use Rattle.adj_parse.specs.Order.{breaks_loop, is_end, is_heading, opens_block}
use Rattle.adj_parse_statement.specs.Said.{said}
use Rattle.adj_parse.specs.Trees.{bounds_of, State, is_do, is_marked, is_call, has_stray_mark, is_large, is_deep, is_full, IsBeyond, with_form, is_astray, checked, behind, follow, trees_from}
use Rattle.adj_parse.specs.Unit.{Current, followed, open_blocks, is_misplaced}
use Rattle.def_text.proofs.LinesMarked.{bind_ok}
use Rattle.adj_parse.proofs.Truths.{and_false}
use Rattle.adj_parse.proofs.Machine.{picked, kind_of, stands, units_of, run}
use Rattle.adj_parse_statement.proofs.FormsFit.{said_fits}
use Rattle.adj_parse_statement.proofs.SaidForms.{said_reads, said_answers}
use Rattle.adj_parse.proofs.UnitsFit.{AreFit}

-- a statement stands as its form does
same_place : {mark : Mark} {kind : Kind} {lexemes : List Lexeme} {f : Form} → ReadsForm mark kind lexemes f → (l : ℕ) (current : Option Current) → stands kind l current ≡ stands (kind_of f) l current
same_place (forms.ReadsForm.heading d) l c = refl
same_place forms.ReadsForm.implicit l c = refl
same_place (forms.ReadsForm.declaration d) l c = refl
same_place (forms.ReadsForm.shared d) l c = refl
same_place (forms.ReadsForm.assigned d) l c = refl
same_place (forms.ReadsForm.calls d) l c = calls_place l c
  where
    calls_place : (l : ℕ) (c : Option Current) → stands Call l c ≡ stands Assign l c
    calls_place l None = refl
    calls_place l (Some c) = refl
same_place (forms.ReadsForm.guarded d e) l c = refl
same_place (forms.ReadsForm.begins d) l c = refl
same_place (forms.ReadsForm.repeats d) l c = refl
same_place forms.ReadsForm.finished l c = refl
same_place forms.ReadsForm.continued l c = refl
same_place (forms.ReadsForm.tests d) l c = refl
same_place forms.ReadsForm.turns l c = refl
same_place (forms.ReadsForm.tests_again d) l c = refl
same_place forms.ReadsForm.closed l c = refl
same_place forms.ReadsForm.returned l c = refl
same_place forms.ReadsForm.ended l c = refl

-- what a test let through
pub let_through : (b : Bool) (e : Refusal) (x : Result Form Refusal) (f : Form) → cond b (Err e) x ≡ Ok f → (b ≡ false) × (x ≡ Ok f)
let_through true e x f h = absurd cc
let_through false e x f h = (refl, h)

pub with_form-ok : (found : Option (Result Form Flaw)) (line : ℕ) (f : Form) → with_form found line ≡ Ok f → found ≡ Some (Ok f)
with_form-ok None line f h = absurd cc
with_form-ok (Some (Ok g)) line f h = cc
with_form-ok (Some (Err e)) line f h = absurd cc

-- what a statement that is let through has
record Through (s : State) (t : Stated) (left : ℕ) (found : Option (Result Form Flaw)) (f : Form) : Type 0 where
  says : found ≡ Some (Ok f)
  led : has_stray_mark t ≡ false
  place : is_misplaced t.kind s.units.current ≡ false
  end : ((left == 0) && not (is_end t.kind)) ≡ false
  breaks : breaks_loop t.kind t.label (open_blocks s.units.current) ≡ false

through : (mode : Mode) (s : State) (t : Stated) (left : ℕ) (found : Option (Result Form Flaw)) (f : Form) → checked (bounds_of mode) s t left found ≡ Ok f → Through s t left found f
through mode s t left found f h =
    let misplaced = is_misplaced t.kind s.units.current in
    let cut_off = (left == 0) && not (is_end t.kind) in
    let broken = breaks_loop t.kind t.label (open_blocks s.units.current) in
    let too_many = is_heading t.kind && is_full (bounds_of mode).units (length s.units.done) in
    let too_nested = opens_block t.kind && nat_le (bounds_of mode).nesting (length (open_blocks s.units.current)) in
    let a = let_through (has_stray_mark t) _ _ f h in
    let b = let_through (is_none found || (misplaced || cut_off)) _ _ f a.1 in
    let c = let_through (is_large found) _ _ f b.1 in
    let d = let_through broken _ _ f c.1 in
    let e = let_through too_many _ _ f d.1 in
    let g = let_through (s.room == 0) _ _ f e.1 in
    let i = let_through (is_deep found) _ _ f g.1 in
    let j = let_through too_nested _ _ f i.1 in
    let right = or_parts misplaced cut_off (or_parts (is_none found) (misplaced || cut_off) b.0).1 in
    record { says = with_form-ok found t.line f j.1; led = a.0; place = right.0; end = right.1; breaks = d.0 }

-- the answer, or a refusal of a literal or for a limit
abbrev Comes : {A : Type 0} → A → Result A Refusal → Type 0
Comes x r = (r ≡ Ok x) ⊎ IsBeyond r

limits_or : {A : Type 0} (x : A) (b : Bool) (limit line : ℕ) (r : Result A Refusal) → Comes x r → Comes x (cond b (limited limit line) r)
limits_or x true limit line r h = inr (record { code = 21; line = line; number = limit }, refl, inr refl)
limits_or x false limit line r h = h

-- what stands rightly and is derived is let through, or refused for its size
comes : (mode : Mode) (s : State) (t : Stated) (left : ℕ) (found : Option (Result Form Flaw)) (f : Form) → has_stray_mark t ≡ false → is_astray t left s.units.current ≡ false → breaks_loop t.kind t.label (open_blocks s.units.current) ≡ false → (found ≡ Some (Ok f)) ⊎ ((found ≡ Some (Err Large)) ⊎ (found ≡ Some (Err Deep))) → Comes f (checked (bounds_of mode) s t left found)
comes mode s t left found f led place breaks says =
    let nested = opens_block t.kind && nat_le (bounds_of mode).nesting (length (open_blocks s.units.current)) in
    let many = is_heading t.kind && is_full (bounds_of mode).units (length s.units.done) in
    let limited_first : (r : Result Form Refusal) → Comes f r → Comes f (cond many (limited (unwrap_or (bounds_of mode).units 0) t.line) (cond (s.room == 0) (limited (bounds_of mode).statements t.line) r)) =
    λ r h. limits_or f many (unwrap_or (bounds_of mode).units 0) t.line _ (limits_or f (s.room == 0) (bounds_of mode).statements t.line r h) in
    elim says [
      | inl e ↦ rw (e, led, place, breaks) (limited_first _ (limits_or f nested (bounds_of mode).nesting t.line (Ok f) (inl refl)))
      | inr (inl e) ↦ rw (e, led, place) (inr (record { code = 5; line = t.line; number = 0 }, refl, inl refl))
      | inr (inr e) ↦ rw (e, led, place, breaks) (limited_first _ (inr (record { code = 21; line = t.line; number = (bounds_of mode).depth }, refl, inr refl)))
    ]

-- the lexemes of a statement
abbrev lexemes : Stated → List Lexeme
lexemes t = lexemes_of t.text t.tokens

sure : (b : Bool) → (true && not b) ≡ false → b ≡ true
sure true h = refl
sure false h = absurd cc

pub not_both : (a b : Bool) → (not a && not b) ≡ true → (a ≡ false) × (b ≡ false)
not_both true b h = absurd cc
not_both false true h = absurd cc
not_both false false h = (refl, refl)

pub either : (a b : Bool) → (a && not b) ≡ false → (a ≡ false) ⊎ (b ≡ true)
either false b h = inl refl
either true true h = inr refl
either true false h = absurd cc

pub no_mark : (m : Mark) → is_marked m ≡ false → m ≡ unmarked
no_mark unmarked h = refl
no_mark (with_count n) h = absurd cc
no_mark (count_from x) h = absurd cc

pub is_do_is : (kind : Kind) → is_do kind ≡ true → kind ≡ Do
is_do_is Do h = refl
is_do_is kind h = absurd cc

is_call_is : (kind : Kind) → is_call kind ≡ true → kind ≡ Call
is_call_is Call h = refl
is_call_is kind h = absurd cc

-- neither kind of directive stands before a statement of another kind
stray_parts : (t : Stated) → has_stray_mark t ≡ false → ((is_marked (mark_of t.mark) && not (is_do t.kind)) ≡ false) × ((t.split && not (is_call t.kind)) ≡ false)
stray_parts t h = or_parts (is_marked (mark_of t.mark) && not (is_do t.kind)) (t.split && not (is_call t.kind)) h

pub led_by : (t : Stated) → has_stray_mark t ≡ false → (mark_of t.mark ≡ unmarked) ⊎ (t.kind ≡ Do)
led_by t h = elim (either (is_marked (mark_of t.mark)) (is_do t.kind) (stray_parts t h).0) [ inl e ↦ inl (no_mark (mark_of t.mark) e) | inr e ↦ inr (is_do_is t.kind e) ]

pub split_by : (t : Stated) → has_stray_mark t ≡ false → (t.split ≡ false) ⊎ (t.kind ≡ Call)
split_by t h = elim (either t.split (is_call t.kind) (stray_parts t h).1) [ inl e ↦ inl e | inr e ↦ inr (is_call_is t.kind e) ]

not_split : (t : Stated) → (t.split ≡ false) ⊎ (t.kind ≡ Call) → (t.split && not (is_call t.kind)) ≡ false
not_split t (inl e) = rw e refl
not_split t (inr e) = rw e (and_false t.split)

led_form : {mark : Mark} {kind : Kind} {ws : List Lexeme} {f : Form} → ReadsForm mark kind ws f → (is_marked mark && not (is_do kind)) ≡ false
led_form (forms.ReadsForm.heading d) = refl
led_form forms.ReadsForm.implicit = refl
led_form (forms.ReadsForm.declaration d) = refl
led_form (forms.ReadsForm.shared d) = refl
led_form (forms.ReadsForm.assigned d) = refl
led_form (forms.ReadsForm.calls d) = refl
led_form (forms.ReadsForm.guarded d e) = refl
led_form (forms.ReadsForm.begins {mark = mark} d) = and_false (is_marked mark)
led_form (forms.ReadsForm.repeats d) = refl
led_form forms.ReadsForm.finished = refl
led_form forms.ReadsForm.continued = refl
led_form (forms.ReadsForm.tests d) = refl
led_form forms.ReadsForm.turns = refl
led_form (forms.ReadsForm.tests_again d) = refl
led_form forms.ReadsForm.closed = refl
led_form forms.ReadsForm.returned = refl
led_form forms.ReadsForm.ended = refl

-- where a statement is derived, its directive has its place
pub never_stray : (t : Stated) {f : Form} → (t.split ≡ false) ⊎ (t.kind ≡ Call) → ReadsForm (mark_of t.mark) t.kind (lexemes t) f → has_stray_mark t ≡ false
never_stray t split d = rw (led_form d, not_split t split) refl

-- END is END, and closes the unit
same_end : {mark : Mark} {kind : Kind} {ws : List Lexeme} {f : Form} → ReadsForm mark kind ws f → is_end kind ≡ is_end (kind_of f)
same_end (forms.ReadsForm.heading d) = refl
same_end forms.ReadsForm.implicit = refl
same_end (forms.ReadsForm.declaration d) = refl
same_end (forms.ReadsForm.shared d) = refl
same_end (forms.ReadsForm.assigned d) = refl
same_end (forms.ReadsForm.calls d) = refl
same_end (forms.ReadsForm.guarded d e) = refl
same_end (forms.ReadsForm.begins d) = refl
same_end (forms.ReadsForm.repeats d) = refl
same_end forms.ReadsForm.finished = refl
same_end forms.ReadsForm.continued = refl
same_end (forms.ReadsForm.tests d) = refl
same_end forms.ReadsForm.turns = refl
same_end (forms.ReadsForm.tests_again d) = refl
same_end forms.ReadsForm.closed = refl
same_end forms.ReadsForm.returned = refl
same_end forms.ReadsForm.ended = refl

-- behind END no unit is open
end_closes : (done : List Shared) (current : Option Current) (n l : ℕ) (f : Form) → is_end (kind_of f) ≡ true → (followed done current n l f).current ≡ None
end_closes done None n l ends h = refl
end_closes done (Some c) n l ends h = refl
end_closes done current n l f h = absurd cc

-- a statement behind which no unit is open, and which stands where it may, is END
closes_end : (done : List Shared) (current : Option Current) (n l : ℕ) (f : Form) → stands (kind_of f) l current ≡ true → (followed done current n l f).current ≡ None → is_end (kind_of f) ≡ true
closes_end done (Some c) n l ends p h = refl
closes_end done (Some c) n l f p h = absurd cc
closes_end done None n l (subroutine x dummies) p h = absurd cc
closes_end done None n l f p h = absurd cc

units_none : (done : List Shared) (current : Option Current) (ps : List Shared) → units_of done current ≡ Some ps → current ≡ None
units_none done None ps h = refl
units_none done (Some c) ps h = absurd cc

pub units_done : (done : List Shared) (current : Option Current) (ps : List Shared) → units_of done current ≡ Some ps → done ≡ ps
units_done done None ps h = cc
units_done done (Some c) ps h = absurd cc

module _ (mode : Mode) where
  -- each of some statements says what stands here, and its directive has its place
  pub data AllSay : List Stated → List Statement → Type 0 where
    none : AllSay [] []
    more : {t : Stated} {ts : List Stated} {f : Form} {ss : List Statement} → said (bounds_of mode).depth (mark_of t.mark) t.kind (lexemes t) ≡ Some (Ok f) → has_stray_mark t ≡ false → AllSay ts ss → AllSay (t ∷ ts) (at t.line t.label f ∷ ss)

  pub reads_all : {ts : List Stated} {ss : List Statement} → AllSay ts ss → ReadsAll ts ss
  reads_all none = texts.ReadsAll.none
  reads_all (more {t = t} {f = f} e led rest) = texts.ReadsAll.more (split_by t led) (said_reads (bounds_of mode).depth (mark_of t.mark) t.kind (lexemes t) f e (led_by t led)) (reads_all rest)

  pub all_fit : {ts : List Stated} {ss : List Statement} → AllSay ts ss → AreFit ss
  all_fit none = tt
  all_fit (more {t = t} {f = f} e led rest) = (said_fits (bounds_of mode).depth (mark_of t.mark) t.kind (lexemes t) f e, all_fit rest)

  abbrev found : Stated → Option (Result Form Flaw)
  found t = said (bounds_of mode).depth (mark_of t.mark) t.kind (lexemes t)

  -- where no statement is left, no unit is open
  abbrev pub Closed : List Stated → State → Type 0
  Closed [] s = s.units.current ≡ None
  Closed (t ∷ ts) s = Unit {0}

  -- what the chain answers, the machine answers for what the statements say
  pub chain_runs : (ts : List Stated) (s : State) (ps : List Shared) → Closed ts s → trees_from mode s ts ≡ Ok ps → (ss : List Statement) × AllSay ts ss × (run s.units ss ≡ Some ps)
  unfolding trees_from follow run
  chain_runs [] s ps closed h = let same : s.units.done ≡ ps = cc in ([], none, rw closed (ap Some same))
  chain_runs (t ∷ ts) s ps closed h =
      let a = bind_ok (follow mode s t (length ts)) (λ next. trees_from mode next ts) ps h in
      let b = bind_ok (checked (bounds_of mode) s t (length ts) (found t)) (λ f. Ok (behind s t f)) a.0 a.1 in
      let f : Form = b.0 in
      let thr = through mode s t (length ts) (found t) f b.1 in
      let here : behind s t f ≡ a.0 = cc (b.2) in
      let d = said_reads (bounds_of mode).depth (mark_of t.mark) t.kind (lexemes t) f thr.says (led_by t thr.led) in
      let rest = chain_runs ts (behind s t f) ps (closes ts d thr.end) (ap (λ next. trees_from mode next ts) here ∙ a.2) in
      let place : stands t.kind t.label s.units.current ≡ true = rw (thr.place, thr.breaks) refl in
      let stands_so : stands (kind_of f) t.label s.units.current ≡ true = sym (same_place d t.label s.units.current) ∙ place in
      (at t.line t.label f ∷ rest.0, more thr.says thr.led rest.1, rw stands_so rest.2)
    where
      closes : {f : Form} (ts : List Stated) → ReadsForm (mark_of t.mark) t.kind (lexemes t) f → ((length ts == 0) && not (is_end t.kind)) ≡ false → Closed ts (behind s t f)
      closes {f} [] d e = end_closes s.units.done s.units.current t.line t.label f (sym (same_end d) ∙ sure (is_end t.kind) e)
      closes (u ∷ us) d e = tt

  pub chain_comes : {ts : List Stated} {ss : List Statement} → ReadsAll ts ss → (s : State) (ps : List Shared) → run s.units ss ≡ Some ps → Comes ps (trees_from mode s ts)
  unfolding trees_from follow run
  chain_comes texts.ReadsAll.none s ps h = inl (ap Ok (units_done s.units.done s.units.current ps h))
  chain_comes (texts.ReadsAll.more {s = t} {ss = ts} {f = f} {ts = ss} split d rest) s ps h =
      let step = picked (stands (kind_of f) t.label s.units.current) (run (followed s.units.done s.units.current t.line t.label f) ss) h in
      let place = not_both (is_misplaced t.kind s.units.current) (breaks_loop t.kind t.label (open_blocks s.units.current)) (same_place d t.label s.units.current ∙ step.0) in
      let right : is_astray t (length ts) s.units.current ≡ false = rw (place.0) (last_ends rest step.1) in
      elim (comes mode s t (length ts) (found t) f (never_stray t split d) right place.1 (said_answers (bounds_of mode).depth (mark_of t.mark) t.kind (lexemes t) f d)) [
        | inl e ↦ subst (Comes ps) (sym (ap (λ r. (r >>= λ g. Ok (behind s t g)) >>= λ next. trees_from mode next ts) e)) (chain_comes rest (behind s t f) ps step.1)
        | inr (r, e, code) ↦ inr (r, ap (λ q. (q >>= λ g. Ok (behind s t g)) >>= λ next. trees_from mode next ts) e, code)
      ]
    where
      last_ends : {ts : List Stated} {ss : List Statement} → ReadsAll ts ss → run (followed s.units.done s.units.current t.line t.label f) ss ≡ Some ps → ((length ts == 0) && not (is_end t.kind)) ≡ false
      last_ends texts.ReadsAll.none g =
          let ended = closes_end s.units.done s.units.current t.line t.label f (picked (stands (kind_of f) t.label s.units.current) (run (followed s.units.done s.units.current t.line t.label f) ss) h).0 (units_none _ _ ps g) in
          rw (same_end d, ended) refl
      last_ends (texts.ReadsAll.more {ss = us} own e r) g = rw (eqb-suc-zero (length us)) refl
