-- TreeWalk: the chain of faults over all statements of a text answers by the first fault.
use Rattle.std.proofs.Common.{◌≡◌, ℕ, suc, true, false, cond, List, [], ◌∷◌, ◌++◌, length, Option, Some, None, Result, Ok, Err, ◌⊎◌, refl, sym, ap, subst, ◌∙◌, arith}
use Rattle.std.specs.Prelude.{◌==◌, ◌&&◌, ◌||◌, is_none, nat_le}
use Rattle.std.proofs.lemmas.Bool.{or_parts}
use Rattle.std.proofs.lemmas.List.{reverse-append, length-append}
use Rattle.adj_tree.specs.Code.{Mark}
use Rattle.adj_tree.specs.Common.{Shared}
use Rattle.adj_tree.specs.View.{mark_of}
use Rattle.adj_tree.specs.declared.fault.Refusal.{Refusal}
use Rattle.def_text.specs.Form as forms
use Rattle.def_text.specs.Form.{Form, subroutine, implicit_none, integers, common, leaves, ends, Statement, at, ReadsForm}
use Rattle.def_text.specs.Reads as texts
use Rattle.def_text.specs.Reads.{ReadsAll}
use Rattle.def_text.specs.Refused.{◌>>=◌}
use Rattle.def_text.specs.Lexeme.{Lexeme}
use Rattle.def_text.specs.declared.mode.Mode.{Mode}
use Rattle.def_text.specs.declared.stated.Kind.{Kind}
use Rattle.def_text.specs.declared.stated.Kind.TheVariants.{Call}
use Rattle.def_text.specs.declared.stated.Stated.{Stated}
use Rattle.adj_parse_statement.specs.Phrases.{phrase_of}
use Rattle.adj_parse_statement.specs.Said.{said}
use Rattle.adj_parse_statement.proofs.SaidForms.{said_reads}
use Rattle.adj_parse.specs.Order.{breaks_loop, is_end, is_heading, opens_block}
use Rattle.adj_parse.specs.Trees.{bounds_of, State, start, has_stray_mark, is_astray, is_large, is_deep, is_full, checked, behind, follow, trees_from, trees_of}
use Rattle.adj_parse.specs.Unit.{Current, finished, followed, open_blocks, is_misplaced}
use Rattle.adj_parse.proofs.Machine.{kind_of}
use Rattle.adj_parse.proofs.Followed.{let_through, with_form-ok, led_by, split_by}
use Rattle.def_refused.specs.First.{HasNone, IsAnswer}
use Rattle.def_refused.specs.Following as following
use Rattle.def_refused.specs.Following.{IsOf}
use Rattle.def_refused.specs.TreeFaults.{lexemes, TreeFault}
use Rattle.def_refused.specs.Refusals.{TreesAnswer, TreesRefused, TreesAccepted}
use Rattle.def_refused.proofs.Tests.{AreSingle, IsJudged, tested_one, answer_more, first_refused, none_answered}
use Rattle.def_refused.proofs.Places.{Inner, may_at, suits, stands_at, next_in, next_at, Leads, stood, none_open}
use Rattle.def_refused.proofs.Bridged.{place_of, stands_same, next_same}
use Rattle.def_refused.proofs.Leading.{leads_more}
use Rattle.def_refused.proofs.Continuing.{same_class}
use Rattle.def_refused.proofs.TreeTests.{Laws, IsBare, At, tests, are_tested, judged}

-- a form is one of its class
pub form_class : {mark : Mark} {kind : Kind} {ws : List Lexeme} {f : Form} → ReadsForm mark kind ws f → IsOf kind f
form_class (forms.ReadsForm.heading d) = following.IsOf.heading
form_class forms.ReadsForm.implicit = following.IsOf.implicit
form_class (forms.ReadsForm.declaration d) = following.IsOf.declaration
form_class (forms.ReadsForm.shared d) = following.IsOf.shared
form_class (forms.ReadsForm.assigned d) = following.IsOf.assigned
form_class (forms.ReadsForm.calls d) = following.IsOf.called
form_class (forms.ReadsForm.guarded d e) = following.IsOf.guarded
form_class (forms.ReadsForm.begins d) = following.IsOf.begins
form_class (forms.ReadsForm.repeats d) = following.IsOf.repeats
form_class forms.ReadsForm.finished = following.IsOf.finished
form_class forms.ReadsForm.continued = following.IsOf.continued
form_class (forms.ReadsForm.tests d) = following.IsOf.tests
form_class forms.ReadsForm.turns = following.IsOf.turns
form_class (forms.ReadsForm.tests_again d) = following.IsOf.tests_again
form_class forms.ReadsForm.closed = following.IsOf.whole
form_class forms.ReadsForm.returned = following.IsOf.returned
form_class forms.ReadsForm.ended = following.IsOf.ended

same_end : {kind : Kind} {f : Form} → IsOf kind f → is_end kind ≡ is_end (kind_of f)
same_end following.IsOf.heading = refl
same_end following.IsOf.implicit = refl
same_end following.IsOf.declaration = refl
same_end following.IsOf.shared = refl
same_end following.IsOf.assigned = refl
same_end following.IsOf.called = refl
same_end following.IsOf.guarded = refl
same_end following.IsOf.begins = refl
same_end following.IsOf.repeats = refl
same_end following.IsOf.finished = refl
same_end following.IsOf.continued = refl
same_end following.IsOf.tests = refl
same_end following.IsOf.turns = refl
same_end following.IsOf.tests_again = refl
same_end following.IsOf.whole = refl
same_end following.IsOf.returned = refl
same_end following.IsOf.ended = refl

-- what a statement that is let through has
record Through (mode : Mode) (s : State) (t : Stated) (f : Form) : Type 0 where
  says : said (bounds_of mode).depth (mark_of t.mark) t.kind (lexemes t) ≡ Some (Ok f)
  led : has_stray_mark t ≡ false
  place : is_misplaced t.kind s.units.current ≡ false
  breaks : breaks_loop t.kind t.label (open_blocks s.units.current) ≡ false

through : (mode : Mode) (s : State) (t : Stated) (left : ℕ) (f : Form) → checked (bounds_of mode) s t left (said (bounds_of mode).depth (mark_of t.mark) t.kind (lexemes t)) ≡ Ok f → Through mode s t f
through mode s t left f h =
    let found = said (bounds_of mode).depth (mark_of t.mark) t.kind (lexemes t) in
    let a = let_through (has_stray_mark t) _ _ f h in
    let b = let_through (is_none found || is_astray t left s.units.current) _ _ f a.1 in
    let c = let_through (is_large found) _ _ f b.1 in
    let d = let_through (breaks_loop t.kind t.label (open_blocks s.units.current)) _ _ f c.1 in
    let e = let_through (is_heading t.kind && is_full (bounds_of mode).units (length s.units.done)) _ _ f d.1 in
    let g = let_through (s.room == 0) _ _ f e.1 in
    let i = let_through (is_deep found) _ _ f g.1 in
    let j = let_through (opens_block t.kind && nat_le (bounds_of mode).nesting (length (open_blocks s.units.current))) _ _ f i.1 in
    record {
      says = with_form-ok found t.line f j.1;
      led = a.0;
      place = (or_parts (is_misplaced t.kind s.units.current) _ (or_parts (is_none found) _ b.0).1).0;
      breaks = d.0;
    }

-- one statement more says something
reads_more : {ts : List Stated} {ss : List Statement} (t : Stated) (f : Form) → ReadsAll ts ss → (t.split ≡ false) ⊎ (t.kind ≡ Call) → ReadsForm (mark_of t.mark) t.kind (lexemes t) f → ReadsAll (ts ++ t ∷ []) (ss ++ at t.line t.label f ∷ [])
reads_more t f texts.ReadsAll.none split d = texts.ReadsAll.more split d texts.ReadsAll.none
reads_more t f (texts.ReadsAll.more own e r) split d = texts.ReadsAll.more own e (reads_more t f r split d)

-- behind a statement that stands, RETURN has no block round it
pub next_bare : (l : ℕ) (f : Form) (w : Option Inner) → stands_at (kind_of f) l w ≡ true → IsBare w → IsBare (next_at l f w)
next_bare l (subroutine x ds) None h b = λ e. refl
next_bare l f None h b = tt
next_bare l f (Some i) h b = inner f (stood (may_at (kind_of f) i.stage) (suits (kind_of f) i.blocks) _ _ h)
  where
    inner : (f : Form) → (may_at (kind_of f) i.stage ≡ true) × (suits (kind_of f) i.blocks ≡ true) → IsBare (next_in l f i)
    inner implicit_none s = λ e. absurd cc
    inner (integers is) s = λ e. absurd cc
    inner (common b is) s = λ e. absurd cc
    inner leaves s = λ e. none_open i.blocks s.1
    inner ends s = tt
    inner f s = λ e. absurd cc

one_more : (done : List Shared) (p : Shared) → length (done ++ p ∷ []) ≡ suc (length done)
one_more done p = omega (arith, length-append done (p ∷ []))

-- and there is one unit more behind END
more_done : (done : List Shared) (c : Option Current) (n l : ℕ) (f : Form) → stands_at (kind_of f) l (place_of c) ≡ true → length (followed done c n l f).done ≡ cond (is_end (kind_of f)) (suc (length done)) (length done)
more_done done None n l (subroutine x ds) h = refl
more_done done None n l f h = absurd cc
more_done done (Some c) n l ends h = one_more done (finished c)
more_done done (Some c) n l f h = refl

module _ (laws : Laws) (mode : Mode) where
  -- what is known behind the next statement
  pub next : (before : List Stated) (s : State) (t : Stated) (left : ℕ) (f : Form) → At mode before s → checked (bounds_of mode) s t left (said (bounds_of mode).depth (mark_of t.mark) t.kind (lexemes t)) ≡ Ok f → At mode (t ∷ before) (behind s t f)
  next before s t left f here h =
      let thr = through mode s t left f h in
      let reads = said_reads (bounds_of mode).depth (mark_of t.mark) t.kind (lexemes t) f thr.says (led_by t thr.led) in
      let class = form_class reads in
      let w = place_of s.units.current in
      let stands : stands_at (kind_of f) t.label w ≡ true = sym (same_class class t.label w) ∙ stands_same t.kind t.label s.units.current ∙ rw (thr.place, thr.breaks) refl in
      record {
        statements = here.statements ++ at t.line t.label f ∷ [];
        say = subst (λ ts. ReadsAll ts (here.statements ++ at t.line t.label f ∷ [])) (sym (reverse-append (t ∷ []) before)) (reads_more t f here.say (split_by t thr.led) reads);
        leads = subst (Leads None (here.statements ++ at t.line t.label f ∷ [])) (sym (next_same s.units.done s.units.current t.line t.label f)) (leads_more None w here.statements t.line t.label f here.leads stands);
        bare = subst IsBare (sym (next_same s.units.done s.units.current t.line t.label f)) (next_bare t.label f w stands here.bare);
        room = omega (arith, here.room);
        done = more_done s.units.done s.units.current t.line t.label f stands ∙ ap (λ b. cond b (suc (length s.units.done)) (length s.units.done)) (sym (same_end class)) ∙ ap (λ n. cond (is_end t.kind) (suc n) n) here.done;
      }

  not_both : {Fault : Refusal → Type 0} {B : Type 0} (r : Result B Refusal) → IsJudged Fault r → HasNone Fault → (x : B) × (r ≡ Ok x)
  not_both (Ok x) j none = (x, refl)
  not_both (Err e) j none = absurd (none e j.stands)

  walked : (ts before : List Stated) (s : State) → At mode before s → IsAnswer (TreeFault mode) before ts (trees_from mode s ts) × AreSingle (TreeFault mode) before ts
  unfolding trees_from follow
  walked [] before s here = (tt, tt)
  walked (t ∷ ts) before s here =
      let found = checked (bounds_of mode) s t (length ts) (said (bounds_of mode).depth (mark_of t.mark) t.kind (lexemes t)) in
      let mine : IsJudged (TreeFault mode before t ts) found = judged laws mode before s t ts here in
      let rest : (f : Form) → found ≡ Ok f → IsAnswer (TreeFault mode) (t ∷ before) ts (trees_from mode (behind s t f) ts) × AreSingle (TreeFault mode) (t ∷ before) ts =
      λ f h. walked ts (t ∷ before) (behind s t f) (next before s t (length ts) f here h) in (
        regroup before t ts found (λ f. behind s t f) (answer_more (TreeFault mode) before ts t found (λ f. trees_from mode (behind s t f) ts) mine (λ f h. (rest f h).0)),
        (
          λ r q f g e. tested_one (tests laws mode before s t ts here (phrase_of t.kind (lexemes t))) r q (are_tested laws mode before s t ts here) f g e,
          λ none. let ok = not_both found mine none in (rest ok.0 ok.1).1,
        ),
      )
    where
      regroup : (before : List Stated) (t : Stated) (ts : List Stated) (found : Result Form Refusal) (after : Form → State) → IsAnswer (TreeFault mode) before (t ∷ ts) (found >>= λ f. trees_from mode (after f) ts) → IsAnswer (TreeFault mode) before (t ∷ ts) ((found >>= λ f. Ok (after f)) >>= λ s. trees_from mode s ts)
      regroup before t ts (Ok f) after h = h
      regroup before t ts (Err e) after h = h

  pub at_start : At mode [] (start mode)
  at_start = record { statements = []; say = texts.ReadsAll.none; leads = refl; bare = tt; room = omega arith; done = refl }

pub trees_answer : Laws → TreesAnswer
trees_answer laws mode stated = (walked laws mode stated [] (start mode) (at_start laws mode)).0

pub trees_refused : Laws → TreesRefused
trees_refused laws mode stated r f = let w = walked laws mode stated [] (start mode) (at_start laws mode) in first_refused (TreeFault mode) [] stated (trees_of mode stated) r w.1 w.0 f

pub trees_accepted : Laws → TreesAccepted
trees_accepted laws mode stated f = none_answered (TreeFault mode) [] stated (trees_of mode stated) (walked laws mode stated [] (start mode) (at_start laws mode)).0 f
