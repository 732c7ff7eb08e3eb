-- A program that is read in a mode is nested no deeper than the mode allows, and has no more statements and units.
use Rattle.std.proofs.Common.{◌≡◌, ◌≤◌, ℕ, ◌+◌, ◌*◌, ◌-◌, Bool, true, false, List, [], ◌∷◌, length, Option, Some, None, Result, Ok, refl, sym, ap, subst, ◌∙◌, arith, length-append}
use Rattle.std.specs.Prelude.{◌&&◌, ◌||◌, ◌==◌, not, nat_le, is_none}
use Rattle.std.specs.List.{list_all}
use Rattle.std.proofs.lemmas.Bool.{eqb-false, leb-false, or_parts, and_from}
use Rattle.adj_tree.specs.Code.{Mark, Terms, none, Runtime, Act}
use Rattle.adj_tree.specs.Common.{Shared}
use Rattle.adj_tree.specs.Size.{act_depth, IsNested}
use Rattle.adj_tree.specs.View.{mark_of}
use Rattle.adj_parse_expression.specs.declared.flaw.Flaw.{Flaw}
use Rattle.def_text.specs.Form as forms
use Rattle.def_text.specs.Form.{Form, subroutine, ends, Statement, at, ReadsForm}
use Rattle.def_text.specs.Limits.{limits_of}
use Rattle.def_text.specs.Reads as texts
use Rattle.def_text.specs.Reads.{ReadsAll}
use Rattle.def_text.specs.Stated.{statements_of}
use Rattle.def_text.specs.Statement as says
use Rattle.def_text.specs.Statement.{runtime_call, called_as, ReadsAssignment, ReadsCall, ReadsGuarded}
use Rattle.def_text.specs.Lexeme.{Lexeme, lexemes_of}
use Rattle.def_text.specs.declared.mode.Mode.{Mode}
use Rattle.def_text.specs.declared.mode.Mode.TheVariants.{Source}
use Rattle.def_text.specs.declared.stated.Kind.{Kind}
use Rattle.def_text.specs.declared.stated.Kind.TheVariants.{End}
use Rattle.def_text.specs.declared.stated.Stated.{Stated}
use Rattle.def_text.proofs.LinesMarked.{bind_ok}
use Rattle.adj_parse.specs.Order.{breaks_loop, is_end, is_heading, opens_block}
use Rattle.adj_parse.specs.Trees.{bounds_of, State, start, has_stray_mark, is_large, is_deep, is_full, checked, behind, follow, trees_from, trees_of, shared_program_of}
use Rattle.adj_parse.specs.Unit.{Current, finished, continued, followed, open_blocks, is_misplaced}
use Rattle.adj_parse.proofs.Machine.{kind_of, stands}
use Rattle.adj_parse.proofs.Followed as chain
use Rattle.adj_parse.proofs.Followed.{AllSay, Closed, reads_all, chain_runs, let_through, with_form-ok, led_by}
use Rattle.adj_parse.proofs.UnitsSound.{run_reads}
use Rattle.adj_parse_statement.specs.Said.{said}
use Rattle.def_common.specs.Source.{without_blocks}
use Rattle.def_kernel.specs.Kernel.{EachUnit}
use Rattle.def_names.specs.Fault.{source_rules}
use Rattle.def_names.specs.Check.{IsSound}
use Rattle.law_limits.specs.Rule.{keeps}
use Rattle.law_limits.specs.Kept.{short_names, shallow, acts_in, statements_in}
use Rattle.law_limits.specs.Reading.{SourceIsKept}
use Rattle.law_limits.proofs.Keeping.{units_in, shared_keeps, form_keeps, all_keep, shared_keep}
use Rattle.law_limits.proofs.SaidForms.{Laws, said_shallow}
use Rattle.law_limits.proofs.ShortStatements.{source_short, source_longer}
use Rattle.law_limits.proofs.Counts.{form_acts, all_acts, units_count}
use Rattle.adj_parse_statement.proofs.SaidForms.{said_reads}
use Rattle.law_limits.proofs.Heights.{height, opening, open_below}
use Rattle.law_limits.proofs.Nesting.{tall, stands_suits, continued_height, finished_depth, nested_behind, IsTall}
use Rattle.law_limits.proofs.Chain.{same_kind, calls_place}
use Rattle.law_limits.proofs.Lowered.{lowered_units, lowered_length, lowered_statements, shared_units_keep, lowered_shallow, lowered_nested, lowered_named}
use Rattle.law_limits.proofs.LoweredNames.{lowered_short}

-- ---- a statement is one deep where it opens a block, and else not at all

called_flat : (x : List ℕ) (es : Terms) (o : Option Runtime) → act_depth (called_as x es o) ≡ 0
called_flat x es None = refl
called_flat x es (Some r) = refl

assignment_flat : {ts : List Lexeme} {a : Act} → ReadsAssignment ts a → act_depth a ≡ 0
assignment_flat (says.assignment p d) = refl

call_flat : {ts : List Lexeme} {a : Act} → ReadsCall ts a → act_depth a ≡ 0
call_flat (says.ReadsCall.alone {x = x}) = called_flat x none (runtime_call x none)
call_flat (says.ReadsCall.empty {x = x}) = called_flat x none (runtime_call x none)
call_flat (says.ReadsCall.actuals {x = x} {es = es} d) = called_flat x es (runtime_call x es)

guarded_flat : {ts : List Lexeme} {a : Act} → ReadsGuarded ts a → act_depth a ≡ 0
guarded_flat (says.assigned d) = assignment_flat d
guarded_flat (says.calls d) = call_flat d

one_called : (x : List ℕ) (es : Terms) (o : Option Runtime) → acts_in (called_as x es o) ≤ 1
one_called x es None = omega arith
one_called x es (Some r) = omega arith

one_act : {ts : List Lexeme} {a : Act} → ReadsAssignment ts a → acts_in a ≤ 2
one_act (says.assignment p d) = omega arith

one_call : {ts : List Lexeme} {a : Act} → ReadsCall ts a → acts_in a ≤ 1
one_call (says.ReadsCall.alone {x = x}) = one_called x none (runtime_call x none)
one_call (says.ReadsCall.empty {x = x}) = one_called x none (runtime_call x none)
one_call (says.ReadsCall.actuals {x = x} {es = es} d) = one_called x es (runtime_call x es)

one_guarded : {ts : List Lexeme} {a : Act} → ReadsGuarded ts a → acts_in a ≤ 1
one_guarded (says.assigned (says.assignment p d)) = omega arith
one_guarded (says.calls d) = one_call d

abbrev count_of : Bool → ℕ
count_of true = 1
count_of false = 0

form_flat : {mark : Mark} {kind : Kind} {lexemes : List Lexeme} {f : Form} → ReadsForm mark kind lexemes f → opening f ≡ count_of (opens_block (kind_of f))
form_flat (forms.ReadsForm.heading d) = refl
form_flat forms.ReadsForm.implicit = refl
form_flat (forms.ReadsForm.declaration d) = refl
form_flat (forms.ReadsForm.shared d) = refl
form_flat (forms.ReadsForm.assigned d) = assignment_flat d
form_flat (forms.ReadsForm.calls d) = call_flat d
form_flat (forms.ReadsForm.guarded d g) = ap (λ k. k + 1) (guarded_flat g)
form_flat (forms.ReadsForm.begins d) = refl
form_flat (forms.ReadsForm.repeats d) = refl
form_flat forms.ReadsForm.finished = refl
form_flat forms.ReadsForm.continued = refl
form_flat (forms.ReadsForm.tests d) = refl
form_flat forms.ReadsForm.turns = refl
form_flat (forms.ReadsForm.tests_again d) = refl
form_flat forms.ReadsForm.closed = refl
form_flat forms.ReadsForm.returned = refl
form_flat forms.ReadsForm.ended = refl

-- ---- what a statement that is let through has

record Through (mode : Mode) (s : State) (t : Stated) (found : Option (Result Form Flaw)) (f : Form) : Type 0 where
  says : found ≡ Some (Ok f)
  led : has_stray_mark t ≡ false
  stands_so : stands t.kind t.label s.units.current ≡ true
  units : (is_heading t.kind && is_full (bounds_of mode).units (length s.units.done)) ≡ false
  room : (s.room == 0) ≡ false
  nested : (opens_block t.kind && nat_le (bounds_of mode).nesting (length (open_blocks s.units.current))) ≡ false

through : (mode : Mode) (s : State) (t : Stated) (left : ℕ) (found : Option (Result Form Flaw)) (f : Form) → checked (bounds_of mode) s t left found ≡ Ok f → Through mode s t found f
through mode s t left found f h =
    let misplaced = is_misplaced t.kind s.units.current in
    let cut_off = (left == 0) && not (is_end t.kind) in
    let broken = breaks_loop t.kind t.label (open_blocks s.units.current) in
    let too_many = is_heading t.kind && is_full (bounds_of mode).units (length s.units.done) in
    let too_nested = opens_block t.kind && nat_le (bounds_of mode).nesting (length (open_blocks s.units.current)) in
    let a = let_through (has_stray_mark t) _ _ f h in
    let b = let_through (is_none found || (misplaced || cut_off)) _ _ f a.1 in
    let c = let_through (is_large found) _ _ f b.1 in
    let d = let_through broken _ _ f c.1 in
    let e = let_through too_many _ _ f d.1 in
    let g = let_through (s.room == 0) _ _ f e.1 in
    let i = let_through (is_deep found) _ _ f g.1 in
    let j = let_through too_nested _ _ f i.1 in
    let right = or_parts misplaced cut_off (or_parts (is_none found) (misplaced || cut_off) b.0).1 in
    record { says = with_form-ok found t.line f j.1; led = a.0; stands_so = and_from (not misplaced) (not broken) (ap not right.0) (ap not d.0); units = e.0; room = g.0; nested = j.0 }

-- ---- what holds behind each statement

open_room : (o : Bool) (n k h : ℕ) → (o && nat_le n k) ≡ false → k ≤ h → h ≤ n → k + count_of o ≤ n
open_room true n k h e le below = let lt = leb-false n k e in omega arith
open_room false n k h e le below = omega arith

module _ (n : ℕ) where
  taller : (c : Current) (m l : ℕ) (f : Form) → stands (kind_of f) l (Some c) ≡ true → (opens_block (kind_of f) && nat_le n (length c.nest.blocks)) ≡ false → opening f ≡ count_of (opens_block (kind_of f)) → height c.nest ≤ n → height (continued c m l f).nest ≤ n
  taller c m l f s o flat h =
      let e = continued_height c m l f (stands_suits (kind_of f) l c s) in
      let room = open_room (opens_block (kind_of f)) n (length c.nest.blocks) (height c.nest) o (open_below c.nest) h in
      omega arith

  after : (done : List Shared) (current : Option Current) (m l : ℕ) (f : Form) → stands (kind_of f) l current ≡ true → (opens_block (kind_of f) && nat_le n (length (open_blocks current))) ≡ false → opening f ≡ count_of (opens_block (kind_of f)) → IsNested n (units_in done) → tall current ≤ n → IsTall n (followed done current m l f)
  after done None m l (subroutine x dummies) s o flat h g = (h, omega arith)
  after done None m l f s o flat h g = (h, omega arith)
  after done (Some c) m l ends s o flat h g =
      let e = finished_depth c (stands_suits End l c s) in
      (nested_behind n done (finished c) h (omega arith), omega arith)
  after done (Some c) m l f s o flat h g = (h, taller c m l f s o flat g)

-- how many units are there, with the one that is being read
abbrev begun_count : Option Current → ℕ
begun_count None = 0
begun_count (Some c) = 1

counted : (most : ℕ) (done : List Shared) (current : Option Current) (m l : ℕ) (f : Form) → stands (kind_of f) l current ≡ true → (is_heading (kind_of f) && nat_le most (length done)) ≡ false → length done + begun_count current ≤ most → length (followed done current m l f).done + begun_count (followed done current m l f).current ≤ most
counted most done None m l (subroutine x dummies) s e h = let lt = leb-false most (length done) e in omega arith
counted most done None m l f s e h = omega arith
counted most done (Some c) m l ends s e h = let k = length-append done (finished c ∷ []) in omega arith
counted most done (Some c) m l f s e h = omega arith

module _ (mode : Mode) (most : ℕ) (bounded : (k : ℕ) → is_full (bounds_of mode).units k ≡ nat_le most k) where
  -- what holds of the state between statements
  record IsWithin (s : State) (ts : List Stated) : Type 0 where
    tall_enough : IsTall (bounds_of mode).nesting s.units
    few : length s.units.done + begun_count s.units.current ≤ most

  record Within (ps : List Shared) (s : State) (ts : List Stated) : Type 0 where
    pub nested : IsNested (bounds_of mode).nesting (units_in ps)
    pub few_units : length ps ≤ most
    pub few_statements : length ts ≤ s.room

  answer : (s : State) (ps : List Shared) → IsWithin s [] → s.units.done ≡ ps → Within ps s []
  answer s ps h e = record { nested = subst (λ xs. IsNested (bounds_of mode).nesting (units_in xs)) e h.tall_enough.0; few_units = subst (λ (xs : List Shared). length xs ≤ most) e (omega (arith, h.few)); few_statements = omega arith }

  chain_within : (ts : List Stated) (s : State) (ps : List Shared) → IsWithin s ts → trees_from mode s ts ≡ Ok ps → Within ps s ts
  unfolding trees_from follow
  chain_within [] s ps h e = let same : s.units.done ≡ ps = cc in answer s ps h same
  chain_within (t ∷ ts) s ps h e =
      let found = said (bounds_of mode).depth (mark_of t.mark) t.kind (lexemes_of t.text t.tokens) in
      let a = bind_ok (follow mode s t (length ts)) (λ next. trees_from mode next ts) ps e in
      let b = bind_ok (checked (bounds_of mode) s t (length ts) found) (λ f. Ok (behind s t f)) a.0 a.1 in
      let f : Form = b.0 in
      let here : behind s t f ≡ a.0 = cc (b.2) in
      let thr = through mode s t (length ts) found f b.1 in
      let d : ReadsForm (mark_of t.mark) t.kind (lexemes_of t.text t.tokens) f = said_reads (bounds_of mode).depth (mark_of t.mark) t.kind (lexemes_of t.text t.tokens) f thr.says (led_by t thr.led) in
      let placed : stands (kind_of f) t.label s.units.current ≡ true = sym (same_kind (λ k. stands k t.label s.units.current) (calls_place t.label s.units.current) d) ∙ thr.stands_so in
      let nested : (opens_block (kind_of f) && nat_le (bounds_of mode).nesting (length (open_blocks s.units.current))) ≡ false = ap (λ b. b && nat_le (bounds_of mode).nesting (length (open_blocks s.units.current))) (sym (same_kind opens_block refl d)) ∙ thr.nested in
      let heading : (is_heading (kind_of f) && nat_le most (length s.units.done)) ≡ false = ap (λ b. b && nat_le most (length s.units.done)) (sym (same_kind is_heading refl d)) ∙ ap (λ b. is_heading t.kind && b) (sym (bounded (length s.units.done))) ∙ thr.units in
      let next : IsWithin (behind s t f) ts = record {
        tall_enough = after (bounds_of mode).nesting s.units.done s.units.current t.line t.label f placed nested (form_flat d) h.tall_enough.0 h.tall_enough.1;
        few = counted most s.units.done s.units.current t.line t.label f placed heading h.few;
      } in
      let rest = chain_within ts (behind s t f) ps next (ap (λ next. trees_from mode next ts) here ∙ a.2) in
      let some : s.room ≡ 0 → ⊥ = eqb-false s.room 0 thr.room in
      record { nested = rest.nested; few_units = rest.few_units; few_statements = more_room s.room ts some rest.few_statements }
    where
      more_room : (room : ℕ) (ts : List Stated) → (room ≡ 0 → ⊥) → length ts ≤ room - 1 → length (t ∷ ts) ≤ room
      more_room room ts some le = omega (arith, some)

-- ---- the program of a text in Source mode

closed : (stated : List Stated) → Closed Source stated (start Source)
closed [] = refl
closed (t ∷ ts) = tt

all_shallow_forms : Laws → {ts : List Stated} {ss : List Statement} → AllSay Source ts ss → all_keep (shallow 100) ss ≡ true
all_shallow_forms laws chain.AllSay.none = refl
all_shallow_forms laws (chain.AllSay.more {t = t} {f = f} {ss = ss} e led rest) =
    let some : 1 ≤ 100 = omega arith in
    and_from (form_keeps (shallow 100) f) (all_keep (shallow 100) ss) (said_shallow laws 100 some (mark_of t.mark) t.kind (lexemes_of t.text t.tokens) f e) (all_shallow_forms laws rest)

two_acts : {mark : Mark} {kind : Kind} {lexemes : List Lexeme} {f : Form} → ReadsForm mark kind lexemes f → form_acts f ≤ 2
two_acts (forms.ReadsForm.heading d) = omega arith
two_acts forms.ReadsForm.implicit = omega arith
two_acts (forms.ReadsForm.declaration d) = omega arith
two_acts (forms.ReadsForm.shared d) = omega arith
two_acts (forms.ReadsForm.assigned d) = one_act d
two_acts (forms.ReadsForm.calls d) = let one = one_call d in omega arith
two_acts (forms.ReadsForm.guarded d g) = let one = one_guarded g in omega arith
two_acts (forms.ReadsForm.begins d) = omega arith
two_acts (forms.ReadsForm.repeats d) = omega arith
two_acts forms.ReadsForm.finished = omega arith
two_acts forms.ReadsForm.continued = omega arith
two_acts (forms.ReadsForm.tests d) = omega arith
two_acts forms.ReadsForm.turns = omega arith
two_acts (forms.ReadsForm.tests_again d) = omega arith
two_acts forms.ReadsForm.closed = omega arith
two_acts forms.ReadsForm.returned = omega arith
two_acts forms.ReadsForm.ended = omega arith

twice : {stated : List Stated} {ss : List Statement} → ReadsAll stated ss → all_acts ss ≤ 2 * length stated
twice texts.ReadsAll.none = omega arith
twice (texts.ReadsAll.more {ss = ss} {f = f} split d rest) = let p = two_acts d in let q = twice rest in omega arith

-- what a text in Source mode gives, with its COMMON statements
pub record IsSourceShared (units : List Shared) : Type 0 where
  pub names : list_all (shared_keeps (short_names 31)) units ≡ true
  pub longer : list_all (shared_keeps (short_names 40)) units ≡ true
  pub depths : list_all (shared_keeps (shallow 100)) units ≡ true
  pub nested : IsNested 30 (units_in units)
  pub few_units : length units ≤ 2000
  pub few_statements : statements_in (units_in units) ≤ 400000

pub shared_source : Laws → (bytes : List ℕ) (units : List Shared) → shared_program_of Source bytes ≡ Ok units → IsSourceShared units
shared_source laws bytes ps h =
    let a = bind_ok (statements_of (limits_of Source) bytes) (trees_of Source) ps h in
    let r = chain_runs Source a.0 (start Source) ps (closed a.0) a.2 in
    let all = reads_all Source r.1 in
    let units = run_reads r.0 ps r.2 in
    let first : IsWithin Source 2000 (λ k. refl) (start Source) a.0 = record { tall_enough = (tt, omega arith); few = omega arith } in
    let w = chain_within Source 2000 (λ k. refl) a.0 (start Source) ps first a.2 in
    let count = units_count units in
    let double = twice all in
    let few = w.few_statements in
    record {
      names = sym (shared_keep (short_names 31) units) ∙ source_short bytes a.0 r.0 a.1 all;
      longer = sym (shared_keep (short_names 40) units) ∙ source_longer bytes a.0 r.0 a.1 all;
      depths = sym (shared_keep (shallow 100) units) ∙ all_shallow_forms laws r.1;
      nested = w.nested;
      few_units = w.few_units;
      few_statements = omega arith;
    }

-- so its program without blocks keeps the limits
pub source_kept : Laws → SourceIsKept
source_kept laws bytes program h =
    let a = bind_ok (shared_program_of Source bytes) without_blocks program h in
    let units : List Shared = a.0 in
    let s = shared_source laws bytes units a.1 in
    let l = lowered_units units program a.2 in
    let length_same : length program ≡ length units = ap length l.1 ∙ lowered_length units in
    let count : statements_in program ≡ statements_in (units_in units) = ap statements_in l.1 ∙ lowered_statements units in
    let shared_units = s.few_units in
    let shared_statements = s.few_statements in
    record {
      depths = ap (keeps (shallow 100)) l.1 ∙ lowered_shallow 100 (omega arith) units (shared_units_keep (shallow 100) units s.depths);
      nested = subst (IsNested 30) (sym l.1) (lowered_nested 30 units s.nested);
      few_units = omega arith;
      few_statements = omega arith;
      units = subst (EachUnit (λ u. length u.name ≤ 31)) (sym l.1) (lowered_named units s.names);
      names = λ sound. subst (λ qs. IsSound source_rules qs → keeps (short_names 40) qs ≡ true) (sym l.1) (lowered_short units s.few_units s.names s.longer) sound;
    }
