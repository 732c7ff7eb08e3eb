-- A text that reads as a program which keeps the limits of a run gives that program in Run mode, or has too many statements.
use Rattle.std.proofs.Common.{◌≡◌, ◌≤◌, ◌<◌, ◌⊎◌, inl, inr, ℕ, Bool, true, false, cond, List, length, Option, Some, None, Result, Ok, refl, sym, ap, subst, ◌∙◌, arith}
use Rattle.std.proofs.Math.Dec.{eqb-suc-zero}
use Rattle.std.proofs.lemmas.Bool.{and_parts}
use Rattle.std.specs.Prelude.{◌&&◌, ◌==◌, not, nat_le}
use Rattle.adj_tree.specs.Code.{Mark}
use Rattle.adj_tree.specs.View.{mark_of}
use Rattle.adj_tree.specs.declared.fault.Refusal.{Refusal}
use Rattle.adj_tree.specs.Size.{IsNested}
use Rattle.adj_tree.specs.Common.{Shared}
use Rattle.adj_parse_expression.specs.declared.flaw.Flaw.{Flaw}
use Rattle.def_text.specs.Form as forms
use Rattle.def_text.specs.Form.{Form, Statement, ReadsForm}
use Rattle.def_text.specs.Reads as texts
use Rattle.def_text.specs.Reads.{ReadsAll}
use Rattle.def_text.specs.Refused.{◌>>=◌, limited}
use Rattle.def_text.specs.Lexeme.{Lexeme, lexemes_of}
use Rattle.def_text.specs.declared.mode.Mode.TheVariants.{Run}
use Rattle.def_text.specs.declared.stated.Kind.{Kind}
use Rattle.def_text.specs.declared.stated.Kind.TheVariants.{Assign, Call}
use Rattle.def_text.specs.declared.stated.Stated.{Stated}
use Rattle.adj_parse.specs.Order.{breaks_loop, is_end, is_heading, opens_block}
use Rattle.adj_parse.specs.Trees.{bounds_of, State, has_stray_mark, is_astray, checked, behind, follow, trees_from}
use Rattle.adj_parse.specs.Unit.{Current, followed, open_blocks, is_misplaced}
use Rattle.adj_parse.proofs.Machine.{picked, kind_of, stands, units_of, run}
use Rattle.adj_parse.proofs.Truths.{and_false}
use Rattle.adj_parse_statement.specs.Said.{said}
use Rattle.adj_parse.proofs.Followed.{not_both, never_stray, units_done}
use Rattle.law_limits.specs.Kept.{shallow}
use Rattle.law_limits.proofs.Keeping.{units_in, form_keeps, all_keep}
use Rattle.law_limits.proofs.FittingTerms.{fitting}
use Rattle.law_limits.proofs.SaidForms.{Laws, said_right}
use Rattle.law_limits.proofs.Nesting.{run_nested, too_nested}

-- ---- a statement stands as its form does

pub calls_place : (l : ℕ) (c : Option Current) → stands Call l c ≡ stands Assign l c
calls_place l None = refl
calls_place l (Some c) = refl

-- what is told of the class of a statement is told of that of its form
pub same_kind : {A : Type 0} (F : Kind → A) → F Call ≡ F Assign → {mark : Mark} {kind : Kind} {lexemes : List Lexeme} {f : Form} → ReadsForm mark kind lexemes f → F kind ≡ F (kind_of f)
same_kind F e (forms.ReadsForm.heading d) = refl
same_kind F e forms.ReadsForm.implicit = refl
same_kind F e (forms.ReadsForm.declaration d) = refl
same_kind F e (forms.ReadsForm.shared d) = refl
same_kind F e (forms.ReadsForm.assigned d) = refl
same_kind F e (forms.ReadsForm.calls d) = e
same_kind F e (forms.ReadsForm.guarded d g) = refl
same_kind F e (forms.ReadsForm.begins d) = refl
same_kind F e (forms.ReadsForm.repeats d) = refl
same_kind F e forms.ReadsForm.finished = refl
same_kind F e forms.ReadsForm.continued = refl
same_kind F e (forms.ReadsForm.tests d) = refl
same_kind F e forms.ReadsForm.turns = refl
same_kind F e (forms.ReadsForm.tests_again d) = refl
same_kind F e forms.ReadsForm.closed = refl
same_kind F e forms.ReadsForm.returned = refl
same_kind F e forms.ReadsForm.ended = refl

-- behind the last statement no unit is open, so it is END
closes_end : (done : List Shared) (current : Option Current) (n l : ℕ) (f : Form) → stands (kind_of f) l current ≡ true → (ps : List Shared) → units_of (followed done current n l f).done (followed done current n l f).current ≡ Some ps → is_end (kind_of f) ≡ true
closes_end done (Some c) n l forms.ends s ps h = refl
closes_end done (Some c) n l f s ps h = absurd cc
closes_end done None n l (forms.subroutine x dummies) s ps h = absurd cc
closes_end done None n l f s ps h = absurd cc

-- what is let through: the form, or the refusal of too many statements
abbrev Goes : {A : Type 0} → A → Result A Refusal → Type 0
Goes x r = (r ≡ Ok x) ⊎ ((line : ℕ) × (r ≡ limited 4000000 line))

room_or : {A : Type 0} (x : A) (b : Bool) (line : ℕ) → Goes x (cond b (limited 4000000 line) (Ok x))
room_or x true line = inr (line, refl)
room_or x false line = inl refl

goes : (s : State) (t : Stated) (left : ℕ) (found : Option (Result Form Flaw)) (f : Form) → found ≡ Some (Ok f) → has_stray_mark t ≡ false → is_astray t left s.units.current ≡ false → breaks_loop t.kind t.label (open_blocks s.units.current) ≡ false → (opens_block t.kind && nat_le 45 (length (open_blocks s.units.current))) ≡ false → Goes f (checked (bounds_of Run) s t left found)
goes s t left found f e led place breaks nested = rw (e, led, place, breaks, and_false (is_heading t.kind), nested) (room_or f (s.room == 0) t.line)

module _ (laws : Laws) where
  pub chain_goes : {ts : List Stated} {ss : List Statement} → ReadsAll ts ss → (s : State) (ps : List Shared) → run s.units ss ≡ Some ps → IsNested 45 (units_in ps) → all_keep (shallow 120) ss ≡ true → all_keep fitting ss ≡ true → Goes ps (trees_from Run s ts)
  unfolding trees_from follow run
  chain_goes texts.ReadsAll.none s ps h n deep fit = inl (ap Ok (units_done s.units.done s.units.current ps h))
  chain_goes (texts.ReadsAll.more {s = t} {ss = ts} {f = f} {ts = ss} split d rest) s ps h n deep fit =
      let lexemes = lexemes_of t.text t.tokens in
      let step = picked (stands (kind_of f) t.label s.units.current) (run (followed s.units.done s.units.current t.line t.label f) ss) h in
      let placed : stands t.kind t.label s.units.current ≡ true = same_kind (λ k. stands k t.label s.units.current) (calls_place t.label s.units.current) d ∙ step.0 in
      let place = not_both (is_misplaced t.kind s.units.current) (breaks_loop t.kind t.label (open_blocks s.units.current)) placed in
      let right : is_astray t (length ts) s.units.current ≡ false = rw (place.0) (last_ends rest step.1) in
      let here = and_parts (form_keeps (shallow 120) f) (all_keep (shallow 120) ss) deep in
      let fits = and_parts (form_keeps fitting f) (all_keep fitting ss) fit in
      let some : 1 ≤ 120 = omega arith in
      let many : 0 < 45 = omega arith in
      let says : said 120 (mark_of t.mark) t.kind lexemes ≡ Some (Ok f) = said_right laws 120 some (mark_of t.mark) t.kind lexemes f d here.0 fits.0 in
      let later = run_nested 45 ss (followed s.units.done s.units.current t.line t.label f) ps step.1 n in
      let opens : (opens_block t.kind && nat_le 45 (length (open_blocks s.units.current))) ≡ false =
      ap (λ b. b && nat_le 45 (length (open_blocks s.units.current))) (same_kind opens_block refl d) ∙ too_nested 45 many s.units.done s.units.current t.line t.label f step.0 later in
      elim (goes s t (length ts) (said 120 (mark_of t.mark) t.kind lexemes) f says (never_stray t split d) right place.1 opens) [
        | inl e ↦ subst (Goes ps) (sym (ap (λ r. (r >>= λ g. Ok (behind s t g)) >>= λ next. trees_from Run next ts) e)) (chain_goes rest (behind s t f) ps step.1 n here.1 fits.1)
        | inr (line, e) ↦ inr (line, ap (λ r. (r >>= λ g. Ok (behind s t g)) >>= λ next. trees_from Run next ts) e)
      ]
    where
      last_ends : {ts : List Stated} {ss : List Statement} → ReadsAll ts ss → run (followed s.units.done s.units.current t.line t.label f) ss ≡ Some ps → ((length ts == 0) && not (is_end t.kind)) ≡ false
      last_ends texts.ReadsAll.none g =
          let placed = (picked (stands (kind_of f) t.label s.units.current) (run (followed s.units.done s.units.current t.line t.label f) ss) h).0 in
          let ended : is_end t.kind ≡ true = same_kind is_end refl d ∙ closes_end s.units.done s.units.current t.line t.label f placed ps g in
          rw ended refl
      last_ends (texts.ReadsAll.more {ss = us} own e r) g = rw (eqb-suc-zero (length us)) refl
