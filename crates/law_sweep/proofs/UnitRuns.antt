-- Runs of units from the runs of their bodies, for units of any shapes and any depth of calls.
use Rattle.std.proofs.Common.{◌≡◌, ℕ, ◌+◌, ◌-◌, ◌≤◌, List, [], ◌∷◌, Bool, true, false, sym, ap, ◌∙◌, arith, if◌then◌else◌}
use Rattle.std.specs.Prelude.{ℤ, ◌==◌, None, reverse}
use Rattle.adj_tree.specs.Code.{Var, Code, Procedure}
use Rattle.def_meaning.specs.Trap.{schedule_trap}
use Rattle.def_meaning.specs.Numbers.{Numbers, words}
use Rattle.def_meaning.specs.Value.{Setting}
use Rattle.def_meaning.specs.Event.{Enter}
use Rattle.def_meaning.specs.Scene.{Scene, stand, Outcome, Done, Trapped, then_do}
use Rattle.def_meaning.specs.Run.{run}
use Rattle.def_meaning.specs.Units.{Slot, Output, calls_of, setting_in, dummy_shapes, input_store, dummy_slots, run_unit}
use Rattle.law_meaning.proofs.Inversions.{then_done, done_same}
use Rattle.law_meaning.specs.Leads.{Leads}
use Rattle.def_meaning.specs.Seen.{seen_outcome}
use Rattle.def_meaning.specs.Store.{Shape, Store}
use Rattle.law_meaning.proofs.Costs.{run_later}
use Rattle.law_meaning.proofs.SeenRuns.{run_seen}
use Rattle.def_meaning.proofs.EntriesSeen.{own_names}
use Rattle.law_meaning.proofs.SeenCalls.{code_same, calls_carry}
use Rattle.def_meaning.proofs.WithoutTangents.{without_tangents}
use Rattle.law_sweep.specs.Pairs.{Words, with_tangents, on_words, on_duals}
use Rattle.law_sweep.specs.Scenes.{Course, scene}
use Rattle.def_sweep.specs.Tangents.{Ends}
use Rattle.law_sweep.proofs.ScalarUnits.{outside}

module _ {C : Type 0} (n : Numbers C) (ps : List Procedure) (u : Procedure) (input : List (Slot C)) where
  -- how the unit ends after its body
  abbrev closed : ℕ → Scene C → ℕ → Outcome (Scene C)
  closed line s j = if s.opened == 0 then Done s j else Trapped schedule_trap line (stand (outside n) s)

  abbrev pub unit_setting : Setting C
  unit_setting = setting_in (outside n) u (input_store n u input)

  -- what the run of the unit gives from the end of its body's run
  abbrev pub output_from : Scene C → Output C
  output_from s = record { slots = dummy_slots unit_setting u s.store; tape = s.tape; events = reverse s.events }

  abbrev handed_out : ℕ → Scene C → ℕ → Outcome (Output C)
  handed_out k s left = Done (output_from s) (k - left)

  -- what was told at the unit's entry
  abbrev pub kept_in : Course
  kept_in = record { opened = 0; events = Enter u.name 1 0 (dummy_shapes unit_setting u) ∷ [] }

  abbrev pub begin : Scene C
  begin = scene kept_in (input_store n u input) []

  -- a run of the unit that is done has a run of its body that is
  pub record BodyEnds (k : ℕ) (output : Output C) : Type 0 where
    pub end : Scene C
    pub left : ℕ
    pub is : run (calls_of ps k) unit_setting u.body begin k ≡ Done end left
    pub gives : output ≡ output_from end

  pub body_ends : (k used : ℕ) (output : Output C) → run_unit n ps u input [] None k ≡ Done output used → BodyEnds k output
  body_ends k used output h =
      let p = then_done (then_do (run (calls_of ps k) unit_setting u.body begin k) (closed u.line)) (handed_out k) output used h in
      let q = then_done (run (calls_of ps k) unit_setting u.body begin k) (closed u.line) p.scene p.left p.first in
      record { end = q.scene; left = q.left; is = q.first; gives = sym (done_same (output_from p.scene) output (k - p.left) used p.second) ∙ ap output_from (sym (shut q.scene q.left p.scene p.left (q.scene.opened == 0) q.second)) }
    where
      shut : (s : Scene C) (l : ℕ) (s1 : Scene C) (l1 : ℕ) (b : Bool) → (if b then Done s l else Trapped schedule_trap u.line (stand (outside n) s)) ≡ Done s1 l1 → s ≡ s1
      shut s l s1 l1 true h = done_same s s1 l l1 h
      shut s l s1 l1 false h = cc

  -- a unit whose body's run is done with calls of some depth ends
  abbrev pub unit_ends : (depth cost : ℕ) (s : Scene C) → run (calls_of ps depth) unit_setting u.body begin cost ≡ Done s 0 → s.opened ≡ 0 → Ends n ps u input
  unit_ends depth cost s h o = record {
    enough = depth + cost;
    output = output_from s;
    used = cost;
    runs = λ k le.
        let left = k - cost in
        let all : cost + left ≡ k = omega arith in
        let none : 0 + left ≡ left = omega arith in
        let spent : k - left ≡ cost = omega arith in
        let deep : depth ≤ k = omega arith in
        let body : run (calls_of ps k) unit_setting u.body begin k ≡ Done s left =
        ap (run (calls_of ps k) unit_setting u.body begin) (sym all) ∙ run_later ps depth k deep unit_setting u.body begin s cost 0 left h ∙ ap (Done s) none in
        let shut : closed u.line s left ≡ Done s left = ap (λ m. if m == 0 then Done s left else Trapped schedule_trap u.line (stand (outside n) s)) o in
        ap (λ z. then_do (then_do z (closed u.line)) (handed_out k)) body
        ∙ ap (λ z. then_do z (handed_out k)) shut
        ∙ ap (Done (output_from s)) spent;
  }

-- the run of a list on words ends as its dual run, without the tangents
pub words_end : (ps : List Procedure) (depth : ℕ) (sh : Var → Shape) (c : Code) (base later : Course) (u u' : Store ℤ) (y y' : Words) (end : Scene ℤ) (k left : ℕ) → run (calls_of ps depth) (on_words sh 1) c (scene base u []) k ≡ Done end left → Leads (calls_of ps depth) (on_duals sh 1) c (scene base (with_tangents u y) []) (scene later (with_tangents u' y') []) → end ≡ scene later u' []
words_end ps depth sh c base later u u' y y' end k left is d = done_same end (scene later u' []) (left + d.cost) k (sym more ∙ ap (run (calls_of ps depth) (on_words sh 1) c (scene base u [])) e ∙ words_run)
  where
    more : run (calls_of ps depth) (on_words sh 1) c (scene base u []) (k + d.cost) ≡ Done end (left + d.cost)
    more = run_later ps depth depth (omega arith) (on_words sh 1) c (scene base u []) end k left d.cost is

    e : k + d.cost ≡ d.cost + k
    e = omega arith

    words_run : run (calls_of ps depth) (on_words sh 1) c (scene base u []) (d.cost + k) ≡ Done (scene later u' []) k
    words_run =
        sym (run_seen (λ x. x) own_names (λ (a : ℤ × ℤ). a.0) (on_duals sh 1) words without_tangents (calls_of ps depth) (calls_of ps depth) (calls_carry (λ (a : ℤ × ℤ). a.0) ps depth words (λ x. x) own_names (on_duals sh 1) without_tangents) c (scene base (with_tangents u y) []) (d.cost + k))
        ∙ ap (λ z. seen_outcome (λ x. x) (λ (a : ℤ × ℤ). a.0) (run (calls_of ps depth) (on_duals sh 1) z (scene base (with_tangents u y) []) (d.cost + k))) (code_same c)
        ∙ ap (seen_outcome (λ x. x) (λ (a : ℤ × ℤ). a.0)) (d.by k)
