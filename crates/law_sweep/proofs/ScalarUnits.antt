-- Runs of units from the runs of their bodies, and what a unit of scalars declares.
use Rattle.std.proofs.Common.{◌≡◌, ℕ, ◌+◌, ◌-◌, ◌≤◌, List, [], ◌∷◌, map, sym, ap, ◌∙◌, arith, if◌then◌else◌}
use Rattle.std.specs.Prelude.{◌==◌, None, reverse}
use Rattle.adj_tree.specs.Code.{plain, Procedure}
use Rattle.def_meaning.specs.Trap.{schedule_trap}
use Rattle.def_meaning.specs.Numbers.{Numbers}
use Rattle.def_meaning.specs.Store.{scalar}
use Rattle.def_meaning.specs.Value.{Setting}
use Rattle.def_meaning.specs.Event.{Enter}
use Rattle.def_meaning.specs.Scene.{Scene, stand, Outcome, Done, Trapped, then_do}
use Rattle.def_meaning.specs.Run.{run}
use Rattle.def_meaning.specs.Units.{dummy_shapes, Slot, Output, calls_of, setting_in, input_store, slot_of, run_unit}
use Rattle.law_meaning.proofs.Inversions.{then_done}
use Rattle.law_meaning.proofs.Costs.{run_later}
use Rattle.law_sweep.specs.Straight.{AreScalars}
use Rattle.law_sweep.specs.Scenes.{Course, scene}
use Rattle.law_sweep.proofs.ScalarSlots.{setting-scalars}

-- ---- units of scalars

-- the setting in which a unit of scalars runs
abbrev pub scalars : {C : Type 0} → Numbers C → Setting C
scalars n = record { numbers = n; shape = λ x. scalar; room = None; level = 1 }

-- around a unit that is run by itself
abbrev pub outside : {C : Type 0} → Numbers C → Setting C
outside n = record { numbers = n; shape = λ x. scalar; room = None; level = 0 }

-- what such a unit keeps from its entry
abbrev pub kept_in : Procedure → Course
kept_in u = record { opened = 0; events = Enter u.name 1 0 (map (λ d. scalar) u.dummies) ∷ [] }

module _ {C : Type 0} (n : Numbers C) (ps : List Procedure) (u : Procedure) (input : List (Slot C)) where
  -- how the unit ends after its body
  abbrev closed : ℕ → Scene C → ℕ → Outcome (Scene C)
  closed line s j = if s.opened == 0 then Done s j else Trapped schedule_trap line (stand (outside n) s)

  -- what is handed out after k statements of which some are left, in a setting
  abbrev handed_out : ℕ → Setting C → Scene C → ℕ → Outcome (Output C)
  handed_out k m s left = Done (record { slots = map (λ d. slot_of (m.shape (plain d)) (s.store (plain d))) u.dummies; tape = s.tape; events = reverse s.events }) (k - left)

  abbrev begin : Setting C → Scene C
  begin m = scene (record { opened = 0; events = Enter u.name 1 0 (dummy_shapes m u) ∷ [] }) (input_store n u input) []

  abbrev declared_setting : Setting C
  declared_setting = setting_in (outside n) u (input_store n u input)

  module _ (are : AreScalars u.declarations) where
    same_setting : setting_in (outside n) u (input_store n u input) ≡ scalars n
    same_setting = setting-scalars (outside n) u (input_store n u input) are

    -- what the run of the unit gives from the end of its body's run
    abbrev pub output_at : Scene C → Output C
    output_at s = record { slots = map (λ d. slot_of scalar (s.store (plain d))) u.dummies; tape = s.tape; events = reverse s.events }

    -- a run of the unit that is done has a run of its body that is
    pub record BodyDone (k : ℕ) : Type 0 where
      pub end : Scene C
      pub left : ℕ
      pub is : run (calls_of ps k) (scalars n) u.body (scene (kept_in u) (input_store n u input) []) k ≡ Done end left

    pub body_done : (k used : ℕ) (output : Output C) → run_unit n ps u input [] None k ≡ Done output used → BodyDone k
    body_done k used output h =
        let p = then_done (then_do (run (calls_of ps k) declared_setting u.body (begin declared_setting) k) (closed u.line)) (handed_out k declared_setting) output used h in
        let q = then_done (run (calls_of ps k) declared_setting u.body (begin declared_setting) k) (closed u.line) p.scene p.left p.first in
        record { end = q.scene; left = q.left; is = ap (λ m. run (calls_of ps k) m u.body (begin m) k) (sym same_setting) ∙ q.first }

    -- a unit whose body's run is done with its calls cut off ends
    pub ends : (cost : ℕ) (s : Scene C) → run (calls_of ps 0) (scalars n) u.body (scene (kept_in u) (input_store n u input) []) cost ≡ Done s 0 → s.opened ≡ 0 → (k : ℕ) → cost ≤ k → run_unit n ps u input [] None k ≡ Done (output_at s) cost
    ends cost s h o k le =
        let left = k - cost in
        let all : cost + left ≡ k = omega arith in
        let none : 0 + left ≡ left = omega arith in
        let used : k - left ≡ cost = omega arith in
        let body : run (calls_of ps k) declared_setting u.body (begin declared_setting) k ≡ Done s left =
        ap (λ m. run (calls_of ps k) m u.body (begin m) k) same_setting ∙ ap (run (calls_of ps k) (scalars n) u.body (begin (scalars n))) (sym all)
        ∙ run_later ps 0 k (omega arith) (scalars n) u.body (begin (scalars n)) s cost 0 left h ∙ ap (Done s) none in
        let shut : closed u.line s left ≡ Done s left = ap (λ m. if m == 0 then Done s left else Trapped schedule_trap u.line (stand (outside n) s)) o in
        ap (λ z. then_do (then_do z (closed u.line)) (handed_out k declared_setting)) body
        ∙ ap (λ z. then_do z (handed_out k declared_setting)) shut
        ∙ ap (λ m. handed_out k m s left) same_setting
        ∙ ap (Done (output_at s)) used
