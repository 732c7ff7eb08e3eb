-- Runs don't depend on line numbers, but for those that traps and marked loops name.
use Rattle.std.proofs.Common.{ℕ, zero, suc, ◌-◌, Bool, List, [], ◌∷◌, refl, sym, ap, ◌∙◌}
use Rattle.std.specs.Prelude.{Option, Some, None, ◌==◌, reverse, length, if◌then◌else◌}
use Rattle.adj_tree.specs.Code.{Terms, Procedure}
use Rattle.adj_tree.specs.Lines.{unlined_code, unlined_procedure, unlined}
use Rattle.def_meaning.specs.Trap.{shape_trap, schedule_trap}
use Rattle.def_meaning.specs.Store.{scalar}
use Rattle.def_meaning.specs.Value.{Setting}
use Rattle.def_meaning.specs.Event.{Enter}
use Rattle.def_meaning.specs.Scene.{Scene, stand, Outcome, Done, Trapped, More, then_do}
use Rattle.def_meaning.specs.Run.{Calls, run}
use Rattle.def_meaning.specs.Written.{find_unit, handed_back}
use Rattle.def_meaning.specs.Units.{Output, actuals, entry_store, dummies_fit, copied_out, setting_in, dummy_shapes, entered, unit_run, call_in, calls_of, input_store, dummy_slots, fits, run_unit}
use Rattle.law_meaning.specs.Unlined.{unlined_event, unlined_scene, unlined_output, unlined_outcome, unlined_ending}
use Rattle.law_meaning.specs.Laws.{RunUnlined, RunsAlike, FitsAlike}
use Rattle.law_meaning.proofs.UnlinedUnits.{dummies_fit_unlined, fits_unlined, setting_unlined, unlined_found, find_unlined, handed_unlined}
use Rattle.law_meaning.proofs.UnlinedRuns.{telling, GoAlike, stand_unlined, reverse-map, CallAlike, then_unlined, value_unlined, if_unlined, done_unlined, run_unlined}

-- ---- units and calls

module _ {C : Type 0} (q q' : Calls C) (alike : CallAlike q q') (n : Setting C) where
  pub unit_unlined : (u : Procedure) (line other : ℕ) → GoAlike unlined_scene (unit_run q n u line) (unit_run q' n (unlined_procedure u) other)
  unit_unlined u line other s es k h =
      then_unlined unlined_scene (run q (setting_in n u s.store) u.body (entered n u s) k) (run q' (setting_in n (unlined_procedure u) s.store) (unlined_code u.body) (entered n (unlined_procedure u) (telling s es)) k)
      (λ s1 j. if s1.opened == 0 then Done s1 j else Trapped schedule_trap line (stand n s1)) (λ s1 j. if s1.opened == 0 then Done s1 j else Trapped schedule_trap other (stand n s1))
      (run_unlined q q' alike (setting_in n u s.store) u.body (entered n u s) (entered n u (telling s es)).events k (ap (λ z. Enter u.name (suc n.level) (length s.tape) (dummy_shapes (setting_in n u s.store) u) ∷ z) h)
      ∙ ap (λ z. unlined_outcome (run q' z (unlined_code u.body) (record (telling s es) { opened = 0; events = Enter u.name (suc n.level) (length s.tape) (dummy_shapes z u) ∷ es }) k)) (sym (setting_unlined n u s.store)))
      (λ s1 fs j h1. if_unlined unlined_scene (s1.opened == 0) (Done s1 j) (Trapped schedule_trap line (stand n s1)) (Done (telling s1 fs) j) (Trapped schedule_trap other (stand n (telling s1 fs))) (done_unlined s1 fs j h1) (ap (Trapped schedule_trap 0) (stand_unlined n s1 fs h1)))

  -- a call of a unit that was looked for
  call_unlined : (ws : List Bool) (u : Option Procedure) (args : Terms) (line other : ℕ) → GoAlike unlined_scene (call_in q n ws u args line) (call_in q' n ws (unlined_found u) args other)
  call_unlined ws None args line other s es k h = ap (Trapped shape_trap 0) (stand_unlined n s es h)
  call_unlined ws (Some u) args line other s es k h =
      value_unlined unlined_scene (actuals n args s.store) line other _ _ (stand_unlined n s es h) _ _ (λ got.
      let start : Scene C = record s { store = entry_store n.numbers u.dummies got } in
      let back : Scene C → ℕ → Outcome (Scene C) = λ s1 j. Done (record s { store = copied_out u.dummies ws got s1.store s.store; tape = s1.tape; events = s1.events }) j in
      if_unlined unlined_scene (dummies_fit n.numbers u start.store u.dummies got)
      (then_do (unit_run q n u line start k) back) (Trapped shape_trap line (stand n s))
      (then_do (unit_run q' n (unlined_procedure u) other (telling start es) k) back) (Trapped shape_trap other (stand n (telling s es)))
      (then_unlined unlined_scene (unit_run q n u line start k) (unit_run q' n (unlined_procedure u) other (telling start es) k) back back (unit_unlined u line other start es k h)
      (λ s1 fs j h1. done_unlined (record s { store = copied_out u.dummies ws got s1.store s.store; tape = s1.tape; events = s1.events }) fs j h1))
      (ap (Trapped shape_trap 0) (stand_unlined n s es h))
      ∙ ap (λ z. unlined_outcome (if z then then_do (unit_run q' n (unlined_procedure u) other (telling start es) k) back else Trapped shape_trap other (stand n (telling s es))))
      (sym (dummies_fit_unlined n.numbers u start.store u.dummies got)))

-- the calls of a program, by their depth
pub calls_unlined : {C : Type 0} (units : List Procedure) (depth : ℕ) → CallAlike {C = C} (calls_of units depth) (calls_of (unlined units) depth)
calls_unlined units zero n name args line other s es k h = ap More (stand_unlined n s es h)
calls_unlined units (suc depth) n name args line other s es k h =
    call_unlined (calls_of units depth) (calls_of (unlined units) depth) (calls_unlined units depth) n (handed_back units name) (find_unit units name) args line other s es k h
    ∙ (λ i. unlined_outcome (call_in (calls_of (unlined units) depth) n (sym (handed_unlined units name) i) (sym (find_unlined units name) i) args other (telling s es) k))

-- ---- programs

pub runs_unlined : {C : Type 0} → RunUnlined C
runs_unlined {C} n units u input tape room k =
    let outside : Setting C = record { numbers = n; shape = λ x. scalar; room = room; level = 0 } in
    let start : Scene C = record { store = input_store n u input; tape = tape; opened = 0; events = [] } in
    let given : Procedure → Scene C → ℕ → Outcome (Output C) = λ v s left. Done (record { slots = dummy_slots (setting_in outside v start.store) v s.store; tape = s.tape; events = reverse s.events }) (k - left) in
    then_unlined unlined_output (unit_run (calls_of units k) outside u u.line start k) (unit_run (calls_of (unlined units) k) outside (unlined_procedure u) 0 start k) (given u) (given (unlined_procedure u))
    (unit_unlined (calls_of units k) (calls_of (unlined units) k) (calls_unlined units k) outside u u.line 0 start [] k refl)
    (λ s es left h i.
    Done (record { slots = dummy_slots (sym (setting_unlined outside u start.store) i) u s.store; tape = s.tape; events = (reverse-map unlined_event s.events ∙ ap reverse h ∙ sym (reverse-map unlined_event es)) i }) (k - left))

-- programs and units that are the same up to line numbers run alike up to line numbers
pub runs_alike : {C : Type 0} → RunsAlike C
runs_alike units others same u v like n input tape room k =
    runs_unlined n units u input tape room k
    ∙ (λ i. unlined_ending (run_unit n (same i) (like i) input tape room k))
    ∙ sym (runs_unlined n others v input tape room k)

-- and the same inputs fit
pub fits_alike : {C : Type 0} → FitsAlike C
fits_alike u v like n input = sym (fits_unlined n u input) ∙ ap (λ z. fits n z input) like ∙ fits_unlined n v input
