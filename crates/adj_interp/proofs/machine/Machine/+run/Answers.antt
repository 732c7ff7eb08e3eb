use Rattle.std.proofs.Common.{rules, ◌≡◌, ◌+◌, ◌*◌, ◌-◌, ◌<◌, ℕ, suc, ℤ, List, FitsSigned, w64, length, refl, sym, ap, subst, ◌∙◌, arith, Vec, Global}
use Rattle.std.specs.Prelude.{Result, Ok, Err, Some, None, Bool, true, false, if◌then◌else◌}
use Rattle.def_meaning.specs.Trap.{Trap, shape_trap}
use Rattle.std.proofs.lemmas.Int.{to_z-of_z}
use Rattle.adj_word.specs.Word.{wrap}
use Rattle.adj_word.proofs.Residues.{wrap_word}
use Rattle.def_meaning.specs.Scene.{Scene, then_do, with_value, Done, Trapped, stand}
use Rattle.def_meaning.specs.Store.{set}
use Rattle.def_meaning.specs.Value.{target, holds}
use Rattle.def_meaning.specs.Units.{calls_of, copied_out}
use Rattle.def_meaning.specs.Run.{run, turns, with_turn, stepped, tests, in_force, after_loop}
use Rattle.adj_tree.specs.declared.value.Trap.TheVariants as trap
use Rattle.adj_interp.specs.declared.stop.Stop.TheVariants as stop
use Rattle.adj_interp.specs.declared.machine.Machine.{Machine}
use Rattle.adj_interp_frame.specs.declared.step.Steps.{size-Steps}
use Rattle.adj_interp_frame.specs.declared.step.Steps.TheViews.{sized-More}
use Rattle.adj_interp_frame.specs.declared.step.Steps.TheVariants as steps
use Rattle.adj_interp_frame.specs.Prepared.{var_at, term_in, terms_in, test_in}
use Rattle.adj_interp_frame.specs.Instructed.{task_in, steps_in, marking_in, AreStepsBelow}
use Rattle.adj_interp_frame.specs.declared.actual.Actual.{Actual}
use Rattle.adj_interp_frame.specs.declared.frame.Frame.{Frame}
use Rattle.adj_interp_frame.specs.declared.routine.Routine.{Routine}
use Rattle.adj_interp_frame.specs.Linked.{IsRoutine, units_in}
use Rattle.adj_interp_frame.specs.Shown.{on_numbers, Shows}
use Rattle.adj_interp_frame.specs.Called.{actuals_in, AreActualsBelow, entered_with, shapes_with, fit_from}
use Rattle.adj_interp_frame.specs.Passed.{wholes, ArePassed}
use Rattle.adj_interp_frame.specs.Lent.{IsFrameFrom, ShowsHeld, AreRead, AreActualsWithin, sizes_in}
use Rattle.adj_interp_frame.proofs.Borrowing.{lent_frame, lent_within, lent_sizes, lent_shows}
use Rattle.adj_interp.specs.declared.call.Outer.{Outer}
use Rattle.adj_interp.specs.Entered.{inside}
use Rattle.adj_tree.specs.View.{procedure_of}
use Rattle.adj_interp.proofs.Calling.{all_sizes, unit_at, unwritten_read, size_within, less_deep, positive, call_past, call_at, call_err, misfit_at, call_misfit, unit_ends, call_break, call_open, call_done, entered_suited}
use Rattle.adj_interp.proofs.Wholes.{whole_names, whole_framed, whole_suited, whole_large, whole_break, whole_open, whole_done}
use Rattle.adj_interp_frame.specs.Framed.{IsFrame, shapes_in, store_in}
use Rattle.adj_interp_frame.specs.Suited.{AreSuited, counts_in, HasOneCell, AreAsLarge}
use Rattle.adj_interp_frame.proofs.Showing.{shows_itself}
use Rattle.adj_interp_frame.proofs.Suiting.{got_suited, as_large}
use Rattle.adj_interp.specs.Held.{setting_at, Holds, Runs, Ends, Finds, IsTrapped, HasMore, bounds_in}
use Rattle.adj_interp.proofs.Driving.{uses_none, holds_stand, reaches_start, ends_same, done_at_once, ends_ok, ends_err, list_budget, list_next, list_break, same_act, turn_budget, turn_next, turn_break, turn_end, test_err, test_end, test_last, test_break, test_budget, test_next, ends_loop, bounds_chain}
use Rattle.adj_interp.proofs.machine.Machine.+run.Goals as goal

-- ---- lists

pub run-loop-current-init : goal.run-loop-current-init
run-loop-current-init g t c = record {
  room = refl;
  no_deeper = omega arith;
  names = refl;
  framed = c.requires.framed;
  counts = refl;
  below = c.requires.below;
  linked = c.requires.linked;
  suited = c.requires.suited;
  reached = λ e s h. let q = calls_of {C = g.row.N.Denot} (units_in c.args.program.now) c.args.depth in reaches_start e (run q (setting_at e) (steps_in c.args.self.now.frame.names.now c.args.steps.now)) c.args.self.now s h;
}

pub run-returns-then-not-count-clause-ends : goal.run-returns-then-not-count-clause-ends
run-returns-then-not-count-clause-ends g t c e s h =
    let q = calls_of {C = g.row.N.Denot} (units_in c.args.program.now) c.args.depth in
    let names = c.args.self.now.frame.names.now in
    let v = c.in-More.step.value in
    let none = c.count.ensures.none c.if-not-count.true in
    let at = rw c.in-More.is at (c.loop-current.invariant.reached e s h) in
    let o = run q (setting_at e) (steps_in names c.args.steps.now) s in
    subst (λ m. Ends e o c.args.self.now.left (Err stop.Budget) m) (sym none.0)
    (list_budget e q v.line (task_in names v.task) (steps_in names c.in-More.rest.value) o c.loop-current.self none.1 at)

pub run-returns-in_err-perform-clause-ends : goal.run-returns-in_err-perform-clause-ends
run-returns-in_err-perform-clause-ends g t c e s h =
    let q = calls_of {C = g.row.N.Denot} (units_in c.args.program.now) c.args.depth in
    let names = c.args.self.now.frame.names.now in
    let v = c.in-More.step.value in
    let some = c.count.ensures.some c.if-not-count.false in
    let at = rw c.in-More.is at (c.loop-current.invariant.reached e s h) in
    let same = ap (λ (m : Machine _). m.frame.names.now) (sym some) ∙ c.loop-current.invariant.names in
    let r : c.from_residual.result ≡ Err c.in_err-perform.field-0.0 = search rules in
    let o = run q (setting_at e) (steps_in names c.args.steps.now) s in
    subst (λ z. Ends e o c.args.self.now.left z c.perform.new.self) (sym r)
    (list_break e q v.line (task_in names v.task) (steps_in names c.in-More.rest.value) o c.in_err-perform.field-0.0 c.loop-current.self c.count.new.self c.perform.new.self some
    (λ z g. same_act e q names c.count.new.self.frame.names.now c.deref.result.now c.deref-in-More.result.now v z c.count.new.self.left (Err c.in_err-perform.field-0.0) c.perform.new.self same c.deref.ensures c.deref-in-More.ensures (c.in_err-perform.ensures.ends e z g))
    at)

pub run-loop-current-preserved : goal.run-loop-current-preserved
run-loop-current-preserved g t c =
    let names = c.args.self.now.frame.names.now in
    let v = c.in-More.step.value in
    let some = c.count.ensures.some c.if-not-count.false in
    let same = ap (λ (m : Machine _). m.frame.names.now) (sym some) ∙ c.loop-current.invariant.names in
    let below = rw c.in-More.is at c.loop-current.invariant.below in
    let linked = rw c.in-More.is at c.loop-current.invariant.linked in
    let suited = rw c.in-More.is at c.loop-current.invariant.suited in
    let rest = c.deref-current.ensures in
    record {
      no_deeper =
          let whole = sized-More c.in-More.step c.in-More.rest in
          let was = ap size-Steps c.in-More.is in
          let left = ap size-Steps c.deref-current.ensures in
          let before = c.loop-current.invariant.no_deeper in
          first_of (omega (arith, whole, was, left, before), grind (arith, whole, was, left, before));
      room = c.in_ok-perform.ensures.room ∙ ap (λ (m : Machine _). m.tape.room) (sym some) ∙ c.loop-current.invariant.room;
      names = c.in_ok-perform.ensures.names ∙ same;
      framed = rw (sym same) c.in_ok-perform.ensures.framed;
      counts = c.in_ok-perform.ensures.counts ∙ ap (λ (m : Machine _). counts_in m.frame.slots.items) (sym some) ∙ c.loop-current.invariant.counts;
      below = rw rest below.1;
      linked = rw rest linked.1;
      suited = rw rest suited.1;
      reached = λ e s h. let q = calls_of {C = g.row.N.Denot} (units_in c.args.program.now) c.args.depth in rw rest
          (list_next e q v.line (task_in names v.task) (steps_in names c.in-More.rest.value) (run q (setting_at e) (steps_in names c.args.steps.now) s) c.in_ok-perform.field-0 c.loop-current.self c.count.new.self c.perform.new.self some
          (λ z g. same_act e q names c.count.new.self.frame.names.now c.deref.result.now c.deref-in-More.result.now v z c.count.new.self.left (Ok c.in_ok-perform.field-0) c.perform.new.self same c.deref.ensures c.deref-in-More.ensures (c.in_ok-perform.ensures.ends e z g))
          (rw c.in-More.is at (c.loop-current.invariant.reached e s h)));
    }

pub run-returns-clause-ends : goal.run-returns-clause-ends
run-returns-clause-ends g t c e s h =
    let q = calls_of {C = g.row.N.Denot} (units_in c.args.program.now) c.args.depth in
    let names = c.args.self.now.frame.names.now in
    let at = c.loop-current.invariant.reached e s h in
    let empty : c.loop-current.current.now ≡ steps.Empty = search rules in
    rw empty at at

-- ---- statements

pub perform-returns-in_err-number-in-Assign-clause-ends : goal.perform-returns-in_err-number-in-Assign-clause-ends
perform-returns-in_err-number-in-Assign-clause-ends g t c e s h =
    let q = calls_of {C = g.row.N.Denot} (units_in c.args.program.now) c.args.depth in
    let r : c.from_residual.result ≡ Err c.in_err-number-in-Assign.field-0.0 = search rules in
    rw (c.in-Assign.is, r) (ends_err e _ c.args.line c.in_err-number-in-Assign.field-0.0 c.args.self.now s _ (c.in_err-number-in-Assign.ensures.value e s h) h)

pub perform-returns-in_err-place-in-Assign-clause-ends : goal.perform-returns-in_err-place-in-Assign-clause-ends
perform-returns-in_err-place-in-Assign-clause-ends g t c e s h =
    let q = calls_of {C = g.row.N.Denot} (units_in c.args.program.now) c.args.depth in
    let r : c.from_residual-in_err-place-in-Assign.result ≡ Err c.in_err-place-in-Assign.field-0.0 = search rules in
    let names = c.args.self.now.frame.names.now in
    let x = var_at names c.in-Assign.cell.variable in
    let put : g.row.N.Denot → ℕ → Runs g.row.N.Denot = λ w i k. Done (record s { store = set s.store x i w }) k in
    let go : g.row.N.Denot → Runs g.row.N.Denot = λ w k. with_value (target (setting_at e) x (terms_in names c.in-Assign.cell.subs) s.store) c.args.line (stand (setting_at e) s) (λ i. put w i k) in
    rw (c.in-Assign.is, r) (ends_ok e _ c.args.line c.in_ok-number-in-Assign.number (stand (setting_at e) s) go c.args.self.now.left (Err c.in_err-place-in-Assign.field-0.0) c.args.self.now (c.in_ok-number-in-Assign.ensures.value e s h) (ends_err e _ c.args.line c.in_err-place-in-Assign.field-0.0 c.args.self.now s (put c.in_ok-number-in-Assign.number) (c.in_err-place-in-Assign.ensures.target e s h) h))

pub perform-returns-in_ok-place-in-Assign-clause-ends : goal.perform-returns-in_ok-place-in-Assign-clause-ends
perform-returns-in_ok-place-in-Assign-clause-ends g t c e s h =
    let m = c.args.self.now in
    let names = m.frame.names.now in
    let x = var_at names c.in-Assign.cell.variable in
    let put : g.row.N.Denot → ℕ → Runs g.row.N.Denot = λ w i k. Done (record s { store = set s.store x i w }) k in
    let go : g.row.N.Denot → Runs g.row.N.Denot = λ w k. with_value (target (setting_at e) x (terms_in names c.in-Assign.cell.subs) s.store) c.args.line (stand (setting_at e) s) (λ i. put w i k) in
    rw c.in-Assign.is
    (ends_ok e _ c.args.line c.in_ok-number-in-Assign.number (stand (setting_at e) s) go m.left (Ok tt) c.put.new.self (c.in_ok-number-in-Assign.ensures.value e s h)
    (ends_ok e _ c.args.line c.in_ok-place-in-Assign.place (stand (setting_at e) s) (put c.in_ok-number-in-Assign.number) m.left (Ok tt) c.put.new.self (c.in_ok-place-in-Assign.ensures.target e s h)
    (done_at_once e m c.put.new.self _ (c.put.ensures.holds e s h) c.put.ensures.left)))

pub perform-returns-then-branch-clause-ends : goal.perform-returns-then-branch-clause-ends
perform-returns-then-branch-clause-ends g t c e s h =
    let q = calls_of {C = g.row.N.Denot} (units_in c.args.program.now) c.args.depth in
    let m = c.args.self.now in
    let names = m.frame.names.now in
    let n = setting_at e in
    let go : Bool → Runs g.row.N.Denot = λ p k. if p then run q n (steps_in names c.in-If.first) s k else run q n (steps_in names c.in-If.second) s k in
    rw c.in-If.is (ends_ok e _ c.args.line true (stand n s) go m.left c.run.result c.run.new.self (c.in_ok-holds-in-If.ensures.holds e s h ∙ ap Ok c.if-branch.true) (c.run.ensures.ends e s h))

pub perform-returns-else-branch-clause-ends : goal.perform-returns-else-branch-clause-ends
perform-returns-else-branch-clause-ends g t c e s h =
    let q = calls_of {C = g.row.N.Denot} (units_in c.args.program.now) c.args.depth in
    let m = c.args.self.now in
    let names = m.frame.names.now in
    let n = setting_at e in
    let go : Bool → Runs g.row.N.Denot = λ p k. if p then run q n (steps_in names c.in-If.first) s k else run q n (steps_in names c.in-If.second) s k in
    rw c.in-If.is (ends_ok e _ c.args.line false (stand n s) go m.left c.run-else-branch.result c.run-else-branch.new.self (c.in_ok-holds-in-If.ensures.holds e s h ∙ ap Ok c.if-branch.false) (c.run-else-branch.ensures.ends e s h))

pub perform-returns-in_err-holds-in-If-clause-ends : goal.perform-returns-in_err-holds-in-If-clause-ends
perform-returns-in_err-holds-in-If-clause-ends g t c e s h =
    let q = calls_of {C = g.row.N.Denot} (units_in c.args.program.now) c.args.depth in
    let r : c.from_residual-in_err-holds-in-If.result ≡ Err c.in_err-holds-in-If.field-0.0 = search rules in
    rw (c.in-If.is, r) (ends_err e _ c.args.line c.in_err-holds-in-If.field-0.0 c.args.self.now s _ (c.in_err-holds-in-If.ensures.holds e s h) h)

pub perform-returns-in-Loop-clause-ends : goal.perform-returns-in-Loop-clause-ends
perform-returns-in-Loop-clause-ends g t c e s h = rw c.in-Loop.is (c.repeat.ensures.ends e s h)

pub repeat-returns-in_err-first-clause-ends : goal.repeat-returns-in_err-first-clause-ends
repeat-returns-in_err-first-clause-ends g t c e s h =
    let q = calls_of {C = g.row.N.Denot} (units_in c.args.program.now) c.args.depth in
    let names = c.args.self.now.frame.names.now in
    let b = c.args.bounds.now in
    let n = setting_at e in
    let mark = marking_in names c.args.marking.now in
    let x = c.in_err-first.field-0.0 in
    let at = var_at names c.args.variable in
    let r : c.from_residual.result ≡ Err c.in_err-first.field-0.0 = search rules in
    let go : ℤ → ℤ → ℕ → Runs g.row.N.Denot = λ u z i k. then_do (turns n i (run q n (steps_in names c.args.body.now)) (stepped n at z) (with_turn n at (wrap u) s) k) (λ s1 j. Done (after_loop c.args.line i (in_force n mark s.store) s1) j) in
    let found = bounds_in n (term_in names b.first) (term_in names b.last) (term_in names b.by) mark s.store in
    rw r
    (ends_same e (λ k. with_value found c.args.line (stand n s) (λ p. go p.0 p.1 p.2 k)) _ c.args.self.now.left (Err x) c.args.self.now (λ k. bounds_chain n (term_in names b.first) (term_in names b.last) (term_in names b.by) mark s.store c.args.line (stand n s) (λ u z i. go u z i k))
    (ends_err e found c.args.line x c.args.self.now s (λ (p : ℤ × ℤ × ℕ). go p.0 p.1 p.2) (c.in_err-first.ensures.bounds e s h) h))

pub repeat-returns-clause-ends : goal.repeat-returns-clause-ends
repeat-returns-clause-ends g t c e s h =
    let q = calls_of {C = g.row.N.Denot} (units_in c.args.program.now) c.args.depth in
    let names = c.args.self.now.frame.names.now in
    let b = c.args.bounds.now in
    let n = setting_at e in
    let mark = marking_in names c.args.marking.now in
    let at = var_at names c.args.variable in
    let first = c.in_ok-first.first in
    let by = c.in_ok-first.by in
    let count = c.in_ok-first.turns in
    let fits : FitsSigned w64 c.in_ok-first.first = search rules in
    let fits_by : FitsSigned w64 c.in_ok-first.by = search rules in
    let bys = to_z-of_z w64 by fits_by in
    let word = to_z-of_z w64 first fits ∙ sym (wrap_word first fits) in
    let go : ℤ → ℤ → ℕ → Runs g.row.N.Denot = λ u z i k. then_do (turns n i (run q n (steps_in names c.args.body.now)) (stepped n at z) (with_turn n at (wrap u) s) k) (λ s1 j. Done (after_loop c.args.line i (in_force n mark s.store) s1) j) in
    let found = bounds_in n (term_in names b.first) (term_in names b.last) (term_in names b.by) mark s.store in
    let done = subst (λ z. z) (λ i. Ends e (turns n count (run q n (steps_in (c.turn.ensures.names i) c.args.body.now)) (stepped n (var_at (c.turn.ensures.names i) c.args.variable) (bys i)) (with_turn n at (word i) s)) (c.turn.ensures.left i) c.turns.result c.turns.new.self)
    (c.turns.ensures.ends e _ (c.turn.ensures.holds e s h)) in
    (ends_same e (λ k. with_value found c.args.line (stand n s) (λ p. go p.0 p.1 p.2 k)) _ c.args.self.now.left c.turns.result c.turns.new.self (λ k. bounds_chain n (term_in names b.first) (term_in names b.last) (term_in names b.by) mark s.store c.args.line (stand n s) (λ u z i. go u z i k))
    (ends_ok e found c.args.line (first, by, count) (stand n s) (λ (p : ℤ × ℤ × ℕ). go p.0 p.1 p.2) c.args.self.now.left c.turns.result c.turns.new.self (c.in_ok-first.ensures.bounds e s h)
    (ends_loop e _ c.args.self.now.left c.args.line count (in_force n mark s.store) c.turns.result c.turns.new.self done)))

pub perform-returns-in-Run-clause-ends : goal.perform-returns-in-Run-clause-ends
perform-returns-in-Run-clause-ends g t c e s h = rw c.in-Run.is (c.serve.ensures.ends e s h)

pub perform-returns-in-While-clause-ends : goal.perform-returns-in-While-clause-ends
perform-returns-in-While-clause-ends g t c e s h =
    let q = calls_of {C = g.row.N.Denot} (units_in c.args.program.now) c.args.depth in
    rw c.in-While.is (c.tests.ensures.ends e s h)

-- ---- turns

pub turns-loop-remaining-init : goal.turns-loop-remaining-init
turns-loop-remaining-init g t c = record {
  room = refl;
  names = refl;
  framed = c.requires.framed;
  counts = refl;
  reached = λ e s h. let q = calls_of {C = g.row.N.Denot} (units_in c.args.program.now) c.args.depth in reaches_start e (turns (setting_at e) c.args.count (run q (setting_at e) (steps_in c.args.self.now.frame.names.now c.args.body.now)) (stepped (setting_at e) (var_at c.args.self.now.frame.names.now c.args.course.now.variable) c.args.course.now.by)) c.args.self.now s h;
}

pub turns-returns-then-not-count-clause-ends : goal.turns-returns-then-not-count-clause-ends
turns-returns-then-not-count-clause-ends g t c e s h =
    let q = calls_of {C = g.row.N.Denot} (units_in c.args.program.now) c.args.depth in
    let names = c.args.self.now.frame.names.now in
    let body = run q (setting_at e) (steps_in names c.args.body.now) in
    let after = stepped (setting_at e) (var_at names c.args.course.now.variable) c.args.course.now.by in
    let o = turns (setting_at e) c.args.count body after s in
    let none = c.count.ensures.none c.if-not-count.true in
    subst (λ m. Ends e o c.args.self.now.left (Err stop.Budget) m) (sym none.0) (turn_budget e body after c.loop-remaining.remaining o c.loop-remaining.self c.loop-remaining-test.true none.1 (c.loop-remaining.invariant.reached e s h))

pub turns-returns-in_err-run-clause-ends : goal.turns-returns-in_err-run-clause-ends
turns-returns-in_err-run-clause-ends g t c e s h =
    let q = calls_of {C = g.row.N.Denot} (units_in c.args.program.now) c.args.depth in
    let names = c.args.self.now.frame.names.now in
    let body = run q (setting_at e) (steps_in names c.args.body.now) in
    let after = stepped (setting_at e) (var_at names c.args.course.now.variable) c.args.course.now.by in
    let o = turns (setting_at e) c.args.count body after s in
    let some = c.count.ensures.some c.if-not-count.false in
    let same = ap (λ (m : Machine _). m.frame.names.now) (sym some) ∙ c.loop-remaining.invariant.names in
    let x = c.in_err-run.field-0.0 in
    let r : c.from_residual.result ≡ Err c.in_err-run.field-0.0 = search rules in
    subst (λ z. Ends e o c.args.self.now.left z c.run.new.self) (sym r)
    (turn_break e body after c.loop-remaining.remaining o x c.loop-remaining.self c.count.new.self c.run.new.self c.loop-remaining-test.true some
    (λ z g. subst (λ ns. Ends e (run q (setting_at e) (steps_in ns c.args.body.now) z) c.count.new.self.left (Err x) c.run.new.self) same (c.in_err-run.ensures.ends e z g))
    (c.loop-remaining.invariant.reached e s h))

pub turns-advance-requires-clause-there : goal.turns-advance-requires-clause-there
turns-advance-requires-clause-there g t c =
    let same = ap (λ (m : Machine _). m.frame.names.now) (sym (c.count.ensures.some c.if-not-count.false)) ∙ c.loop-remaining.invariant.names in
    subst (λ ns. c.args.course.now.variable < length ns) (sym (c.in_ok-run.ensures.names ∙ same)) c.requires.there

pub turns-loop-remaining-preserved : goal.turns-loop-remaining-preserved
turns-loop-remaining-preserved g t c =
    let names = c.args.self.now.frame.names.now in
    let some = c.count.ensures.some c.if-not-count.false in
    let same = ap (λ (m : Machine _). m.frame.names.now) (sym some) ∙ c.loop-remaining.invariant.names in
    let still = c.in_ok-run.ensures.names ∙ same in
    record {
      room = c.advance.ensures.room ∙ c.in_ok-run.ensures.room ∙ ap (λ (m : Machine _). m.tape.room) (sym some) ∙ c.loop-remaining.invariant.room;
      names = c.advance.ensures.names ∙ still;
      framed = subst (λ ns. IsFrame ns c.advance.new.self.frame.slots.items) still c.advance.ensures.framed;
      counts = c.advance.ensures.counts ∙ c.in_ok-run.ensures.counts ∙ ap (λ (m : Machine _). counts_in m.frame.slots.items) (sym some) ∙ c.loop-remaining.invariant.counts;
      reached = λ e s h.
          let q = calls_of {C = g.row.N.Denot} (units_in c.args.program.now) c.args.depth in
          let body = run q (setting_at e) (steps_in names c.args.body.now) in
          let after = stepped (setting_at e) (var_at names c.args.course.now.variable) c.args.course.now.by in
          let o = turns (setting_at e) c.args.count body after s in
          turn_next e body after c.loop-remaining.remaining o c.in_ok-run.field-0 c.loop-remaining.self c.count.new.self c.run.new.self c.advance.new.self c.loop-remaining-test.true some
          (λ z g. subst (λ ns. Ends e (run q (setting_at e) (steps_in ns c.args.body.now) z) c.count.new.self.left (Ok c.in_ok-run.field-0) c.run.new.self) same (c.in_ok-run.ensures.ends e z g))
          c.advance.ensures.left
          (λ z g. subst (λ ns. Holds e c.advance.new.self (stepped (setting_at e) (var_at ns c.args.course.now.variable) c.args.course.now.by z)) still (c.advance.ensures.holds e z g))
          (c.loop-remaining.invariant.reached e s h);
    }

pub turns-returns-clause-ends : goal.turns-returns-clause-ends
turns-returns-clause-ends g t c e s h =
    let q = calls_of {C = g.row.N.Denot} (units_in c.args.program.now) c.args.depth in
    let names = c.args.self.now.frame.names.now in
    let body = run q (setting_at e) (steps_in names c.args.body.now) in
    let after = stepped (setting_at e) (var_at names c.args.course.now.variable) c.args.course.now.by in
    let o = turns (setting_at e) c.args.count body after s in
    let none : c.loop-remaining.remaining ≡ 0 = search rules in
    turn_end e body after c.loop-remaining.remaining o tt c.loop-remaining.self none (c.loop-remaining.invariant.reached e s h)

-- ---- tests

pub tests-loop-self-init : goal.tests-loop-self-init
tests-loop-self-init g t c = record {
  room = refl;
  names = refl;
  framed = c.requires.framed;
  counts = refl;
  reached = λ e s h. let q = calls_of {C = g.row.N.Denot} (units_in c.args.program.now) c.args.depth in reaches_start e (tests (setting_at e) c.most_tests-remaining.result (λ s1. holds (setting_at e) (test_in c.args.self.now.frame.names.now c.args.test.now) s1.store) c.args.line (run q (setting_at e) (steps_in c.args.self.now.frame.names.now c.args.body.now))) c.args.self.now s h;
}

pub tests-returns-in_err-holds-clause-ends : goal.tests-returns-in_err-holds-clause-ends
tests-returns-in_err-holds-clause-ends g t c e s h =
    let q = calls_of {C = g.row.N.Denot} (units_in c.args.program.now) c.args.depth in
    let names = c.args.self.now.frame.names.now in
    let line = c.args.line in
    let i = c.loop-self.remaining in
    let test : Scene g.row.N.Denot → Result Bool Trap = λ s1. holds (setting_at e) (test_in names c.args.test.now) s1.store in
    let body = run q (setting_at e) (steps_in names c.args.body.now) in
    let o = tests (setting_at e) c.most_tests-remaining.result test line body s in
    let whole = ap (λ j. tests (setting_at e) j test line body s) c.most_tests-remaining.ensures in
    let same = c.loop-self.invariant.names in
    let reached = c.loop-self.invariant.reached e s h in
    let x = c.in_err-holds.field-0.0 in
    let r : c.from_residual.result ≡ Err c.in_err-holds.field-0.0 = search rules in
    subst (λ z. Ends e z c.args.self.now.left c.from_residual.result c.loop-self.self) whole
    (subst (λ z. Ends e o c.args.self.now.left z c.loop-self.self) (sym r)
    (test_err e test line body i o x c.loop-self.self (λ z g. subst (λ ns. Finds line (holds (setting_at e) (test_in ns c.args.test.now) z.store) (Err x)) same (c.in_err-holds.ensures.holds e z g)) reached))

pub tests-returns-then-remaining-eq0-clause-ends : goal.tests-returns-then-remaining-eq0-clause-ends
tests-returns-then-remaining-eq0-clause-ends g t c e s h =
    let q = calls_of {C = g.row.N.Denot} (units_in c.args.program.now) c.args.depth in
    let names = c.args.self.now.frame.names.now in
    let line = c.args.line in
    let i = c.loop-self.remaining in
    let test : Scene g.row.N.Denot → Result Bool Trap = λ s1. holds (setting_at e) (test_in names c.args.test.now) s1.store in
    let body = run q (setting_at e) (steps_in names c.args.body.now) in
    let o = tests (setting_at e) c.most_tests-remaining.result test line body s in
    let whole = ap (λ j. tests (setting_at e) j test line body s) c.most_tests-remaining.ensures in
    let same = c.loop-self.invariant.names in
    let reached = c.loop-self.invariant.reached e s h in
    let found : (z : Scene g.row.N.Denot) → Holds e c.loop-self.self z → Finds {A = Bool} line (test z) (Ok true) = λ z g. ap (λ ns. holds (setting_at e) (test_in ns c.args.test.now) z.store) (sym same) ∙ c.in_ok-holds.ensures.holds e z g ∙ ap Ok c.if-branch.true in
    subst (λ z. Ends e z c.args.self.now.left (Err (stop.Trap trap.Step line)) c.loop-self.self) whole
    (test_last e test line body i o c.loop-self.self c.if-remaining-eq0.true found reached)

pub tests-returns-in_err-run-clause-ends : goal.tests-returns-in_err-run-clause-ends
tests-returns-in_err-run-clause-ends g t c e s h =
    let q = calls_of {C = g.row.N.Denot} (units_in c.args.program.now) c.args.depth in
    let names = c.args.self.now.frame.names.now in
    let line = c.args.line in
    let i = c.loop-self.remaining in
    let test : Scene g.row.N.Denot → Result Bool Trap = λ s1. holds (setting_at e) (test_in names c.args.test.now) s1.store in
    let body = run q (setting_at e) (steps_in names c.args.body.now) in
    let o = tests (setting_at e) c.most_tests-remaining.result test line body s in
    let whole = ap (λ j. tests (setting_at e) j test line body s) c.most_tests-remaining.ensures in
    let same = c.loop-self.invariant.names in
    let reached = c.loop-self.invariant.reached e s h in
    let found : (z : Scene g.row.N.Denot) → Holds e c.loop-self.self z → Finds {A = Bool} line (test z) (Ok true) = λ z g. ap (λ ns. holds (setting_at e) (test_in ns c.args.test.now) z.store) (sym same) ∙ c.in_ok-holds.ensures.holds e z g ∙ ap Ok c.if-branch.true in
    let x = c.in_err-run.field-0.0 in
    let some : 0 < c.loop-self.remaining = search rules in
    let r : c.from_residual-in_err-run.result ≡ Err c.in_err-run.field-0.0 = search rules in
    subst (λ z. Ends e z c.args.self.now.left c.from_residual-in_err-run.result c.run.new.self) whole
    (subst (λ z. Ends e o c.args.self.now.left z c.run.new.self) (sym r)
    (test_break e test line body i o x c.loop-self.self c.run.new.self some found
    (λ z g. subst (λ ns. Ends e (run q (setting_at e) (steps_in ns c.args.body.now) z) c.loop-self.self.left (Err x) c.run.new.self) same (c.in_err-run.ensures.ends e z g))
    reached))

pub tests-returns-then-not-count-clause-ends : goal.tests-returns-then-not-count-clause-ends
tests-returns-then-not-count-clause-ends g t c e s h =
    let q = calls_of {C = g.row.N.Denot} (units_in c.args.program.now) c.args.depth in
    let names = c.args.self.now.frame.names.now in
    let line = c.args.line in
    let i = c.loop-self.remaining in
    let test : Scene g.row.N.Denot → Result Bool Trap = λ s1. holds (setting_at e) (test_in names c.args.test.now) s1.store in
    let body = run q (setting_at e) (steps_in names c.args.body.now) in
    let o = tests (setting_at e) c.most_tests-remaining.result test line body s in
    let whole = ap (λ j. tests (setting_at e) j test line body s) c.most_tests-remaining.ensures in
    let same = c.loop-self.invariant.names in
    let reached = c.loop-self.invariant.reached e s h in
    let found : (z : Scene g.row.N.Denot) → Holds e c.loop-self.self z → Finds {A = Bool} line (test z) (Ok true) = λ z g. ap (λ ns. holds (setting_at e) (test_in ns c.args.test.now) z.store) (sym same) ∙ c.in_ok-holds.ensures.holds e z g ∙ ap Ok c.if-branch.true in
    let none = c.count.ensures.none c.if-not-count.true in
    let some : 0 < c.loop-self.remaining = search rules in
    subst (λ z. Ends e z c.args.self.now.left (Err stop.Budget) c.count.new.self) whole
    (subst (λ m. Ends e o c.args.self.now.left (Err stop.Budget) m) (sym none.0)
    (test_budget e test line body i o c.in_ok-run.field-0 c.loop-self.self c.run.new.self some found
    (λ z g. subst (λ ns. Ends e (run q (setting_at e) (steps_in ns c.args.body.now) z) c.loop-self.self.left (Ok c.in_ok-run.field-0) c.run.new.self) same (c.in_ok-run.ensures.ends e z g))
    none.1 reached))

pub tests-loop-self-preserved : goal.tests-loop-self-preserved
tests-loop-self-preserved g t c =
    let names = c.args.self.now.frame.names.now in
    let line = c.args.line in
    let some = c.count.ensures.some c.if-not-count.false in
    let same = c.loop-self.invariant.names in
    let still = c.in_ok-run.ensures.names ∙ same in
    let after = ap (λ (m : Machine _). m.frame.names.now) (sym some) in
    let framed = subst (λ ns. IsFrame ns c.run.new.self.frame.slots.items) same c.in_ok-run.ensures.framed in
    let positive : 0 < c.loop-self.remaining = search rules in
    record {
      room = ap (λ (m : Machine _). m.tape.room) (sym some) ∙ c.in_ok-run.ensures.room ∙ c.loop-self.invariant.room;
      names = after ∙ still;
      framed = subst (λ (m : Machine _). IsFrame names m.frame.slots.items) some framed;
      counts = ap (λ (m : Machine _). counts_in m.frame.slots.items) (sym some) ∙ c.in_ok-run.ensures.counts ∙ c.loop-self.invariant.counts;
      reached = λ e s h.
          let q = calls_of {C = g.row.N.Denot} (units_in c.args.program.now) c.args.depth in
          let test : Scene g.row.N.Denot → Result Bool Trap = λ s1. holds (setting_at e) (test_in names c.args.test.now) s1.store in
          let body = run q (setting_at e) (steps_in names c.args.body.now) in
          let o = tests (setting_at e) c.most_tests-remaining.result test line body s in
          test_next e test line body c.loop-self.remaining o c.in_ok-run.field-0 c.loop-self.self c.run.new.self c.count.new.self positive
          (λ (z : Scene g.row.N.Denot) g. ap (λ ns. holds (setting_at e) (test_in ns c.args.test.now) z.store) (sym same) ∙ c.in_ok-holds.ensures.holds e z g ∙ ap Ok c.if-branch.true)
          (λ z g. subst (λ ns. Ends e (run q (setting_at e) (steps_in ns c.args.body.now) z) c.loop-self.self.left (Ok c.in_ok-run.field-0) c.run.new.self) same (c.in_ok-run.ensures.ends e z g))
          some
          (c.loop-self.invariant.reached e s h);
    }

pub tests-returns-clause-ends : goal.tests-returns-clause-ends
tests-returns-clause-ends g t c e s h =
    let q = calls_of {C = g.row.N.Denot} (units_in c.args.program.now) c.args.depth in
    let names = c.args.self.now.frame.names.now in
    let line = c.args.line in
    let i = c.loop-self.remaining in
    let test : Scene g.row.N.Denot → Result Bool Trap = λ s1. holds (setting_at e) (test_in names c.args.test.now) s1.store in
    let body = run q (setting_at e) (steps_in names c.args.body.now) in
    let o = tests (setting_at e) c.most_tests-remaining.result test line body s in
    let whole = ap (λ j. tests (setting_at e) j test line body s) c.most_tests-remaining.ensures in
    let same = c.loop-self.invariant.names in
    let reached = c.loop-self.invariant.reached e s h in
    let found : (z : Scene g.row.N.Denot) → Holds e c.loop-self.self z → Finds {A = Bool} line (test z) (Ok false) = λ z g. ap (λ ns. holds (setting_at e) (test_in ns c.args.test.now) z.store) (sym same) ∙ c.in_ok-holds.ensures.holds e z g ∙ ap Ok c.if-branch.false in
    subst (λ z. Ends e z c.args.self.now.left (Ok tt) c.loop-self.self) whole
    (test_end e test line body i o tt c.loop-self.self found reached)

-- ---- calls

pub perform-call-requires : goal.perform-call-requires
perform-call-requires g t c κs alive =
    let below = rw c.in-Call.is at c.requires.below in
    let linked = rw c.in-Call.is at c.requires.linked in
    let suited = rw c.in-Call.is at c.requires.suited in
    (omega (arith, c.decreases), (alive, (c.requires.framed, (below, (c.requires.program, (λ u e. suited u (linked ∙ e)))))))

pub tests-run-requires : goal.tests-run-requires
tests-run-requires g t c κs alive =
    let inv = c.loop-self.invariant in
    let suited = subst (λ z. z) (λ i. AreSuited (units_in c.args.program.now) (HasOneCell (sym inv.names i) (sym inv.counts i)) (steps_in (sym inv.names i) c.args.body.now)) c.requires.suited in
    (omega (arith, c.decreases), (alive, (subst (λ ns. IsFrame ns c.loop-self.self.frame.slots.items) (sym inv.names) inv.framed, (subst (λ ns. AreStepsBelow (length ns) c.args.body.now) (sym inv.names) c.requires.below, (c.requires.program, (c.requires.linked, suited))))))

pub turns-run-requires : goal.turns-run-requires
turns-run-requires g t c κs alive =
    let inv = c.loop-remaining.invariant in
    let some = c.count.ensures.some c.if-not-count.false in
    let same = ap (λ (m : Machine _). m.frame.names.now) (sym some) ∙ inv.names in
    let framed = subst (λ (m : Machine _). IsFrame c.args.self.now.frame.names.now m.frame.slots.items) some inv.framed in
    let counts = ap (λ (m : Machine _). counts_in m.frame.slots.items) (sym some) ∙ inv.counts in
    let suited = subst (λ z. z) (λ i. AreSuited (units_in c.args.program.now) (HasOneCell (sym same i) (sym counts i)) (steps_in (sym same i) c.args.body.now)) c.requires.suited in
    (omega (arith, c.decreases), (alive, (subst (λ ns. IsFrame ns c.count.new.self.frame.slots.items) (sym same) framed, (subst (λ ns. AreStepsBelow (length ns) c.args.body.now) (sym same) c.requires.below, (c.requires.program, (c.requires.linked, suited))))))

pub perform-returns-in-Call-clause-ends : goal.perform-returns-in-Call-clause-ends
perform-returns-in-Call-clause-ends g t c e s h =
    let linked = rw c.in-Call.is at c.requires.linked in
    rw c.in-Call.is (c.call.ensures.ends c.in-Call._name linked e s h)

pub call-returns-then-depth-eq0-clause-ends : goal.call-returns-then-depth-eq0-clause-ends
call-returns-then-depth-eq0-clause-ends g t c name found e s h =
    subst (λ d. HasMore g.N.Number.numbers c.args.self.now (calls_of {C = g.row.N.Denot} (units_in c.args.program.now) d (setting_at e) name (terms_in c.args.self.now.frame.names.now c.args.terms.now) c.args.line s c.args.self.now.left)) (sym c.if-depth-eq0.true) (holds_stand e c.args.self.now s h)

pub call-returns-then-number-program-clause-ends : goal.call-returns-then-number-program-clause-ends
call-returns-then-number-program-clause-ends g t c name found e s h =
    let m = c.args.self.now in
    let past = call_past c.args.program.now c.args.depth c.args.number name (positive c.args.depth c.if-depth-eq0.false) found (setting_at e) (terms_in m.frame.names.now c.args.terms.now) c.args.line s c.if-number-program.true in
    subst (λ z. Ends e z m.left (Err (stop.Trap trap.Shape c.args.line)) m) (sym past)
    (uses_none (λ k. Trapped shape_trap c.args.line (stand (setting_at e) s)) m.left m.left refl (λ j. IsTrapped g.N.Number.numbers m trap.Shape c.args.line) (λ j. (refl, refl, holds_stand e m s h)))

pub call_given-returns-in_err-actuals-clause-ends : goal.call_given-returns-in_err-actuals-clause-ends
call_given-returns-in_err-actuals-clause-ends g t c name found e s h =
    let rs = c.args.program.now in
    let m = c.args.self.now in
    let names = m.frame.names.now in
    let args = terms_in names c.args.terms.now in
    let r = c.index-program-number.result in
    let lt = c.requires.number in
    let k = subst (IsRoutine (units_in rs)) (sym c.index-program-number.is) (c.requires.program c.args.number r lt) in
    let at = call_at rs c.args.depth c.args.number name c.requires.deep found (setting_at e) args c.args.line s r r.writes.now lt c.index-program-number.is k.writes in
    let x = c.in_err-actuals.field-0.0 in
    let err : c.from_residual.result ≡ Err c.in_err-actuals.field-0.0 = search rules in
    let o = calls_of {C = g.row.N.Denot} (units_in rs) c.args.depth (setting_at e) name args c.args.line s in
    subst (λ z. Ends e o m.left z m) (sym err)
    (subst (λ z. Ends e z m.left (Err x) m) (sym at) (call_err (calls_of {C = g.row.N.Denot} (units_in rs) (c.args.depth - 1)) e s r r.writes.now args c.args.line m h (λ (v : Vec (Actual _) Global). actuals_in names e.shape s.store v.items) x (c.in_err-actuals.ensures.actuals e.shape (Some e.room) e.level s.store h.shown)))

pub call_given-returns-in_err-entered-clause-ends : goal.call_given-returns-in_err-entered-clause-ends
call_given-returns-in_err-entered-clause-ends g t c name found e s h =
    let rs = c.args.program.now in
    let m = c.args.self.now in
    let names = m.frame.names.now in
    let args = terms_in names c.args.terms.now in
    let r = c.index-program-number.result in
    let lt = c.requires.number in
    let k = subst (IsRoutine (units_in rs)) (sym c.index-program-number.is) (c.requires.program c.args.number r lt) in
    let at = call_at rs c.args.depth c.args.number name c.requires.deep found (setting_at e) args c.args.line s r r.writes.now lt c.index-program-number.is k.writes in
    let x = c.in_err-entered.field-0.0 in
    let err : c.from_residual-in_err-entered.result ≡ Err c.in_err-entered.field-0.0 = search rules in
    let o = calls_of {C = g.row.N.Denot} (units_in rs) c.args.depth (setting_at e) name args c.args.line s in
    let got = actuals_in names e.shape s.store c.in_ok-actuals.actuals.items in
    let misfit = misfit_at x c.args.line (λ f. ap (λ all. fit_from g.N.Number.numbers r (actuals_in names e.shape s.store all) 0) (sym c.as_slice-given.ensures.value) ∙ f e.shape s.store h.shown) c.in_err-entered.ensures.misfit in
    subst (λ z. Ends e o m.left z m) (sym err)
    (subst (λ z. Ends e z m.left (Err x) m) (sym at) (call_misfit (calls_of {C = g.row.N.Denot} (units_in rs) (c.args.depth - 1)) e s r r.writes.now args c.args.line m h got (c.in_ok-actuals.ensures.actuals e.shape (Some e.room) e.level s.store h.shown) x misfit))

pub call_given-run-ended-requires : goal.call_given-run-ended-requires
call_given-run-ended-requires g t c κs alive =
    let rs = c.args.program.now in
    let r = c.index-program-number.result in
    let lt = c.requires.number in
    let k = subst (IsRoutine (units_in rs)) (sym c.index-program-number.is) (c.requires.program c.args.number r lt) in
    let f = c.in_ok-entered.ensures in
    let o = c.in_ok-outer.ensures in
    let us = c.enter.new.self.frame.slots.items in
    let filled = o.filled r f.lent in
    let names = o.names ∙ f.names in
    let framed = f.framed us filled in
    let size = ap (λ (z : Routine). size-Steps z.body) c.index-program-number.is in
    let within = size_within rs c.args.number r lt in
    let less = less_deep c.args.depth (suc (2 * all_sizes rs)) (2 * size-Steps r.body) 0 c.requires.deep (omega (arith, size, within)) in
    let m = c.args.self.now.frame in
    let mine = shapes_in m.names.now m.slots.items in
    let held = store_in g.N.Number.numbers m.names.now m.slots.items in
    let got = actuals_in m.names.now mine held c.as_slice-given.result.now in
    let shown = f.shown us filled mine held (shows_itself g.N.Number.numbers m.names.now m.slots.items) in
    let suited = entered_suited (units_in rs) r (entered_with g.N.Number.numbers r got) (shapes_with g.N.Number.numbers r got) (entered_with g.N.Number.numbers r got) c.enter.new.self.frame k names framed shown (λ x. refl) in
    (omega (arith, c.decreases, less), (alive, (subst (λ ns. IsFrame ns us) (sym names) framed, (subst (λ ns. AreStepsBelow (length ns) r.body) (sym names) k.below, (c.requires.program, (k.linked, suited))))))

-- ---- what is handed back

-- the caller's slots have lent their cells
pub call_given-hand_back-requires-clause-framed : goal.call_given-hand_back-requires-clause-framed
call_given-hand_back-requires-clause-framed g t c =
    let r = c.index-program-number.result in
    let m = c.args.self.now.frame in
    let o = c.in_ok-outer.ensures in
    let all = c.as_slice-given.result.now in
    let outer = c.in_ok-outer.outer.frame in
    let frame = ap (λ (z : Machine _). z.frame) c.leave-inner.ensures.back in
    let lent = o.lent r c.in_ok-entered.ensures.lent in
    subst (λ (z : Frame _). IsFrameFrom r all 0 z.names.now z.slots.items) (sym frame)
    (subst (λ ns. IsFrameFrom r all 0 ns outer.slots.items) (sym o.caller) (lent_frame r all m.names.now m.slots.items outer.slots.items c.requires.framed lent))

pub call_given-hand_back-requires-clause-below : goal.call_given-hand_back-requires-clause-below
call_given-hand_back-requires-clause-below g t c =
    let r = c.index-program-number.result in
    let m = c.args.self.now.frame in
    let all = c.as_slice-given.result.now in
    let outer = c.in_ok-outer.outer.frame in
    let frame = ap (λ (z : Machine _). z.frame) c.leave-inner.ensures.back in
    let lent = c.in_ok-outer.ensures.lent r c.in_ok-entered.ensures.lent in
    let below = subst (AreActualsBelow m.slots.items) (sym c.as_slice-given.ensures.value) c.in_ok-actuals.ensures.below in
    subst (λ (z : Frame _). AreActualsWithin z.slots.items all) (sym frame) (lent_within r all m.names.now m.slots.items outer.slots.items c.requires.framed lent below)

-- the unit is laid out
pub call_given-hand_back-requires-clause-laid : goal.call_given-hand_back-requires-clause-laid
call_given-hand_back-requires-clause-laid g t c =
    let rs = c.args.program.now in
    let k = subst (IsRoutine (units_in rs)) (sym c.index-program-number.is) (c.requires.program c.args.number c.index-program-number.result c.requires.number) in
    k.laid

-- what is handed back has the cells of the actuals
pub call_given-hand_back-requires-clause-large : goal.call_given-hand_back-requires-clause-large
call_given-hand_back-requires-clause-large g t c =
    let rs = c.args.program.now in
    let r = c.index-program-number.result in
    let lt = c.requires.number in
    let k = subst (IsRoutine (units_in rs)) (sym c.index-program-number.is) (c.requires.program c.args.number r lt) in
    let m = c.args.self.now.frame in
    let mine = shapes_in m.names.now m.slots.items in
    let held = store_in g.N.Number.numbers m.names.now m.slots.items in
    let f = c.in_ok-entered.ensures in
    let itself = shows_itself g.N.Number.numbers m.names.now m.slots.items in
    let found = c.in_ok-actuals.ensures.actuals mine None 0 held itself in
    let value = c.as_slice-given.ensures.value in
    let all = c.as_slice-given.result.now in
    let us = c.enter.new.self.frame.slots.items in
    let filled = c.in_ok-outer.ensures.filled r f.lent in
    let got = actuals_in m.names.now mine held all in
    let is = unit_at rs c.args.number r lt ∙ ap (λ (z : Routine). Some (procedure_of z.unit.now)) (sym c.index-program-number.is) in
    let suited = got_suited (HasOneCell m.names.now (counts_in m.slots.items)) (on_numbers g.N.Number.numbers mine None 0) held (procedure_of r.unit.now) r.unit.now.dummies (terms_in m.names.now c.args.terms.now) got (found ∙ ap (λ (xs : List (Actual _)). Ok (actuals_in m.names.now mine held xs)) (sym value)) (c.requires.suited (procedure_of r.unit.now) is) in
    let below = subst (AreActualsBelow m.slots.items) (sym value) c.in_ok-actuals.ensures.below in
    let large = as_large g.N.Number.numbers r k.laid m.names.now m.slots.items us all c.requires.framed (f.framed us filled) below (f.fits mine held itself) (f.shown us filled mine held itself) suited in
    let outer = c.in_ok-outer.outer.frame in
    let lent = c.in_ok-outer.ensures.lent r f.lent in
    let sizes = ap (λ (z : Machine _). sizes_in z.frame.slots.items) c.leave-inner.ensures.back ∙ lent_sizes r all m.names.now m.slots.items outer.slots.items c.requires.framed lent in
    let inner = ap (λ (z : Frame _). counts_in z.slots.items) c.leave-inner.ensures.frame ∙ c.run-ended.ensures.counts in
    subst (λ z. z) (λ i. AreAsLarge (length r.unit.now.dummies) (sym sizes i) all (sym inner i)) large

pub call_given-returns-in_err-ended-clause-ends : goal.call_given-returns-in_err-ended-clause-ends
call_given-returns-in_err-ended-clause-ends g t c name found e s h =
    let rs = c.args.program.now in
    let m = c.args.self.now in
    let names = m.frame.names.now in
    let args = terms_in names c.args.terms.now in
    let r = c.index-program-number.result in
    let lt = c.requires.number in
    let k = subst (IsRoutine (units_in rs)) (sym c.index-program-number.is) (c.requires.program c.args.number r lt) in
    let at = call_at rs c.args.depth c.args.number name c.requires.deep found (setting_at e) args c.args.line s r r.writes.now lt c.index-program-number.is k.writes in
    let x = c.in_err-ended.field-0.0 in
    let err : c.from_residual-in_err-ended.result ≡ Err c.in_err-ended.field-0.0 = search rules in
    let o = calls_of {C = g.row.N.Denot} (units_in rs) c.args.depth (setting_at e) name args c.args.line s in
    let q = calls_of {C = g.row.N.Denot} (units_in rs) (c.args.depth - 1) in
    let got = actuals_in names e.shape s.store c.in_ok-actuals.actuals.items in
    let value = c.as_slice-given.ensures.value in
    let f = c.in_ok-entered.ensures in
    let us = c.enter.new.self.frame.slots.items in
    let filled = c.in_ok-outer.ensures.filled r f.lent in
    let fit = ap (λ all. fit_from g.N.Number.numbers r (actuals_in names e.shape s.store all) 0) (sym value) ∙ f.fits e.shape s.store h.shown in
    let shown = subst (λ all. Shows g.N.Number.numbers r.names c.enter.new.self.frame.slots.items (shapes_with g.N.Number.numbers r (actuals_in names e.shape s.store all)) (entered_with g.N.Number.numbers r (actuals_in names e.shape s.store all))) value (f.shown us filled e.shape s.store h.shown) in
    let entered_names = c.in_ok-outer.ensures.names ∙ f.names in
    let here = subst (λ ns. Shows g.N.Number.numbers ns c.enter.new.self.frame.slots.items (shapes_with g.N.Number.numbers r got) (entered_with g.N.Number.numbers r got)) (sym entered_names) shown in
    let holds = c.in_ok-outer.ensures.holds e s (shapes_with g.N.Number.numbers r got) (entered_with g.N.Number.numbers r got) r.unit.now.name _ h here in
    let ends = unit_ends q (inside e (shapes_with g.N.Number.numbers r got) (length m.tally.begun)) _ r c.enter.new.self.frame.names.now m.left c.enter.new.self.left (Err x) c.run-ended.new.self entered_names k.body c.in_ok-outer.ensures.left (c.in_err-ended.ensures.ends (inside e (shapes_with g.N.Number.numbers r got) (length m.tally.begun)) _ holds) in
    let m3 = c.hand_back.new.self in
    let back = c.leave-inner.ensures.back in
    let same = c.hand_back.ensures.same in
    subst (λ z. Ends e o m.left z m3) (sym err)
    (subst (λ z. Ends e z m.left (Err x) m3) (sym at)
    (call_break q e s r r.writes.now args c.args.line m h got (c.in_ok-actuals.ensures.actuals e.shape (Some e.room) e.level s.store h.shown) fit c.run-ended.new.self x m3 ends (ap (λ (z : Machine _). z.left) same ∙ ap (λ (z : Machine _). z.left) back) (ap (λ (z : Machine _). z.tape) same ∙ ap (λ (z : Machine _). z.tape) back) (ap (λ (z : Machine _). z.tally) same ∙ ap (λ (z : Machine _). z.tally) back)))

pub call_given-returns-then-not-is_closed-clause-ends : goal.call_given-returns-then-not-is_closed-clause-ends
call_given-returns-then-not-is_closed-clause-ends g t c name found e s h =
    let rs = c.args.program.now in
    let m = c.args.self.now in
    let names = m.frame.names.now in
    let args = terms_in names c.args.terms.now in
    let r = c.index-program-number.result in
    let lt = c.requires.number in
    let k = subst (IsRoutine (units_in rs)) (sym c.index-program-number.is) (c.requires.program c.args.number r lt) in
    let at = call_at rs c.args.depth c.args.number name c.requires.deep found (setting_at e) args c.args.line s r r.writes.now lt c.index-program-number.is k.writes in
    let q = calls_of {C = g.row.N.Denot} (units_in rs) (c.args.depth - 1) in
    let got = actuals_in names e.shape s.store c.in_ok-actuals.actuals.items in
    let value = c.as_slice-given.ensures.value in
    let f = c.in_ok-entered.ensures in
    let us = c.enter.new.self.frame.slots.items in
    let filled = c.in_ok-outer.ensures.filled r f.lent in
    let fit = ap (λ all. fit_from g.N.Number.numbers r (actuals_in names e.shape s.store all) 0) (sym value) ∙ f.fits e.shape s.store h.shown in
    let shown = subst (λ all. Shows g.N.Number.numbers r.names c.enter.new.self.frame.slots.items (shapes_with g.N.Number.numbers r (actuals_in names e.shape s.store all)) (entered_with g.N.Number.numbers r (actuals_in names e.shape s.store all))) value (f.shown us filled e.shape s.store h.shown) in
    let entered_names = c.in_ok-outer.ensures.names ∙ f.names in
    let here = subst (λ ns. Shows g.N.Number.numbers ns c.enter.new.self.frame.slots.items (shapes_with g.N.Number.numbers r got) (entered_with g.N.Number.numbers r got)) (sym entered_names) shown in
    let holds = c.in_ok-outer.ensures.holds e s (shapes_with g.N.Number.numbers r got) (entered_with g.N.Number.numbers r got) r.unit.now.name _ h here in
    let ends = unit_ends q (inside e (shapes_with g.N.Number.numbers r got) (length m.tally.begun)) _ r c.enter.new.self.frame.names.now m.left c.enter.new.self.left (Ok tt) c.run-ended.new.self entered_names k.body c.in_ok-outer.ensures.left (c.in_ok-ended.ensures.ends (inside e (shapes_with g.N.Number.numbers r got) (length m.tally.begun)) _ holds) in
    let m3 = c.hand_back.new.self in
    let back = c.leave-inner.ensures.back in
    let same = c.hand_back.ensures.same in
    subst (λ z. Ends e z m.left (Err (stop.Trap trap.Schedule c.args.line)) m3) (sym at)
    (call_open q e s r r.writes.now args c.args.line m h got (c.in_ok-actuals.ensures.actuals e.shape (Some e.room) e.level s.store h.shown) fit c.run-ended.new.self m3 ends (sym c.leave-inner.ensures.closed ∙ c.if-not-is_closed.true) (ap (λ (z : Machine _). z.left) same ∙ ap (λ (z : Machine _). z.left) back) (ap (λ (z : Machine _). z.tape) same ∙ ap (λ (z : Machine _). z.tape) back) (ap (λ (z : Machine _). z.tally) same ∙ ap (λ (z : Machine _). z.tally) back))

pub call_given-returns-clause-ends : goal.call_given-returns-clause-ends
call_given-returns-clause-ends g t c name found e s h =
    let rs = c.args.program.now in
    let m = c.args.self.now in
    let names = m.frame.names.now in
    let args = terms_in names c.args.terms.now in
    let r = c.index-program-number.result in
    let lt = c.requires.number in
    let k = subst (IsRoutine (units_in rs)) (sym c.index-program-number.is) (c.requires.program c.args.number r lt) in
    let at = call_at rs c.args.depth c.args.number name c.requires.deep found (setting_at e) args c.args.line s r r.writes.now lt c.index-program-number.is k.writes in
    let o = calls_of {C = g.row.N.Denot} (units_in rs) c.args.depth (setting_at e) name args c.args.line s in
    let q = calls_of {C = g.row.N.Denot} (units_in rs) (c.args.depth - 1) in
    let got = actuals_in names e.shape s.store c.in_ok-actuals.actuals.items in
    let value = c.as_slice-given.ensures.value in
    let f = c.in_ok-entered.ensures in
    let us = c.enter.new.self.frame.slots.items in
    let filled = c.in_ok-outer.ensures.filled r f.lent in
    let fit = ap (λ all. fit_from g.N.Number.numbers r (actuals_in names e.shape s.store all) 0) (sym value) ∙ f.fits e.shape s.store h.shown in
    let shown = subst (λ all. Shows g.N.Number.numbers r.names c.enter.new.self.frame.slots.items (shapes_with g.N.Number.numbers r (actuals_in names e.shape s.store all)) (entered_with g.N.Number.numbers r (actuals_in names e.shape s.store all))) value (f.shown us filled e.shape s.store h.shown) in
    let entered_names = c.in_ok-outer.ensures.names ∙ f.names in
    let here = subst (λ ns. Shows g.N.Number.numbers ns c.enter.new.self.frame.slots.items (shapes_with g.N.Number.numbers r got) (entered_with g.N.Number.numbers r got)) (sym entered_names) shown in
    let holds = c.in_ok-outer.ensures.holds e s (shapes_with g.N.Number.numbers r got) (entered_with g.N.Number.numbers r got) r.unit.now.name _ h here in
    let ends = unit_ends q (inside e (shapes_with g.N.Number.numbers r got) (length m.tally.begun)) _ r c.enter.new.self.frame.names.now m.left c.enter.new.self.left (Ok tt) c.run-ended.new.self entered_names k.body c.in_ok-outer.ensures.left (c.in_ok-ended.ensures.ends (inside e (shapes_with g.N.Number.numbers r got) (length m.tally.begun)) _ holds) in
    let m1 = c.run-ended.new.self in
    let m2 = c.leave-inner.new.self in
    let m3 = c.hand_back.new.self in
    let back = c.leave-inner.ensures.back in
    let outer = c.in_ok-outer.ensures.outer in
    let same = c.hand_back.ensures.same in
    let frame = ap (λ (z : Machine _). z.frame) back in
    let all = c.as_slice-given.result.now in
    let caller = c.in_ok-outer.ensures.caller in
    let kept = c.in_ok-outer.outer.frame.slots.items in
    let lent = lent_shows g.N.Number.numbers r all names m.frame.slots.items kept e.shape s.store (c.in_ok-outer.ensures.lent r f.lent) h.shown in
    let named_so = ap (λ (z : Frame _). z.names.now) frame ∙ caller in
    let inner = c.leave-inner.ensures.frame in
    let inner_names = ap (λ (z : Frame _). z.names.now) inner ∙ c.in_ok-ended.ensures.names ∙ entered_names in
    let handed = c.hand_back.ensures.handed in
    subst (λ z. Ends e z m.left (Ok tt) m3) (sym at)
    (call_done q e s r r.writes.now args c.args.line m h got (c.in_ok-actuals.ensures.actuals e.shape (Some e.room) e.level s.store h.shown) fit m1 m3 ends (sym c.leave-inner.ensures.closed ∙ c.if-not-is_closed.false)
    (ap (λ (z : Machine _). z.tape) same ∙ ap (λ (z : Machine _). z.tape) back)
    (ap (λ (z : Machine _). z.tally) same ∙ ap (λ (z : Machine _). z.tally) back)
    (ap (λ (z : Machine _). z.left) same ∙ ap (λ (z : Machine _). z.left) back)
    (ap (λ (z : Machine _). z.level) same ∙ ap (λ (z : Machine _). z.level) back ∙ ap (λ (z : Outer _). z.level) outer)
    (ap (λ (z : Machine _). z.base) same ∙ ap (λ (z : Machine _). z.base) back ∙ ap (λ (z : Outer _). z.base) outer)
    (λ q.
    let u = ends.scene.store in
    let read = unwritten_read rs c.args.number name found r lt c.index-program-number.is k names e.shape s.store all (c.args.depth - 1) (setting_at (inside e (shapes_with g.N.Number.numbers r got) (length m.tally.begun))) _ ends.scene (m.left - m1.left + 0) 0 (ends.uses.ends 0) (λ x. λ j. ap (λ (xs : List (Actual _)). entered_with g.N.Number.numbers r (actuals_in names e.shape s.store xs) x j) (sym value)) in
    let mine = subst (λ (z : Frame _). ShowsHeld g.N.Number.numbers z.names.now z.slots.items e.shape s.store) (sym frame) (subst (λ ns. ShowsHeld g.N.Number.numbers ns kept e.shape s.store) (sym caller) lent) in
    let theirs = subst (λ (z : Frame _). Shows g.N.Number.numbers z.names.now z.slots.items (shapes_with g.N.Number.numbers r got) u) (sym inner) q in
    let named = subst (λ ns. Shows g.N.Number.numbers ns c.leave-inner.result.0.slots.items (shapes_with g.N.Number.numbers r got) u) inner_names theirs in
    let out = handed e.shape (shapes_with g.N.Number.numbers r got) s.store s.store u mine named (subst (λ ns. AreRead r all ns u s.store) (sym named_so) read) in
    let copied = subst (λ (p : List (List ℕ) × List (Actual _)). Shows g.N.Number.numbers m2.frame.names.now m3.frame.slots.items e.shape (copied_out r.unit.now.dummies r.writes.now (actuals_in p.0 e.shape s.store p.1) u s.store)) (λ i. (named_so i, value i)) out in
    subst (λ ns. Shows g.N.Number.numbers ns m3.frame.slots.items e.shape (copied_out r.unit.now.dummies r.writes.now got u s.store)) (sym c.hand_back.ensures.names) copied))

-- ---- the caller's entry after a call

pub call_given-returns-in_err-ended-clause-counts : goal.call_given-returns-in_err-ended-clause-counts
call_given-returns-in_err-ended-clause-counts g t c =
    c.hand_back.ensures.counts ∙ ap (λ (z : Machine _). sizes_in z.frame.slots.items) c.leave-inner.ensures.back
    ∙ lent_sizes c.index-program-number.result c.as_slice-given.result.now c.args.self.now.frame.names.now c.args.self.now.frame.slots.items c.in_ok-outer.outer.frame.slots.items c.requires.framed (c.in_ok-outer.ensures.lent c.index-program-number.result c.in_ok-entered.ensures.lent)

pub call_given-returns-then-not-is_closed-clause-counts : goal.call_given-returns-then-not-is_closed-clause-counts
call_given-returns-then-not-is_closed-clause-counts g t c =
    c.hand_back.ensures.counts ∙ ap (λ (z : Machine _). sizes_in z.frame.slots.items) c.leave-inner.ensures.back
    ∙ lent_sizes c.index-program-number.result c.as_slice-given.result.now c.args.self.now.frame.names.now c.args.self.now.frame.slots.items c.in_ok-outer.outer.frame.slots.items c.requires.framed (c.in_ok-outer.ensures.lent c.index-program-number.result c.in_ok-entered.ensures.lent)

pub call_given-returns-clause-counts : goal.call_given-returns-clause-counts
call_given-returns-clause-counts g t c =
    c.hand_back.ensures.counts ∙ ap (λ (z : Machine _). sizes_in z.frame.slots.items) c.leave-inner.ensures.back
    ∙ lent_sizes c.index-program-number.result c.as_slice-given.result.now c.args.self.now.frame.names.now c.args.self.now.frame.slots.items c.in_ok-outer.outer.frame.slots.items c.requires.framed (c.in_ok-outer.ensures.lent c.index-program-number.result c.in_ok-entered.ensures.lent)

-- ---- calls that hand whole variables to units of scalars

pub call_passed-run-ended-requires : goal.call_passed-run-ended-requires
call_passed-run-ended-requires g t c κs alive =
    let rs = c.args.program.now in
    let m = c.args.self.now in
    let r = c.index-program-number.result in
    let lt = c.requires.number in
    let k = subst (IsRoutine (units_in rs)) (sym c.index-program-number.is) (c.requires.program c.args.number r lt) in
    let p = subst (λ z. ArePassed g.N.Number.numbers z m.frame.names.now m.frame.slots.items c.args.terms.now c.args.slots.items) (sym c.index-program-number.is) (c.requires.passed r) in
    let size = ap (λ (z : Routine). size-Steps z.body) c.index-program-number.is in
    let within = size_within rs c.args.number r lt in
    let less = less_deep c.args.depth (suc (2 * all_sizes rs)) (2 * size-Steps r.body) 0 c.requires.deep (omega (arith, size, within)) in
    let named = whole_names rs c.args.number r lt c.index-program-number.is k c.args.terms.now c.args.slots.items m c.count_entry.new.self c.step_in-outer.new.self _ c.in_ok-level.level p c.in_ok-level.ensures.same c.in_ok-level.ensures.told c.in_ok-level.ensures.level c.step_in-outer.ensures.into refl refl in
    let framed = whole_framed rs c.args.number r lt c.index-program-number.is k c.args.terms.now c.args.slots.items m c.count_entry.new.self c.step_in-outer.new.self _ c.in_ok-level.level p c.in_ok-level.ensures.same c.in_ok-level.ensures.told c.in_ok-level.ensures.level c.step_in-outer.ensures.into refl refl in
    let suited = whole_suited rs c.args.number r lt c.index-program-number.is k c.args.terms.now c.args.slots.items m c.count_entry.new.self c.step_in-outer.new.self _ c.in_ok-level.level p c.in_ok-level.ensures.same c.in_ok-level.ensures.told c.in_ok-level.ensures.level c.step_in-outer.ensures.into refl refl in
    (omega (arith, c.decreases, less), (alive, (framed, (subst (λ ns. AreStepsBelow (length ns) r.body) (sym named) k.below, (c.requires.program, (k.linked, suited))))))

-- the variables have as many cells as the dummies
pub call_passed-take_back-requires-clause-large : goal.call_passed-take_back-requires-clause-large
call_passed-take_back-requires-clause-large g t c =
    let rs = c.args.program.now in
    let m = c.args.self.now in
    let r = c.index-program-number.result in
    let lt = c.requires.number in
    let k = subst (IsRoutine (units_in rs)) (sym c.index-program-number.is) (c.requires.program c.args.number r lt) in
    let p = subst (λ z. ArePassed g.N.Number.numbers z m.frame.names.now m.frame.slots.items c.args.terms.now c.args.slots.items) (sym c.index-program-number.is) (c.requires.passed r) in
    let is = unit_at rs c.args.number r lt ∙ ap (λ (z : Routine). Some (procedure_of z.unit.now)) (sym c.index-program-number.is) in
    let large = whole_large rs c.args.number r lt c.index-program-number.is k c.args.terms.now c.args.slots.items m c.count_entry.new.self c.step_in-outer.new.self _ c.in_ok-level.level p c.in_ok-level.ensures.same c.in_ok-level.ensures.told c.in_ok-level.ensures.level c.step_in-outer.ensures.into refl refl c.requires.framed c.requires.below (c.requires.suited (procedure_of r.unit.now) is) in
    let outer = ap (λ (z : Machine _). counts_in z.frame.slots.items) c.leave-inner.ensures.back ∙ ap (λ (z : Outer _). counts_in z.frame.slots.items) c.step_in-outer.ensures.outer ∙ ap (λ (z : Machine _). counts_in z.frame.slots.items) c.in_ok-level.ensures.same in
    let inner = ap (λ (z : Frame _). counts_in z.slots.items) c.leave-inner.ensures.frame ∙ c.run-ended.ensures.counts in
    subst (λ z. z) (λ i. AreAsLarge (length r.unit.now.dummies) (sym outer i) (wholes {C = g.row.N.Denot} c.args.terms.now) (sym inner i)) large

pub call_passed-returns-in_err-ended-clause-ends : goal.call_passed-returns-in_err-ended-clause-ends
call_passed-returns-in_err-ended-clause-ends g t c name found e s h =
    let rs = c.args.program.now in
    let m = c.args.self.now in
    let r = c.index-program-number.result in
    let lt = c.requires.number in
    let k = subst (IsRoutine (units_in rs)) (sym c.index-program-number.is) (c.requires.program c.args.number r lt) in
    let p = subst (λ z. ArePassed g.N.Number.numbers z m.frame.names.now m.frame.slots.items c.args.terms.now c.args.slots.items) (sym c.index-program-number.is) (c.requires.passed r) in
    let err : c.from_residual-in_err-ended.result ≡ Err c.in_err-ended.field-0.0 = search rules in
    let whole = calls_of {C = g.row.N.Denot} (units_in rs) c.args.depth (setting_at e) name (terms_in m.frame.names.now c.args.terms.now) c.args.line s in
    subst (λ z. Ends e whole m.left z c.take_back.new.self) (sym err) (whole_break rs c.args.number r lt c.index-program-number.is k c.args.terms.now c.args.slots.items m c.count_entry.new.self c.step_in-outer.new.self _ c.in_ok-level.level p c.in_ok-level.ensures.same c.in_ok-level.ensures.told c.in_ok-level.ensures.level c.step_in-outer.ensures.into refl refl c.args.depth name c.requires.deep found c.args.line c.run-ended.new.self c.leave-inner.new.self c.take_back.new.self c.step_in-outer.result c.step_in-outer.ensures.outer c.leave-inner.ensures.back c.take_back.ensures.same e s h c.in_err-ended.field-0.0 c.in_err-ended.ensures.ends)

pub call_passed-returns-then-not-is_closed-clause-ends : goal.call_passed-returns-then-not-is_closed-clause-ends
call_passed-returns-then-not-is_closed-clause-ends g t c name found e s h =
    let rs = c.args.program.now in
    let m = c.args.self.now in
    let r = c.index-program-number.result in
    let lt = c.requires.number in
    let k = subst (IsRoutine (units_in rs)) (sym c.index-program-number.is) (c.requires.program c.args.number r lt) in
    let p = subst (λ z. ArePassed g.N.Number.numbers z m.frame.names.now m.frame.slots.items c.args.terms.now c.args.slots.items) (sym c.index-program-number.is) (c.requires.passed r) in
    whole_open rs c.args.number r lt c.index-program-number.is k c.args.terms.now c.args.slots.items m c.count_entry.new.self c.step_in-outer.new.self _ c.in_ok-level.level p c.in_ok-level.ensures.same c.in_ok-level.ensures.told c.in_ok-level.ensures.level c.step_in-outer.ensures.into refl refl c.args.depth name c.requires.deep found c.args.line c.run-ended.new.self c.leave-inner.new.self c.take_back.new.self c.step_in-outer.result c.step_in-outer.ensures.outer c.leave-inner.ensures.back c.take_back.ensures.same e s h c.in_ok-ended.ensures.ends (sym c.leave-inner.ensures.closed ∙ c.if-not-is_closed.true)

pub call_passed-returns-clause-ends : goal.call_passed-returns-clause-ends
call_passed-returns-clause-ends g t c name found e s h =
    let rs = c.args.program.now in
    let m = c.args.self.now in
    let r = c.index-program-number.result in
    let lt = c.requires.number in
    let k = subst (IsRoutine (units_in rs)) (sym c.index-program-number.is) (c.requires.program c.args.number r lt) in
    let p = subst (λ z. ArePassed g.N.Number.numbers z m.frame.names.now m.frame.slots.items c.args.terms.now c.args.slots.items) (sym c.index-program-number.is) (c.requires.passed r) in
    let all = wholes {C = g.row.N.Denot} c.args.terms.now in
    let got = actuals_in m.frame.names.now e.shape s.store all in
    let m5 = c.take_back.new.self in
    let frame = ap (λ (z : Machine _). z.frame) c.leave-inner.ensures.back ∙ ap (λ (z : Outer _). z.frame) c.step_in-outer.ensures.outer ∙ ap (λ (z : Machine _). z.frame) c.in_ok-level.ensures.same in
    let named = ap (λ (z : Frame _). z.names.now) frame in
    let inner = c.leave-inner.ensures.frame in
    let inner_names = ap (λ (z : Frame _). z.names.now) inner ∙ c.in_ok-ended.ensures.names ∙ whole_names rs c.args.number r lt c.index-program-number.is k c.args.terms.now c.args.slots.items m c.count_entry.new.self c.step_in-outer.new.self _ c.in_ok-level.level p c.in_ok-level.ensures.same c.in_ok-level.ensures.told c.in_ok-level.ensures.level c.step_in-outer.ensures.into refl refl in
    whole_done rs c.args.number r lt c.index-program-number.is k c.args.terms.now c.args.slots.items m c.count_entry.new.self c.step_in-outer.new.self _ c.in_ok-level.level p c.in_ok-level.ensures.same c.in_ok-level.ensures.told c.in_ok-level.ensures.level c.step_in-outer.ensures.into refl refl c.args.depth name c.requires.deep found c.args.line c.run-ended.new.self c.leave-inner.new.self c.take_back.new.self c.step_in-outer.result c.step_in-outer.ensures.outer c.leave-inner.ensures.back c.take_back.ensures.same e s h c.in_ok-ended.ensures.ends (sym c.leave-inner.ensures.closed ∙ c.if-not-is_closed.false)
    (λ u shows.
    let mine = subst (λ (z : Frame _). Shows g.N.Number.numbers z.names.now z.slots.items e.shape s.store) (sym frame) h.shown in
    let theirs = subst (λ (z : Frame _). Shows g.N.Number.numbers z.names.now z.slots.items (shapes_with g.N.Number.numbers r got) u) (sym inner) shows in
    let own = subst (λ ns. Shows g.N.Number.numbers ns c.leave-inner.result.0.slots.items (shapes_with g.N.Number.numbers r got) u) inner_names theirs in
    let out = c.take_back.ensures.handed e.shape (shapes_with g.N.Number.numbers r got) s.store s.store u mine own in
    let copied = subst (λ ns. Shows g.N.Number.numbers ns m5.frame.slots.items e.shape (copied_out r.unit.now.dummies r.writes.now (actuals_in ns e.shape s.store all) u s.store)) named out in
    subst (λ ns. Shows g.N.Number.numbers ns m5.frame.slots.items e.shape (copied_out r.unit.now.dummies r.writes.now got u s.store)) (sym (c.take_back.ensures.names ∙ named)) copied)
