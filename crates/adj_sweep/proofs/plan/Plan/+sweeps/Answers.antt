use Rattle.std.proofs.Common.{◌≡◌, ◌∙◌, suc, refl, sym, ap, subst, arith, rules}
use Rattle.adj_tree.specs.Code.{Act, plain, loop, runtime, stop, step}
use Rattle.adj_tree.specs.View.{term_of, runtime_of, mark_of, act_of, code_of}
use Rattle.adj_tree.specs.declared.stmt.Stmts.{size-Stmts}
use Rattle.adj_tree.specs.declared.stmt.Act.TheViews.{sized-More, size_is-Row}
use Rattle.adj_tree.specs.declared.stmt.Stmts.TheVariants as stmts
use Rattle.adj_sweep.specs.HelperSteps.{step_of}
use Rattle.adj_sweep.specs.declared.sweeps.Sweeps.{Sweeps}
use Rattle.adj_sweep.specs.Plans.{naming_in, plan_of, schedules_of}
use Rattle.adj_sweep.specs.Swept.{SweepsAct, SweepsList}
use Rattle.adj_sweep.proofs.Acts.{skipped}
use Rattle.adj_sweep.proofs.Passed.{passed_more, passed_all}
use Rattle.adj_sweep.proofs.plan.Plan.+sweeps.Goals as goal

pub statement-returns-in_ok-made-in-If : goal.statement-returns-in_ok-made-in-If
statement-returns-in_ok-made-in-If t c =
    let r = naming_in c.args.self.now in
    let act = ap act_of c.in-If.is in
    record {
      sweeps = λ callees reads k.
          let sc = schedules_of c.args.self.now reads in
          let p = plan_of c.args.self.now callees in
          subst (λ a. SweepsAct sc r p c.args.depth c.args.stmt.now.line a c.args.sweeps c.in_ok-made-in-If.made) (sym act)
          (c.in_ok-made-in-If.ensures.sweeps sc callees c.args.depth (code_of c.in-If.a) (code_of c.in-If.b)
          (subst (λ n. SweepsList sc r p c.args.depth n (code_of c.in-If.a) stop c.in_ok-first-in-If.first) c.in_ok-number.ensures.next (c.in_ok-first-in-If.ensures.sweeps callees reads k))
          (c.in_ok-second-in-If.ensures.sweeps callees reads k));
    }

pub statement-returns-in_ok-made-in-Assign : goal.statement-returns-in_ok-made-in-Assign
statement-returns-in_ok-made-in-Assign t c =
    let r = naming_in c.args.self.now in
    record {
      sweeps = λ callees reads k.
          let sc = schedules_of c.args.self.now reads in
          subst (λ a. SweepsAct sc r (plan_of c.args.self.now callees) c.args.depth c.args.stmt.now.line a c.args.sweeps c.in_ok-made-in-Assign.made) (sym (ap act_of c.in-Assign.is))
          (c.in_ok-made-in-Assign.ensures.sweeps sc callees c.args.depth);
    }

pub statement-returns-in_ok-made-in-Some : goal.statement-returns-in_ok-made-in-Some
statement-returns-in_ok-made-in-Some t c =
    let r = naming_in c.args.self.now in
    let inside = c.in_ok-inside-in-Loop.ensures.next in
    let act = ap act_of c.in-Loop.is ∙ (λ i. loop (plain c.in-Loop.x) (term_of (sym c.deref.ensures i)) (term_of (sym c.deref-in-Loop.ensures i)) (term_of (sym c.deref-in-Loop-2.ensures i)) (code_of c.in-Loop.body) (mark_of (sym c.deref-in-Loop-3.ensures i))) in
    record {
      sweeps = λ callees reads k.
          let sc = schedules_of c.args.self.now reads in
          let p = plan_of c.args.self.now callees in
          let is = ap (step_of reads) (sym c.in-Some.is) ∙ c.step_call.ensures.step reads c.args.sweeps.number c.in_ok-number.ensures.next in
          subst (λ a. SweepsAct sc r p c.args.depth c.args.stmt.now.line a c.args.sweeps c.in_ok-made-in-Some.made) (sym act)
          (c.in_ok-made-in-Some.ensures.sweeps callees reads c.args.depth (code_of c.in-Loop.body) (mark_of c.deref-in-Loop-3.result.now) k is inside);
    }

pub statement-returns-in_ok-made-in-None : goal.statement-returns-in_ok-made-in-None
statement-returns-in_ok-made-in-None t c =
    let r = naming_in c.args.self.now in
    let inside = c.in_ok-inside-in-Loop.ensures.next in
    let act = ap act_of c.in-Loop.is ∙ (λ i. loop (plain c.in-Loop.x) (term_of (sym c.deref.ensures i)) (term_of (sym c.deref-in-Loop.ensures i)) (term_of (sym c.deref-in-Loop-2.ensures i)) (code_of c.in-Loop.body) (mark_of (sym c.deref-in-Loop-3.ensures i))) in
    record {
      sweeps = λ callees reads k.
          let sc = schedules_of c.args.self.now reads in
          let p = plan_of c.args.self.now callees in
          let body = code_of c.in-Loop.body in
          let inner = c.in_ok-inner-in-None.inner in
          let others = sym (c.step_call.ensures.step reads c.args.sweeps.number c.in_ok-number.ensures.next) ∙ ap (step_of reads) c.in-None.is in
          subst (λ a. SweepsAct sc r p c.args.depth c.args.stmt.now.line a c.args.sweeps c.in_ok-made-in-None.made) (sym act)
          (c.in_ok-made-in-None.ensures.sweeps sc callees c.args.depth body _ others inside
          (subst (λ n. SweepsList sc r p (suc c.args.depth) n body stop inner) c.in_ok-number.ensures.next
          (subst (λ n. SweepsList sc r p n c.in_ok-number.number body stop inner) inside (c.in_ok-inner-in-None.ensures.sweeps callees reads k))));
    }

pub statement-returns-in_ok-made-in-While : goal.statement-returns-in_ok-made-in-While
statement-returns-in_ok-made-in-While t c =
    let r = naming_in c.args.self.now in
    let inside = c.in_ok-inside-in-While.ensures.next in
    record {
      sweeps = λ callees reads k.
          let sc = schedules_of c.args.self.now reads in
          let p = plan_of c.args.self.now callees in
          let body = code_of c.in-While.body in
          let inner = c.in_ok-inner-in-While.inner in
          subst (λ a. SweepsAct sc r p c.args.depth c.args.stmt.now.line a c.args.sweeps c.in_ok-made-in-While.made) (sym (ap act_of c.in-While.is))
          (c.in_ok-made-in-While.ensures.sweeps sc callees c.args.depth body inside
          (subst (λ n. SweepsList sc r p (suc c.args.depth) n body stop inner) c.in_ok-number.ensures.next
          (subst (λ n. SweepsList sc r p n c.in_ok-number.number body stop inner) inside (c.in_ok-inner-in-While.ensures.sweeps callees reads k))));
    }

pub statement-returns-in_ok-made-in-Call : goal.statement-returns-in_ok-made-in-Call
statement-returns-in_ok-made-in-Call t c =
    let r = naming_in c.args.self.now in
    record {
      sweeps = λ callees reads k.
          let sc = schedules_of c.args.self.now reads in
          subst (λ a. SweepsAct sc r (plan_of c.args.self.now callees) c.args.depth c.args.stmt.now.line a c.args.sweeps c.in_ok-made-in-Call.made) (sym (ap act_of c.in-Call.is))
          (c.in_ok-made-in-Call.ensures.sweeps sc callees reads c.args.depth k);
    }

pub statement-returns-in-Run : goal.statement-returns-in-Run
statement-returns-in-Run t c =
    let r = naming_in c.args.self.now in
    let old = c.args.sweeps in
    let new : Sweeps = record { forward = old.forward; backward = old.backward; number = c.in_ok-number.number } in
    let a : Act = runtime (runtime_of c.in-Run.field-0) in
    record {
      sweeps = λ callees reads k.
          let sc = schedules_of c.args.self.now reads in
          let p = plan_of c.args.self.now callees in
          subst (λ z. SweepsAct sc r p c.args.depth c.args.stmt.now.line z old new) (sym (ap act_of c.in-Run.is))
          (skipped sc r p c.args.depth c.args.stmt.now.line a old new refl refl c.in_ok-number.ensures.next refl refl);
    }

pub list-loop-current-preserved : goal.list-loop-current-preserved
list-loop-current-preserved t c =
    let r = naming_in c.args.self.now in
    let stmt = c.deref.result.now.first in
    record {
      no_deeper =
          let whole = sized-More c.in-More.row in
          let row = size_is-Row c.in-More.row.value in
          let was = ap size-Stmts c.in-More.is in
          let left = ap (λ z. size-Stmts z.rest) c.deref-in-More.ensures in
          let earlier = c.loop-current.invariant.no_deeper in
          first_of (omega (arith, whole, row, was, left, earlier), grind (arith, whole, row, was, left, earlier));
      passed = λ callees reads k.
          passed_more (schedules_of c.args.self.now reads) r (plan_of c.args.self.now callees) c.args.depth c.args.number stmt.line (act_of stmt.act) (code_of c.args.body.now) (code_of c.args.rest) (code_of c.loop-current.current.now) (code_of c.deref-in-More.result.now.rest) c.loop-current.made c.in_ok-made.made
          (ap code_of c.in-More.is ∙ (λ i. step (sym c.deref.ensures i).first.line (act_of (sym c.deref.ensures i).first.act) (code_of (sym c.deref-in-More.ensures i).rest)))
          (c.in_ok-made.ensures.sweeps callees reads k) (c.loop-current.invariant.passed callees reads k);
    }

pub list-returns : goal.list-returns
list-returns t c =
    let empty : c.loop-current.current.now ≡ stmts.Empty = search rules in
    record {
      sweeps = λ callees reads k.
          passed_all (schedules_of c.args.self.now reads) (naming_in c.args.self.now) (plan_of c.args.self.now callees) c.args.depth c.args.number (code_of c.args.body.now) (code_of c.args.rest) (code_of c.loop-current.current.now) c.loop-current.made
          (ap code_of empty) (c.loop-current.invariant.passed callees reads k);
    }
