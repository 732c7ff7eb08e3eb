use Rattle.std.proofs.Common.{rules, ◌≡◌, length, map, refl, sym, ap, subst, ◌∙◌, arith}
use Rattle.adj_tree.specs.declared.stmt.Stmts.{size-Stmts}
use Rattle.adj_tree.specs.declared.stmt.Act.{size-Act}
use Rattle.adj_tree.specs.declared.stmt.Act.TheViews.{sized-If, sized-Loop, sized-While, sized-More, size_is-Row}
use Rattle.adj_tree.specs.declared.stmt.Stmts.TheVariants as stmts
use Rattle.adj_tree.specs.Code.{step, assign, choose, loop, during, call, runtime}
use Rattle.adj_tree.specs.View.{term_of, mark_of, act_of, code_of, procedure_of}
use Rattle.adj_tree.specs.Listed.{code_turned}
use Rattle.def_meaning.specs.Written.{find_unit}
use Rattle.adj_interp_frame.specs.declared.step.Step.{Step}
use Rattle.adj_interp_frame.specs.Linked.{IsTaskLinked, AreLinked}
use Rattle.adj_interp_frame.specs.Instructed.{task_in, steps_in, IsTaskBelow, AreStepsBelow}
use Rattle.adj_interp_frame.proofs.Failing.{err_is}
use Rattle.adj_interp_frame.proofs.Resolving.{extends_self, extends_on}
use Rattle.adj_interp_frame.proofs.numbering.Numbering.+prepare_steps.Goals as goal

pub steps-loop-current-init : goal.steps-loop-current-init
steps-loop-current-init t c = record {
  no_deeper = omega arith;
  units = refl;
  directory = c.requires;
  linked = tt;
  extends = extends_self c.args.self.now;
  resolves = record { stands_for = λ ls f. refl; below = λ ls f. tt };
}

pub steps-loop-current-preserved : goal.steps-loop-current-preserved
steps-loop-current-preserved t c =
    let made = c.loop-current.made in
    let rest = c.in-More.row.value.rest in
    let before = c.loop-current.self in
    let after = c.step.new.self in
    let inv = c.loop-current.invariant in
    let k = c.in_ok-step.ensures in
    let e = k.extends in
    let v = c.in_ok-step.step.value in
    let ok = c.in_ok-boxed.ensures.boxed in
    record {
      no_deeper =
          let whole = sized-More c.in-More.row in
          let row = size_is-Row c.in-More.row.value in
          let was = ap size-Stmts c.in-More.is in
          let left = ap (λ z. size-Stmts z.rest) c.deref-in-More.ensures in
          let earlier = inv.no_deeper in
          first_of (omega (arith, whole, row, was, left, earlier), grind (arith, whole, row, was, left, earlier));
      units = k.units ∙ inv.units;
      directory = k.directory;
      linked = (subst (λ us. IsTaskLinked (map procedure_of us) v.task) inv.units k.linked, subst (AreLinked (map procedure_of c.args.units.now.units.now)) (sym ok) inv.linked);
      extends = extends_on c.args.self.now before after inv.extends e;
      resolves = record {
        stands_for = λ ls f.
            (λ i. code_turned (steps_in ls (ok i)) (step (k.line i) (k.resolves.stands_for ls f i) (code_of (c.deref-in-More.ensures i).rest)))
            ∙ ap (λ z. code_turned (steps_in ls made) (step z.first.line (act_of z.first.act) (code_of rest))) c.deref.ensures
            ∙ ap (λ z. code_turned (steps_in ls made) (code_of z)) (sym c.in-More.is)
            ∙ inv.resolves.stands_for ls (extends_on before after ls e f);
        below = λ ls f. (k.resolves.below ls f, subst (AreStepsBelow (length ls)) (sym ok) (inv.resolves.below ls (extends_on before after ls e f)));
      };
    }

pub step-returns : goal.step-returns
step-returns t c =
    let r = c.in_ok-task.ensures in
    let b = c.in_ok-made.ensures.boxed in
    record {
      extends = r.extends;
      units = r.units;
      directory = r.directory;
      linked = subst (λ (v : Step). IsTaskLinked (map procedure_of c.args.units.now.units.now) v.task) (sym b) r.linked;
      line = ap (λ (v : Step). v.line) b;
      resolves = record {
        stands_for = λ ls f. ap (λ (v : Step). task_in ls v.task) b ∙ r.resolves.stands_for ls f;
        below = λ ls f. subst (λ (v : Step). IsTaskBelow (length ls) v.task) (sym b) (r.resolves.below ls f);
      };
    }

pub steps-returns-clause-extends : goal.steps-returns-clause-extends
steps-returns-clause-extends t c = c.loop-current.invariant.extends

pub steps-returns-clause-resolves : goal.steps-returns-clause-resolves
steps-returns-clause-resolves t c =
    let inv = c.loop-current.invariant.resolves in
    let empty : c.loop-current.current.now ≡ stmts.Empty = search rules in
    record {
      stands_for = λ ls f. c.turned-all.ensures.turned ls ∙ ap (λ z. code_turned (steps_in ls c.loop-current.made) (code_of z)) (sym empty) ∙ inv.stands_for ls f;
      below = λ ls f. c.turned-all.ensures.below (length ls) (inv.below ls f);
    }

-- ---- each kind of statement

pub task-returns-in_ok-value-in-Assign : goal.task-returns-in_ok-value-in-Assign
task-returns-in_ok-value-in-Assign t c =
    let r1 = c.in_ok-cell-in-Assign.ensures in
    let r2 = c.in_ok-value-in-Assign.ensures in
    let e2 = r2.extends in
    record {
      extends = extends_on _ _ _ r1.extends e2;
      units = refl;
      directory = c.requires;
      linked = tt;
      resolves = rw c.in-Assign.is (record {
        stands_for = λ ls f i. assign (r1.variable.stands_for ls (extends_on _ _ _ e2 f) i) (r1.subs.stands_for ls (extends_on _ _ _ e2 f) i) (r2.resolves.stands_for ls f i);
        below = λ ls f. ((r1.variable.below ls (extends_on _ _ _ e2 f), r1.subs.below ls (extends_on _ _ _ e2 f)), r2.resolves.below ls f);
      });
    }

pub task-returns-in_ok-test-in-If : goal.task-returns-in_ok-test-in-If
task-returns-in_ok-test-in-If t c =
    let r1 = c.in_ok-first-in-If.ensures in
    let r2 = c.in_ok-second-in-If.ensures in
    let r3 = c.in_ok-test-in-If.ensures in
    let e3 = r3.extends in
    let e2 = extends_on _ _ _ r2.extends e3 in
    record {
      extends = extends_on _ _ _ r1.extends e2;
      units = r2.units ∙ r1.units;
      directory = r2.directory;
      linked = (r1.linked, subst (λ us. AreLinked (map procedure_of us) c.in_ok-second-in-If.second) r1.units r2.linked);
      resolves = rw c.in-If.is (record {
        stands_for = λ ls f i. choose (r3.resolves.stands_for ls f i) (r1.resolves.stands_for ls (extends_on _ _ _ e2 f) i) (r2.resolves.stands_for ls (extends_on _ _ _ e3 f) i);
        below = λ ls f. (r3.resolves.below ls f, r1.resolves.below ls (extends_on _ _ _ e2 f), r2.resolves.below ls (extends_on _ _ _ e3 f));
      });
    }

pub task-returns-in_ok-first-in-Loop : goal.task-returns-in_ok-first-in-Loop
task-returns-in_ok-first-in-Loop t c =
    let r1 = c.in_ok-variable-in-Loop.ensures in
    let r2 = c.in_ok-marking-in-Loop.ensures in
    let r3 = c.in_ok-inner-in-Loop.ensures in
    let r4 = c.in_ok-first-in-Loop.ensures in
    let e4 = r4.extends in
    let e3 = extends_on _ _ _ r3.extends e4 in
    let e2 = extends_on _ _ _ r2.extends e3 in
    record {
      extends = extends_on _ _ _ r1.extends e2;
      units = r3.units;
      directory = r3.directory;
      linked = r3.linked;
      resolves = rw c.in-Loop.is (record {
        stands_for = λ ls f i. loop (r1.resolves.stands_for ls (extends_on _ _ _ e2 f) i) ((r4.first.stands_for ls f ∙ ap term_of c.deref-in-Loop.ensures) i) ((r4.second.stands_for ls f ∙ ap term_of c.deref-in-Loop-2.ensures) i) ((r4.third.stands_for ls f ∙ ap term_of c.deref-in-Loop-3.ensures) i) (r3.resolves.stands_for ls (extends_on _ _ _ e4 f) i) ((r2.resolves.stands_for ls (extends_on _ _ _ e3 f) ∙ ap mark_of c.deref.ensures) i);
        below = λ ls f. (r1.resolves.below ls (extends_on _ _ _ e2 f), (r4.first.below ls f, r4.second.below ls f, r4.third.below ls f), r3.resolves.below ls (extends_on _ _ _ e4 f), r2.resolves.below ls (extends_on _ _ _ e3 f));
      });
    }

pub task-returns-in_ok-test-in-While : goal.task-returns-in_ok-test-in-While
task-returns-in_ok-test-in-While t c =
    let r1 = c.in_ok-inner-in-While.ensures in
    let r2 = c.in_ok-test-in-While.ensures in
    let e2 = r2.extends in
    record {
      extends = extends_on _ _ _ r1.extends e2;
      units = r1.units;
      directory = r1.directory;
      linked = r1.linked;
      resolves = rw c.in-While.is (record {
        stands_for = λ ls f i. during (r2.resolves.stands_for ls f i) (r1.resolves.stands_for ls (extends_on _ _ _ e2 f) i);
        below = λ ls f. (r2.resolves.below ls f, r1.resolves.below ls (extends_on _ _ _ e2 f));
      });
    }

pub task-returns-in_ok-unit-in-Call : goal.task-returns-in_ok-unit-in-Call
task-returns-in_ok-unit-in-Call t c =
    let r1 = c.in_ok-number-in-Call.ensures in
    let r2 = c.in_ok-terms-in-Call.ensures in
    let same = c.in_ok-unit-in-Call.ensures.same in
    record {
      extends = r2.extends;
      units = r1.units;
      directory = r1.directory;
      linked = ap (find_unit (map procedure_of c.args.units.now.units.now)) same ∙ r1.found;
      resolves = rw c.in-Call.is (record {
        stands_for = λ ls f i. call (same i) (r2.resolves.stands_for ls f i);
        below = λ ls f. r2.resolves.below ls f;
      });
    }

pub task-returns-in_ok-service-in-Run : goal.task-returns-in_ok-service-in-Run
task-returns-in_ok-service-in-Run t c =
    let r1 = c.in_ok-service-in-Run.ensures in
    record {
      extends = r1.extends;
      units = refl;
      directory = c.requires;
      linked = tt;
      resolves = rw c.in-Run.is (record {
        stands_for = λ ls f i. runtime (r1.resolves.stands_for ls f i);
        below = λ ls f. r1.resolves.below ls f;
      });
    }

-- ---- parts are smaller

pub task-steps-requires : goal.task-steps-requires
task-steps-requires t c =
    let whole = sized-If c.in-If.c c.in-If.a c.in-If.b in
    let was = ap size-Act c.in-If.is in
    (omega (arith, c.decreases, whole, was), c.requires)

pub task-steps-requires-in-If : goal.task-steps-requires-in-If
task-steps-requires-in-If t c =
    let whole = sized-If c.in-If.c c.in-If.a c.in-If.b in
    let was = ap size-Act c.in-If.is in
    (omega (arith, c.decreases, whole, was), c.in_ok-first-in-If.ensures.directory)

pub task-steps-requires-in-Loop : goal.task-steps-requires-in-Loop
task-steps-requires-in-Loop t c =
    let whole = sized-Loop c.in-Loop.x c.in-Loop.a c.in-Loop.b c.in-Loop.c c.in-Loop.body c.in-Loop.mark in
    let was = ap size-Act c.in-Loop.is in
    (omega (arith, c.decreases, whole, was), c.requires)

pub task-steps-requires-in-While : goal.task-steps-requires-in-While
task-steps-requires-in-While t c =
    let whole = sized-While c.in-While.c c.in-While.body in
    let was = ap size-Act c.in-While.is in
    (omega (arith, c.decreases, whole, was), c.requires)

-- ---- where memory is out

pub task-returns-in_err-cell-in-Assign : goal.task-returns-in_err-cell-in-Assign
task-returns-in_err-cell-in-Assign t c = rw (err_is c.from_residual.result c.in_err-cell-in-Assign.field-0.0 c.from_residual.ensures.1) (record { extends = tt; units = refl; directory = tt; linked = tt; resolves = tt })

pub task-returns-in_err-value-in-Assign : goal.task-returns-in_err-value-in-Assign
task-returns-in_err-value-in-Assign t c = rw (err_is c.from_residual-in_err-value-in-Assign.result c.in_err-value-in-Assign.field-0.0 c.from_residual-in_err-value-in-Assign.ensures.1) (record { extends = tt; units = refl; directory = tt; linked = tt; resolves = tt })

pub task-returns-in_err-first-in-If : goal.task-returns-in_err-first-in-If
task-returns-in_err-first-in-If t c = rw (err_is c.from_residual-in_err-first-in-If.result c.in_err-first-in-If.field-0.0 c.from_residual-in_err-first-in-If.ensures.1) (record { extends = tt; units = c.in_err-first-in-If.ensures.units; directory = tt; linked = tt; resolves = tt })

pub task-returns-in_err-second-in-If : goal.task-returns-in_err-second-in-If
task-returns-in_err-second-in-If t c = rw (err_is c.from_residual-in_err-second-in-If.result c.in_err-second-in-If.field-0.0 c.from_residual-in_err-second-in-If.ensures.1) (record { extends = tt; units = c.in_err-second-in-If.ensures.units ∙ c.in_ok-first-in-If.ensures.units; directory = tt; linked = tt; resolves = tt })

pub task-returns-in_err-test-in-If : goal.task-returns-in_err-test-in-If
task-returns-in_err-test-in-If t c = rw (err_is c.from_residual-in_err-test-in-If.result c.in_err-test-in-If.field-0.0 c.from_residual-in_err-test-in-If.ensures.1) (record { extends = tt; units = c.in_ok-second-in-If.ensures.units ∙ c.in_ok-first-in-If.ensures.units; directory = tt; linked = tt; resolves = tt })

pub task-returns-in_err-variable-in-Loop : goal.task-returns-in_err-variable-in-Loop
task-returns-in_err-variable-in-Loop t c = rw (err_is c.from_residual-in_err-variable-in-Loop.result c.in_err-variable-in-Loop.field-0.0 c.from_residual-in_err-variable-in-Loop.ensures.1) (record { extends = tt; units = refl; directory = tt; linked = tt; resolves = tt })

pub task-returns-in_err-marking-in-Loop : goal.task-returns-in_err-marking-in-Loop
task-returns-in_err-marking-in-Loop t c = rw (err_is c.from_residual-in_err-marking-in-Loop.result c.in_err-marking-in-Loop.field-0.0 c.from_residual-in_err-marking-in-Loop.ensures.1) (record { extends = tt; units = refl; directory = tt; linked = tt; resolves = tt })

pub task-returns-in_err-inner-in-Loop : goal.task-returns-in_err-inner-in-Loop
task-returns-in_err-inner-in-Loop t c = rw (err_is c.from_residual-in_err-inner-in-Loop.result c.in_err-inner-in-Loop.field-0.0 c.from_residual-in_err-inner-in-Loop.ensures.1) (record { extends = tt; units = c.in_err-inner-in-Loop.ensures.units; directory = tt; linked = tt; resolves = tt })

pub task-returns-in_err-first-in-Loop : goal.task-returns-in_err-first-in-Loop
task-returns-in_err-first-in-Loop t c = rw (err_is c.from_residual-in_err-first-in-Loop.result c.in_err-first-in-Loop.field-0.0 c.from_residual-in_err-first-in-Loop.ensures.1) (record { extends = tt; units = c.in_ok-inner-in-Loop.ensures.units; directory = tt; linked = tt; resolves = tt })

pub task-returns-in_err-inner-in-While : goal.task-returns-in_err-inner-in-While
task-returns-in_err-inner-in-While t c = rw (err_is c.from_residual-in_err-inner-in-While.result c.in_err-inner-in-While.field-0.0 c.from_residual-in_err-inner-in-While.ensures.1) (record { extends = tt; units = c.in_err-inner-in-While.ensures.units; directory = tt; linked = tt; resolves = tt })

pub task-returns-in_err-test-in-While : goal.task-returns-in_err-test-in-While
task-returns-in_err-test-in-While t c = rw (err_is c.from_residual-in_err-test-in-While.result c.in_err-test-in-While.field-0.0 c.from_residual-in_err-test-in-While.ensures.1) (record { extends = tt; units = c.in_ok-inner-in-While.ensures.units; directory = tt; linked = tt; resolves = tt })

pub task-returns-in_err-number-in-Call : goal.task-returns-in_err-number-in-Call
task-returns-in_err-number-in-Call t c = rw (err_is c.from_residual-in_err-number-in-Call.result c.in_err-number-in-Call.field-0.0 c.from_residual-in_err-number-in-Call.ensures.1) (record { extends = tt; units = c.in_err-number-in-Call.ensures.units; directory = tt; linked = tt; resolves = tt })

pub task-returns-in_err-terms-in-Call : goal.task-returns-in_err-terms-in-Call
task-returns-in_err-terms-in-Call t c = rw (err_is c.from_residual-in_err-terms-in-Call.result c.in_err-terms-in-Call.field-0.0 c.from_residual-in_err-terms-in-Call.ensures.1) (record { extends = tt; units = c.in_ok-number-in-Call.ensures.units; directory = tt; linked = tt; resolves = tt })

pub task-returns-in_err-unit-in-Call : goal.task-returns-in_err-unit-in-Call
task-returns-in_err-unit-in-Call t c = rw (err_is c.from_residual-in_err-unit-in-Call.result c.in_err-unit-in-Call.field-0.0 c.from_residual-in_err-unit-in-Call.ensures.1) (record { extends = tt; units = c.in_ok-number-in-Call.ensures.units; directory = tt; linked = tt; resolves = tt })

pub task-returns-in_err-service-in-Run : goal.task-returns-in_err-service-in-Run
task-returns-in_err-service-in-Run t c = rw (err_is c.from_residual-in_err-service-in-Run.result c.in_err-service-in-Run.field-0.0 c.from_residual-in_err-service-in-Run.ensures.1) (record { extends = tt; units = refl; directory = tt; linked = tt; resolves = tt })

pub steps-returns-in_err-step : goal.steps-returns-in_err-step
steps-returns-in_err-step t c = rw (err_is c.from_residual.result c.in_err-step.field-0.0 c.from_residual.ensures.1) (record { extends = tt; units = c.in_err-step.ensures.units ∙ c.loop-current.invariant.units; directory = tt; linked = tt; resolves = tt })

pub steps-returns-in_err-boxed : goal.steps-returns-in_err-boxed
steps-returns-in_err-boxed t c = rw (err_is c.from_residual-in_err-boxed.result c.in_err-boxed.field-0.0 c.from_residual-in_err-boxed.ensures.1) (record { extends = tt; units = c.in_ok-step.ensures.units ∙ c.loop-current.invariant.units; directory = tt; linked = tt; resolves = tt })

pub step-returns-in_err-task : goal.step-returns-in_err-task
step-returns-in_err-task t c = rw (err_is c.from_residual.result c.in_err-task.field-0.0 c.from_residual.ensures.1) (record { extends = tt; units = c.in_err-task.ensures.units; directory = tt; linked = tt; line = tt; resolves = tt })

pub step-returns-in_err-made : goal.step-returns-in_err-made
step-returns-in_err-made t c = rw (err_is c.from_residual-in_err-made.result c.in_err-made.field-0.0 c.from_residual-in_err-made.ensures.1) (record { extends = tt; units = c.in_ok-task.ensures.units; directory = tt; linked = tt; line = tt; resolves = tt })
