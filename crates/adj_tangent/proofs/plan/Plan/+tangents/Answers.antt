use Rattle.std.proofs.Common.{rules, ◌≡◌, suc, refl, sym, ap, subst, ◌∙◌, arith}
use Rattle.adj_tree.specs.Code.{plain, choose, loop, during, call, assign, runtime, stop, step}
use Rattle.adj_tree.specs.Listed.{steps_onto}
use Rattle.adj_tree.specs.View.{term_of, terms_of, test_of, mark_of, act_of, code_of}
use Rattle.adj_tree.specs.declared.expr.Expr.{Expr}
use Rattle.adj_tree.specs.declared.stmt.Stmt.{Stmt}
use Rattle.adj_tree.specs.declared.stmt.Stmts.{size-Stmts}
use Rattle.adj_tree.specs.declared.stmt.Stmts.TheVariants as stmts
use Rattle.adj_tree.specs.declared.stmt.Act.TheVariants.{If, Loop, While}
use Rattle.adj_tree.specs.declared.stmt.Act.TheViews.{sized-More, size_is-Row}
use Rattle.def_meaning.specs.Append.{◌+++◌, one}
use Rattle.def_meaning.specs.Rename.{rename, rename_act, rename_term, rename_mark}
use Rattle.def_meaning.proofs.Appends.{append-stop}
use Rattle.def_tangent.specs.Forward.{before_act, tangent_act, tangents}
use Rattle.adj_sweep_assignment.specs.Behind.{AreBehind}
use Rattle.adj_sweep_assignment.proofs.Behind.{both_behind}
use Rattle.adj_sweep_assignment.proofs.Onto.{steps_pushed}
use Rattle.adj_sweep_assignment.proofs.Plain.{term_kept, test_kept}
use Rattle.adj_tangent.specs.Plans.{naming_in, plan_of}
use Rattle.adj_tangent.proofs.Kept.{mark_kept, as_it_is}
use Rattle.adj_tangent.proofs.Written.{next_written}
use Rattle.adj_tangent.proofs.plan.Plan.+tangents.Goals as goal

pub push_act-returns-in_ok-push-in-If : goal.push_act-returns-in_ok-push-in-If
push_act-returns-in_ok-push-in-If t c = record {
  steps = λ callees k.
      let self = c.args.self.now in
      let r = naming_in self in
      let p = plan_of self callees in
      let line = c.args.stmt.now.line in
      let s0 = c.args.steps.now.items in
      let s1 = c.push.new.self.items in
      let s : Stmt = record { line = line; act = If c.in_ok-test-in-If.test c.in_ok-first-in-If.first c.in_ok-second-in-If.second } in
      let a = choose (test_of c.in-If.c) (code_of c.in-If.a) (code_of c.in-If.b) in
      let is : act_of s.act ≡ rename_act r (tangent_act p a) =
      λ i. choose ((c.in_ok-test-in-If.ensures.equal ∙ sym (test_kept r (λ x. refl) c.in-If.c)) i) (c.in_ok-first-in-If.ensures.tangents callees k i) (c.in_ok-second-in-If.ensures.tangents callees k i) in
      subst (λ z. AreBehind (rename r (one line (tangent_act p z))) s0 s1) (sym (ap act_of c.in-If.is)) (λ rest. steps_pushed s0 s1 s line (rename_act r (tangent_act p a)) rest c.in_ok-push-in-If.ensures.items refl is);
}

pub push_act-returns-in_ok-push-in-Loop : goal.push_act-returns-in_ok-push-in-Loop
push_act-returns-in_ok-push-in-Loop t c = record {
  steps = λ callees k.
      let self = c.args.self.now in
      let r = naming_in self in
      let p = plan_of self callees in
      let line = c.args.stmt.now.line in
      let s0 = c.args.steps.now.items in
      let s1 = c.push-in-Loop.new.self.items in
      let g = c.in-Loop in
      let s : Stmt = record { line = line; act = Loop c.in_ok-variable-in-Loop.variable c.in_ok-from-in-Loop.from c.in_ok-to-in-Loop.to c.in_ok-stride-in-Loop.stride c.in_ok-inner-in-Loop.inner c.in_ok-marked-in-Loop.marked } in
      let a = loop (plain g.x) (term_of g.first.value) (term_of g.last.value) (term_of g.by.value) (code_of g.body) (mark_of g.mark.value) in
      let kept = λ (e : Expr). sym (term_kept r (λ x. refl) e) in
      let is : act_of s.act ≡ rename_act r (tangent_act p a) =
      λ i. loop (plain (c.in_ok-variable-in-Loop.ensures.same i)) ((c.in_ok-from-in-Loop.ensures.equal ∙ ap term_of c.deref.ensures ∙ kept g.first.value) i) ((c.in_ok-to-in-Loop.ensures.equal ∙ ap term_of c.deref-in-Loop.ensures ∙ kept g.last.value) i) ((c.in_ok-stride-in-Loop.ensures.equal ∙ ap term_of c.deref-in-Loop-2.ensures ∙ kept g.by.value) i)
      (c.in_ok-inner-in-Loop.ensures.tangents callees k i) ((c.in_ok-marked-in-Loop.ensures.equal ∙ ap mark_of c.deref-in-Loop-3.ensures ∙ sym (mark_kept r (λ x. refl) g.mark.value)) i) in
      subst (λ z. AreBehind (rename r (one line (tangent_act p z))) s0 s1) (sym (ap act_of c.in-Loop.is)) (λ rest. steps_pushed s0 s1 s line (rename_act r (tangent_act p a)) rest c.in_ok-push-in-Loop.ensures.items refl is);
}

pub push_act-returns-in_ok-push-in-While : goal.push_act-returns-in_ok-push-in-While
push_act-returns-in_ok-push-in-While t c = record {
  steps = λ callees k.
      let self = c.args.self.now in
      let r = naming_in self in
      let p = plan_of self callees in
      let line = c.args.stmt.now.line in
      let s0 = c.args.steps.now.items in
      let s1 = c.push-in-While.new.self.items in
      let s : Stmt = record { line = line; act = While c.in_ok-test-in-While.test c.in_ok-inner-in-While.inner } in
      let a = during (test_of c.in-While.c) (code_of c.in-While.body) in
      let is : act_of s.act ≡ rename_act r (tangent_act p a) = λ i. during ((c.in_ok-test-in-While.ensures.equal ∙ sym (test_kept r (λ x. refl) c.in-While.c)) i) (c.in_ok-inner-in-While.ensures.tangents callees k i) in
      subst (λ z. AreBehind (rename r (one line (tangent_act p z))) s0 s1) (sym (ap act_of c.in-While.is)) (λ rest. steps_pushed s0 s1 s line (rename_act r (tangent_act p a)) rest c.in_ok-push-in-While.ensures.items refl is);
}

pub push_list-loop-current-preserved : goal.push_list-loop-current-preserved
push_list-loop-current-preserved t c =
    let stmt = c.deref.result.now.first in
    record {
      no_deeper =
          let whole = sized-More c.in-More.row in
          let row = size_is-Row c.in-More.row.value in
          let was = ap size-Stmts c.in-More.is in
          let left = ap (λ z. size-Stmts z.rest) c.deref-in-More.ensures in
          let earlier = c.loop-current.invariant.no_deeper in
          first_of (omega (arith, whole, row, was, left, earlier), grind (arith, whole, row, was, left, earlier));
      passed = λ callees k rest.
          let self = c.args.self.now in
          next_written (naming_in self) (plan_of self callees) stmt.line (act_of stmt.act) (code_of c.loop-current.current.now) (code_of c.deref-in-More.result.now.rest) c.loop-current.steps.items c.push_statement.new.steps.items rest
          (ap code_of c.in-More.is ∙ (λ i. step (sym c.deref.ensures i).first.line (act_of (sym c.deref.ensures i).first.act) (code_of (sym c.deref-in-More.ensures i).rest)))
          (c.in_ok-push_statement.ensures.steps callees k)
          ∙ c.loop-current.invariant.passed callees k rest;
    }

pub push_list-returns : goal.push_list-returns
push_list-returns t c =
    let empty : c.loop-current.current.now ≡ stmts.Empty = search rules in
    record {
      steps = λ callees k rest.
          let self = c.args.self.now in
          ap (λ z. steps_onto c.loop-current.steps.items (rename (naming_in self) (tangents (plan_of self callees) z) +++ rest)) (sym (ap code_of empty))
          ∙ c.loop-current.invariant.passed callees k rest;
    }

pub list-returns : goal.list-returns
list-returns t c = record {
  tangents = λ callees k.
      let self = c.args.self.now in
      let made = rename (naming_in self) (tangents (plan_of self callees) (code_of c.args.list.now)) in
      c.in_ok-made.ensures.steps ∙ c.in_ok-push_list.ensures.steps callees k stop ∙ ap (λ z. steps_onto z (made +++ stop)) c.new-steps.ensures.items ∙ append-stop made;
}

pub push_statement-returns : goal.push_statement-returns
push_statement-returns t c = record {
  steps = λ callees k.
      let self = c.args.self.now in
      let p = plan_of self callees in
      let line = c.args.stmt.now.line in
      let a = act_of c.args.stmt.now.act in
      both_behind (naming_in self) (before_act p line a) (one line (tangent_act p a)) c.args.steps.now.items c.push_before.new.steps.items c.push_act.new.steps.items (c.in_ok-push_before.ensures.steps callees) (c.in_ok-push_act.ensures.steps callees k);
}

pub push_act-returns-in_ok-made-in-Assign : goal.push_act-returns-in_ok-made-in-Assign
push_act-returns-in_ok-made-in-Assign t c = record {
  steps = λ callees k rest.
      let self = c.args.self.now in
      let p = plan_of self callees in
      let kept = as_it_is (naming_in self) (λ x. refl) p c.args.stmt.now.act c.in-Assign.is in
      c.in_ok-made-in-Assign.ensures.steps rest ∙ ap (λ z. steps_onto c.args.steps.now.items (step c.args.stmt.now.line z rest)) (sym kept);
}
