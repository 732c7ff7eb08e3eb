use Rattle.std.proofs.Common.{rules, ◌≡◌, suc, ◌∙◌, sym, ap, subst, arith}
use Rattle.adj_tree.specs.Code.{plain, loop, step}
use Rattle.adj_tree.specs.View.{term_of, mark_of, act_of, code_of}
use Rattle.adj_tree.specs.declared.stmt.Stmts.{size-Stmts}
use Rattle.adj_tree.specs.declared.stmt.Stmts.TheVariants as stmts
use Rattle.adj_tree.specs.declared.stmt.Act.TheViews.{sized-More, size_is-Row}
use Rattle.def_names.specs.Numbers.{behind}
use Rattle.adj_sweep.specs.Depths.{AddsAct, AddsList}
use Rattle.adj_sweep.specs.Uses.{plan_by, schedules_by, UsesAct, UsesList}
use Rattle.adj_sweep.proofs.Added.{adds_if, adds_while}
use Rattle.adj_sweep.proofs.HelpersPassed.{Joined, passed_more, deeper_more, passed_all, deeper_all}
use Rattle.adj_sweep.proofs.uses.Known.+walk.Goals as goal

pub statement-returns-in_ok-used-in-Assign-clause-uses : goal.statement-returns-in_ok-used-in-Assign-clause-uses
statement-returns-in_ok-used-in-Assign-clause-uses t c = λ arrays callees reads k.
    subst (λ a. UsesAct (schedules_by c.args.self.now reads) (plan_by c.args.self.now arrays callees) c.args.depth c.args.number a c.in_ok-used-in-Assign.used) (sym (ap act_of c.in-Assign.is))
    (c.in_ok-used-in-Assign.ensures.uses (schedules_by c.args.self.now reads) arrays callees c.args.depth)

pub statement-returns-in_ok-used-in-Call-clause-uses : goal.statement-returns-in_ok-used-in-Call-clause-uses
statement-returns-in_ok-used-in-Call-clause-uses t c = λ arrays callees reads k.
    subst (λ a. UsesAct (schedules_by c.args.self.now reads) (plan_by c.args.self.now arrays callees) c.args.depth c.args.number a c.in_ok-used-in-Call.used) (sym (ap act_of c.in-Call.is))
    (c.in_ok-used-in-Call.ensures.uses (schedules_by c.args.self.now reads) arrays callees reads k c.args.depth)

pub statement-returns-in_ok-second-in-If : goal.statement-returns-in_ok-second-in-If
statement-returns-in_ok-second-in-If t c =
    let a = code_of c.in-If.a in
    let b = code_of c.in-If.b in
    let i = c.args.number in
    let d = c.args.depth in
    let first = c.in_ok-first-in-If.first in
    let second = c.in_ok-second-in-If.second in
    let begun : c.in_ok-begun-in-If.begun ≡ suc i = omega arith in
    record {
      uses = λ arrays callees reads k.
          let r = schedules_by c.args.self.now reads in
          let p = plan_by c.args.self.now arrays callees in
          subst (λ z. UsesAct r p d i z c.branch-self.result) (sym (ap act_of c.in-If.is))
          (c.branch-self.ensures.uses r arrays callees d _ a b
          (subst (λ n. UsesList r p d n a first) begun (c.in_ok-first-in-If.ensures.uses arrays callees reads k))
          (c.in_ok-second-in-If.ensures.uses arrays callees reads k));
      adds = λ arrays callees reads k.
          let r = schedules_by c.args.self.now reads in
          let p = plan_by c.args.self.now arrays callees in
          subst (λ z. AddsAct r p d i z c.args.depths.now c.list-in-If.new.depths) (sym (ap act_of c.in-If.is))
          (adds_if r p d i first.number _ a b c.args.depths.now c.list.new.depths c.list-in-If.new.depths
          ((c.in_ok-first-in-If.ensures.uses arrays callees reads k).number ∙ ap (λ n. behind n a) begun)
          (subst (λ n. AddsList r p d n a c.args.depths.now c.list.new.depths) begun (c.in_ok-first-in-If.ensures.adds arrays callees reads k))
          (c.in_ok-second-in-If.ensures.adds arrays callees reads k));
    }

pub statement-returns-in_ok-used-in-Loop : goal.statement-returns-in_ok-used-in-Loop
statement-returns-in_ok-used-in-Loop t c =
    let body = code_of c.in-Loop.body in
    let act = ap act_of c.in-Loop.is ∙ (λ i. loop (plain c.in-Loop.x) (term_of c.in-Loop.field-1.value) (term_of c.in-Loop.field-2.value) (term_of c.in-Loop.field-3.value) body (mark_of (sym c.deref.ensures i))) in
    let i = c.args.number in
    let d = c.args.depth in
    let inner = c.in_ok-inner-in-Loop.inner in
    let begun : c.in_ok-begun-in-Loop.begun ≡ suc i = omega arith in
    let inside : c.in_ok-inside-in-Loop.inside ≡ suc d = omega arith in
    record {
      uses = λ arrays callees reads k.
          let r = schedules_by c.args.self.now reads in
          let p = plan_by c.args.self.now arrays callees in
          subst (λ z. UsesAct r p d i z c.in_ok-used-in-Loop.used) (sym act)
          (c.in_ok-used-in-Loop.ensures.uses arrays callees reads d _ _ _ inside
          (subst (λ n. UsesList r p (suc d) n body inner) begun
          (subst (λ n. UsesList r p n c.in_ok-begun-in-Loop.begun body inner) inside (c.in_ok-inner-in-Loop.ensures.uses arrays callees reads k))));
      adds = λ arrays callees reads k.
          let r = schedules_by c.args.self.now reads in
          let p = plan_by c.args.self.now arrays callees in
          let mid = c.list-in-Loop.new.depths in
          subst (λ z. AddsAct r p d i z c.args.depths.now c.around.new.depths) (sym act)
          (c.in_ok-used-in-Loop.ensures.adds arrays callees reads d _ _ _ c.args.depths.now inside
          (subst (λ n. UsesList r p (suc d) n body inner) begun
          (subst (λ n. UsesList r p n c.in_ok-begun-in-Loop.begun body inner) inside (c.in_ok-inner-in-Loop.ensures.uses arrays callees reads k))).idle
          (subst (λ n. AddsList r p (suc d) n body c.args.depths.now mid) begun
          (subst (λ n. AddsList r p n c.in_ok-begun-in-Loop.begun body c.args.depths.now mid) inside (c.in_ok-inner-in-Loop.ensures.adds arrays callees reads k))));
    }

pub statement-returns-in_ok-add_while-in-While : goal.statement-returns-in_ok-add_while-in-While
statement-returns-in_ok-add_while-in-While t c =
    let body = code_of c.in-While.body in
    let i = c.args.number in
    let d = c.args.depth in
    let inner = c.in_ok-inner-in-While.inner in
    let begun : c.in_ok-begun-in-While.begun ≡ suc i = omega arith in
    let inside : c.in_ok-inside-in-While.inside ≡ suc d = omega arith in
    record {
      uses = λ arrays callees reads k.
          let r = schedules_by c.args.self.now reads in
          let p = plan_by c.args.self.now arrays callees in
          subst (λ z. UsesAct r p d i z c.while_loop.result) (sym (ap act_of c.in-While.is))
          (c.while_loop.ensures.uses r arrays callees d _ body inside
          (subst (λ n. UsesList r p (suc d) n body inner) begun
          (subst (λ n. UsesList r p n c.in_ok-begun-in-While.begun body inner) inside (c.in_ok-inner-in-While.ensures.uses arrays callees reads k))));
      adds = λ arrays callees reads k.
          let r = schedules_by c.args.self.now reads in
          let p = plan_by c.args.self.now arrays callees in
          let mid = c.list-in-While.new.depths in
          subst (λ z. AddsAct r p d i z c.args.depths.now c.add_while.new.self) (sym (ap act_of c.in-While.is))
          (adds_while r p d i c.in_ok-inside-in-While.inside inner.idle _ body c.args.depths.now mid c.add_while.new.self inside
          (subst (λ n. UsesList r p (suc d) n body inner) begun
          (subst (λ n. UsesList r p n c.in_ok-begun-in-While.begun body inner) inside (c.in_ok-inner-in-While.ensures.uses arrays callees reads k))).idle
          (subst (λ n. AddsList r p (suc d) n body c.args.depths.now mid) begun
          (subst (λ n. AddsList r p n c.in_ok-begun-in-While.begun body c.args.depths.now mid) inside (c.in_ok-inner-in-While.ensures.adds arrays callees reads k)))
          c.in_ok-add_while-in-While.ensures.dos c.in_ok-add_while-in-While.ensures.loops c.in_ok-add_while-in-While.ensures.reversed c.in_ok-add_while-in-While.ensures.slots);
    }

pub list-loop-current-preserved : goal.list-loop-current-preserved
list-loop-current-preserved t c =
    let stmt = c.deref.result.now.first in
    let old = c.loop-current.made in
    let used = c.in_ok-used.used in
    let new = c.with_next-made.result in
    let w = c.with_next-made.ensures in
    let current = code_of c.loop-current.current.now in
    let left = code_of c.deref-in-More.result.now.rest in
    let is : current ≡ step stmt.line (act_of stmt.act) left = ap code_of c.in-More.is ∙ (λ i. step (sym c.deref.ensures i).first.line (act_of (sym c.deref.ensures i).first.act) (code_of (sym c.deref-in-More.ensures i).rest)) in
    let joined : Joined old used new = record { idle = w.idle; tells = w.tells; works = w.works; temps = w.temps; depth = w.depth; number = w.number } in
    record {
      no_deeper =
          let whole = sized-More c.in-More.row in
          let row = size_is-Row c.in-More.row.value in
          let was = ap size-Stmts c.in-More.is in
          let rest = ap (λ z. size-Stmts z.rest) c.deref-in-More.ensures in
          let earlier = c.loop-current.invariant.no_deeper in
          first_of (omega (arith, whole, row, was, rest, earlier), grind (arith, whole, row, was, rest, earlier));
      passed = λ arrays callees reads k.
          passed_more (schedules_by c.args.self.now reads) (plan_by c.args.self.now arrays callees) c.args.depth c.args.number stmt.line (act_of stmt.act) (code_of c.args.body.now) current left old used new is
          (c.in_ok-used.ensures.uses arrays callees reads k) joined (c.loop-current.invariant.passed arrays callees reads k);
      deeper = λ arrays callees reads k.
          deeper_more (schedules_by c.args.self.now reads) (plan_by c.args.self.now arrays callees) c.args.depth c.args.number stmt.line (act_of stmt.act) (code_of c.args.body.now) current left old.number new.number c.args.depths.now c.loop-current.depths c.statement.new.depths is
          (w.number ∙ (c.in_ok-used.ensures.uses arrays callees reads k).number)
          (c.in_ok-used.ensures.adds arrays callees reads k) (c.loop-current.invariant.deeper arrays callees reads k);
    }

pub list-returns-clause-uses : goal.list-returns-clause-uses
list-returns-clause-uses t c = λ arrays callees reads k.
    let empty : c.loop-current.current.now ≡ stmts.Empty = search rules in
    passed_all (schedules_by c.args.self.now reads) (plan_by c.args.self.now arrays callees) c.args.depth c.args.number (code_of c.args.body.now) (code_of c.loop-current.current.now) c.loop-current.made (ap code_of empty) (c.loop-current.invariant.passed arrays callees reads k)

pub list-returns-clause-adds : goal.list-returns-clause-adds
list-returns-clause-adds t c = λ arrays callees reads k.
    let empty : c.loop-current.current.now ≡ stmts.Empty = search rules in
    deeper_all (schedules_by c.args.self.now reads) (plan_by c.args.self.now arrays callees) c.args.depth c.args.number (code_of c.args.body.now) (code_of c.loop-current.current.now) c.loop-current.made.number c.args.depths.now c.loop-current.depths (ap code_of empty) (c.loop-current.invariant.deeper arrays callees reads k)
