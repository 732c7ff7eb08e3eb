use Rattle.std.proofs.Common.{◌≡◌, ◌+◌, ap, sym, ◌∙◌, map, arith}
use Rattle.adj_tree.specs.Size.{act_nodes, code_nodes}
use Rattle.adj_tree.specs.View.{act_of, code_of, procedure_of}
use Rattle.def_meaning.specs.LeastSet.{row_of}
use Rattle.def_names.specs.Fault.{fault, faults_if, first_of, sooner}
use Rattle.def_names.proofs.Order.{sooner_then}
use Rattle.adj_symbols.specs.Opening.{open_inner, open_faults}
use Rattle.adj_symbols.specs.Writes.{writes_one}
use Rattle.adj_symbols.proofs.Meeting.{more_open}
use Rattle.adj_symbols.proofs.Opening.{step_more}
use Rattle.adj_symbols.proofs.loop_writes.+open.Goals as goal

pub add_inner-returns-in_ok-add_list-in-If-2-clause-faults : goal.add_inner-returns-in_ok-add_list-in-If-2-clause-faults
add_inner-returns-in_ok-add_list-in-If-2-clause-faults t c =
    let h = row_of (map procedure_of c.args.scope.now) c.args.written.now in
    let f0 = c.args.first.now in
    let f1 = c.add_list.new.first in
    let f2 = c.add_list-in-If.new.first in
    let hits = writes_one h c.args.opened.now in
    let then = code_of c.in-If.then in
    let other = code_of c.in-If.other in
    sooner_then (open_faults h hits then) (open_faults h hits other) f0 f1 f2 c.in_ok-add_list-in-If.ensures.faults
    (c.in_ok-add_list-in-If-2.ensures.faults ∙ ap (λ o. sooner f1 (first_of (open_faults h (writes_one h o) other))) c.in_ok-add_list-in-If.ensures.opened)
    ∙ ap (λ a. sooner f0 (first_of (open_inner h hits (act_of a)))) (sym c.in-If.is)

pub add_inner-returns-in_ok-add_list-in-Loop-clause-faults : goal.add_inner-returns-in_ok-add_list-in-Loop-clause-faults
add_inner-returns-in_ok-add_list-in-Loop-clause-faults t c =
    let h = row_of (map procedure_of c.args.scope.now) c.args.written.now in
    let f0 = c.args.first.now in
    let xs = c.args.opened.now in
    let body = code_of c.in-Loop.body in
    c.in_ok-add_list-in-Loop.ensures.faults
    ∙ ap (λ o. sooner f0 (first_of (open_faults h (writes_one h o) body))) c.in_ok-added-in-Loop.ensures.names
    ∙ ap (λ k. sooner f0 (first_of (open_faults h k body))) (more_open h c.in-Loop.name xs)
    ∙ ap (λ a. sooner f0 (first_of (open_inner h (writes_one h xs) (act_of a)))) (sym c.in-Loop.is)

pub add_list-loop-rest-preserved : goal.add_list-loop-rest-preserved
add_list-loop-rest-preserved t c =
    let h = row_of (map procedure_of c.args.scope.now) c.args.written.now in
    let hits = writes_one h c.args.opened.now in
    let s = c.in-More.row.value.first in
    let a = act_of s.act in
    let next = code_of c.in-More.row.value.rest in
    let f0 = c.loop-rest.first in
    let f1 = c.add_if.new.self in
    let f2 = c.add_inner.new.first in
    let own : f1 ≡ sooner f0 (first_of (faults_if (hits a) (fault 11 s.line))) =
    c.add_if.ensures.added
    ∙ (λ i. sooner f0 (first_of (faults_if c.in_ok-is_hit.is_hit (fault 11 (c.deref-in-More.ensures i).first.line))))
    ∙ ap (λ b. sooner f0 (first_of (faults_if b (fault 11 s.line)))) (c.in_ok-is_hit.ensures ∙ (λ i. writes_one h (c.loop-rest.invariant.kept i) (act_of (c.deref.ensures i).first.act))) in
    let within : f2 ≡ sooner f1 (first_of (open_inner h hits a)) =
    c.in_ok-add_inner.ensures.faults
    ∙ (λ i. sooner f1 (first_of (open_inner h (writes_one h (c.loop-rest.invariant.kept i)) (act_of (c.deref-in-More-2.ensures i).first.act)))) in
    record {
      no_more =
          let left : code_nodes (code_of c.deref-in-More-3.result.now.rest) ≡ code_nodes next = ap (λ z. code_nodes (code_of z.rest)) c.deref-in-More-3.ensures in
          let was : code_nodes (code_of c.loop-rest.rest.now) ≡ act_nodes a + code_nodes next = ap (λ z. code_nodes (code_of z)) c.in-More.is in
          omega (arith, c.loop-rest.invariant.no_more);
      kept = c.in_ok-add_inner.ensures.opened ∙ c.loop-rest.invariant.kept;
      faults =
          ap (λ z. sooner f2 (first_of (open_faults h hits (code_of z.rest)))) c.deref-in-More-3.ensures
          ∙ step_more h hits s.line a next f0 f1 f2 own within
          ∙ ap (λ z. sooner f0 (first_of (open_faults h hits (code_of z)))) (sym c.in-More.is)
          ∙ c.loop-rest.invariant.faults;
    }
