use Rattle.std.proofs.Common.{◌≡◌, ◌∙◌, ◌+◌, ◌++◌, map, ap, sym, arith, append_assoc}
use Rattle.adj_tree.specs.Code.{step}
use Rattle.adj_tree.specs.View.{act_of, code_of, procedure_of}
use Rattle.adj_tree.specs.declared.stmt.Act.TheViews.{sized-More, size_is-Row}
use Rattle.adj_tree.specs.declared.stmt.Stmts.{size-Stmts}
use Rattle.def_kernel.specs.Stepped.{marked_in_act, marked_in, step_units_in_act, step_units_in}
use Rattle.adj_norm.proofs.steps.+steps.Goals as goal

pub add_step_units-loop-current-preserved : goal.add_step_units-loop-current-preserved
add_step_units-loop-current-preserved t c =
    let l = c.loop-current in
    let stmt = c.deref.result.now.first in
    let a = act_of stmt.act in
    let others = code_of c.deref-in-More.result.now.rest in
    let is : code_of l.current.now ≡ step stmt.line a others = ap code_of c.in-More.is ∙ (λ i. step (sym c.deref.ensures i).first.line (act_of (sym c.deref.ensures i).first.act) (code_of (sym c.deref-in-More.ensures i).rest)) in
    let p = c.in_ok-next.ensures in
    record {
      no_deeper =
          let whole = sized-More c.in-More.row in
          let row = size_is-Row c.in-More.row.value in
          let was = ap size-Stmts c.in-More.is in
          let left = ap (λ z. size-Stmts z.rest) c.deref-in-More.ensures in
          let earlier = l.invariant.no_deeper in
          omega (arith, whole, row, was, left, earlier);
      next =
          let here : marked_in (code_of l.current.now) ≡ marked_in_act a + marked_in others = ap marked_in is in
          omega (arith, here, l.invariant.next, p.next);
      made = λ taken u k.
          let made = map procedure_of l.units.items in
          let own = step_units_in_act taken u l.next stmt.line a in
          (λ i. p.units taken u k i ++ step_units_in taken u (p.next i) others) ∙ append_assoc made own (step_units_in taken u (l.next + marked_in_act a) others)
          ∙ ap (λ z. made ++ step_units_in taken u l.next z) (sym is) ∙ l.invariant.made taken u k;
    }
