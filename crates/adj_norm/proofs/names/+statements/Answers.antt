use Rattle.std.proofs.Common.{◌≡◌, ap, sym, ◌∙◌, arith}
use Rattle.adj_tree.specs.Code.{step}
use Rattle.adj_tree.specs.View.{act_of, code_of}
use Rattle.adj_tree.specs.declared.stmt.Act.TheViews.{sized-More, size_is-Row}
use Rattle.adj_tree.specs.declared.stmt.Stmts.{size-Stmts}
use Rattle.def_kernel.specs.Kernel.{names_in_act, names_in_code}
use Rattle.adj_sets.specs.Sets.{all_added}
use Rattle.adj_norm.proofs.Adding.{added_both}
use Rattle.adj_norm.proofs.names.+statements.Goals as goal

pub add_code-loop-current-preserved : goal.add_code-loop-current-preserved
add_code-loop-current-preserved t c =
    let l = c.loop-current in
    let stmt = c.deref.result.now.first in
    let others = code_of c.deref-in-More.result.now.rest in
    let is : code_of l.current.now ≡ step stmt.line (act_of stmt.act) others = ap code_of c.in-More.is ∙ (λ i. step (sym c.deref.ensures i).first.line (act_of (sym c.deref.ensures i).first.act) (code_of (sym c.deref-in-More.ensures i).rest)) in
    record {
      no_deeper =
          let whole = sized-More c.in-More.row in
          let row = size_is-Row c.in-More.row.value in
          let was = ap size-Stmts c.in-More.is in
          let left = ap (λ z. size-Stmts z.rest) c.deref-in-More.ensures in
          let earlier = l.invariant.no_deeper in
          omega (arith, whole, row, was, left, earlier);
      left =
          ap (λ z. all_added z (names_in_code others)) c.in_ok-add_statement.ensures.added ∙ sym (added_both l.names (names_in_act (act_of stmt.act)) (names_in_code others))
          ∙ ap (λ z. all_added l.names (names_in_code z)) (sym is) ∙ l.invariant.left;
    }
