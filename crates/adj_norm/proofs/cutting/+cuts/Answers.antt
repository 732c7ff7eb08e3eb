use Rattle.std.proofs.Common.{◌≡◌, ◌∙◌, ◌+◌, ap, sym, arith}
use Rattle.adj_tree.specs.Code.{step, stop}
use Rattle.adj_tree.specs.View.{act_of, code_of}
use Rattle.adj_tree.specs.declared.stmt.Act.TheViews.{sized-More, size_is-Row}
use Rattle.adj_tree.specs.declared.stmt.Stmts.{size-Stmts}
use Rattle.adj_tree.specs.Listed.{steps_onto}
use Rattle.def_meaning.specs.Append.{◌+++◌, one}
use Rattle.def_meaning.proofs.Appends.{append-stop}
use Rattle.def_kernel.specs.Stepped.{marked_in_act, marked_in, cut_act, cut}
use Rattle.adj_norm_statement.proofs.Onto.{leaves_less}
use Rattle.adj_norm.proofs.cutting.+cuts.Goals as goal

pub cut_onto-loop-current-preserved : goal.cut_onto-loop-current-preserved
cut_onto-loop-current-preserved t c =
    let l = c.loop-current in
    let stmt = c.deref.result.now.first in
    let a = act_of stmt.act in
    let others = code_of c.deref-in-More.result.now.rest in
    let is : code_of l.current.now ≡ step stmt.line a others = ap code_of c.in-More.is ∙ (λ i. step (sym c.deref.ensures i).first.line (act_of (sym c.deref.ensures i).first.act) (code_of (sym c.deref-in-More.ensures i).rest)) in
    let p = c.in_ok-next.ensures in
    let after = c.in_ok-next.next in
    record {
      no_deeper =
          let whole = sized-More c.in-More.row in
          let row = size_is-Row c.in-More.row.value in
          let was = ap size-Stmts c.in-More.is in
          let left = ap (λ z. size-Stmts z.rest) c.deref-in-More.ensures in
          let earlier = l.invariant.no_deeper in
          omega (arith, whole, row, was, left, earlier);
      next =
          let here : marked_in (code_of l.current.now) ≡ marked_in_act a + marked_in others = ap marked_in is in
          omega (arith, here, l.invariant.next, p.next);
      written = λ taken u k.
          leaves_less _ _ _ _ _ (one stmt.line (cut_act taken u l.next stmt.line a)) _ (l.invariant.written taken u k) (p.written taken u k)
          (ap (cut taken u l.next) is ∙ ap (λ n. one stmt.line (cut_act taken u l.next stmt.line a) +++ cut taken u n others) (sym p.next));
    }

pub cut-returns-clause-code : goal.cut-returns-clause-code
cut-returns-clause-code t c = λ taken u k.
    let all = cut taken u c.args.first (code_of c.args.code.now) in
    c.in_ok-code.ensures.listed ∙ c.in_ok-next.ensures.written taken u k stop ∙ ap (λ s. steps_onto s (all +++ stop)) c.new-out.ensures.items ∙ append-stop all
