use Rattle.std.proofs.Common.{◌≡◌, ◌∙◌, max, ap, sym, arith}
use Rattle.adj_tree.specs.Code.{stop, step}
use Rattle.adj_tree.specs.View.{act_of, code_of}
use Rattle.adj_tree.specs.declared.stmt.Act.TheViews.{sized-More, size_is-Row}
use Rattle.adj_tree.specs.declared.stmt.Stmts.{size-Stmts}
use Rattle.adj_tree.specs.Listed.{steps_onto}
use Rattle.def_meaning.specs.Append.{◌+++◌}
use Rattle.def_meaning.proofs.Appends.{append-stop}
use Rattle.def_kernel.specs.Lowered.{lowered_act, lowered, locals_of_act, locals_of}
use Rattle.adj_norm_statement.specs.Handed.{handed_by}
use Rattle.adj_norm_statement.specs.Locals.{local_by}
use Rattle.adj_norm_statement.proofs.Onto.{writes_same, leaves_less}
use Rattle.adj_norm_statement.proofs.statement.+lowers.Goals as goal

pub lower_onto-loop-current-preserved : goal.lower_onto-loop-current-preserved
lower_onto-loop-current-preserved t c =
    let l = c.loop-current in
    let local = local_by c.args.locals.now in
    let handed = handed_by c.args.handed.now in
    let stmt = c.deref.result.now.first in
    let a = act_of stmt.act in
    let others = code_of c.deref-in-More.result.now.rest in
    let is : code_of l.current.now ≡ step stmt.line a others = ap code_of c.in-More.is ∙ (λ i. step (sym c.deref.ensures i).first.line (act_of (sym c.deref.ensures i).first.act) (code_of (sym c.deref-in-More.ensures i).rest)) in
    let p = c.in_ok-taken.ensures in
    let same = l.invariant.locals in
    let taken : c.in_ok-taken.taken ≡ locals_of_act local handed a = p.most ∙ (λ i. locals_of_act (same i) handed a) in
    let here : locals_of local handed (code_of l.current.now) ≡ max (locals_of_act local handed a) (locals_of local handed others) = ap (locals_of local handed) is in
    record {
      no_deeper =
          let whole = sized-More c.in-More.row in
          let row = size_is-Row c.in-More.row.value in
          let was = ap size-Stmts c.in-More.is in
          let left = ap (λ z. size-Stmts z.rest) c.deref-in-More.ensures in
          let earlier = l.invariant.no_deeper in
          omega (arith, whole, row, was, left, earlier);
      most = omega (arith, taken, here, l.invariant.most);
      steps = leaves_less _ _ _ _ _ (lowered_act local handed stmt.line a) _ l.invariant.steps
          (writes_same _ _ _ _ p.steps (λ i. lowered_act (same i) handed stmt.line a))
          (ap (lowered local handed) is);
      locals = p.locals ∙ same;
    }

pub lower-returns-clause-code : goal.lower-returns-clause-code
lower-returns-clause-code t c =
    let all = lowered (local_by c.args.locals.now) (handed_by c.args.handed.now) (code_of c.args.code.now) in
    c.in_ok-code.ensures.listed ∙ c.in_ok-most.ensures.steps stop ∙ ap (λ s. steps_onto s (all +++ stop)) c.new-steps.ensures.items ∙ append-stop all
