use Rattle.std.proofs.Common.{◌≡◌, ◌∙◌, ◌+◌, ap, sym, arith}
use Rattle.adj_tree.specs.Code.{neg, var}
use Rattle.adj_tree.specs.View.{op_of, term_of}
use Rattle.def_meaning.specs.Append.{◌+++◌}
use Rattle.def_kernel.specs.Lowered.{locals_in, reduced, before, turned_up}
use Rattle.adj_norm_statement.specs.Locals.{local_by}
use Rattle.adj_norm_statement.specs.Operations.{locals_by, combined, before_combined}
use Rattle.adj_norm_statement.proofs.Onto.{writes_both, writes_same}
use Rattle.adj_norm_statement.proofs.Expressions.{reduced_parts, before_parts, locals_parts}
use Rattle.adj_norm_statement.proofs.expression.+reduces.Goals as goal

pub reduce-returns-in_ok-made-in-Neg-clause-term : goal.reduce-returns-in_ok-made-in-Neg-clause-term
reduce-returns-in_ok-made-in-Neg-clause-term t c =
    rw (c.in-Neg.is, ← c.deref-in-Neg.ensures) (c.in_ok-made-in-Neg.ensures.term ∙ ap neg c.in_ok-inner-in-Neg.ensures.term)

pub reduce-returns-in_ok-made-in-Add-clause-next : goal.reduce-returns-in_ok-made-in-Add-clause-next
reduce-returns-in_ok-made-in-Add-clause-next t c =
    let a = term_of c.in-Bin.a.value in
    let b = term_of c.in-Bin.b.value in
    let op = c.in-Bin.op in
    let j = c.args.first in
    let p = c.in_ok-made-in-Add in
    let next : p.made.next ≡ j + locals_in a + locals_in b + locals_by (op_of op) = p.ensures.next ∙ (λ i. j + locals_in (term_of (c.deref-in-Add.ensures i)) + locals_in (term_of (c.deref-in-Add-2.ensures i)) + locals_by (op_of op)) in
    let whole : locals_in (term_of c.args.e.now) ≡ locals_in a + locals_in b + locals_by (op_of op) = ap (λ e. locals_in (term_of e)) c.in-Bin.is ∙ locals_parts a b op c.in-Add.is in
    omega (arith, next, whole)

pub reduce-returns-in_ok-made-in-Add-clause-term : goal.reduce-returns-in_ok-made-in-Add-clause-term
reduce-returns-in_ok-made-in-Add-clause-term t c =
    let op = c.in-Bin.op in
    let j = c.args.first in
    let a = term_of c.in-Bin.a.value in
    let b = term_of c.in-Bin.b.value in
    let local = local_by c.args.locals.now in
    let first = c.deref-in-Add.ensures in
    let second = c.deref-in-Add-2.ensures in
    let made : term_of c.in_ok-made-in-Add.made.term.value ≡ combined local (op_of op) (j + locals_in a + locals_in b) (reduced local j a) (reduced local (j + locals_in a) b) =
    c.in_ok-made-in-Add.ensures.term ∙ (λ i. combined local (op_of op) (j + locals_in (term_of (first i)) + locals_in (term_of (second i))) (reduced local j (term_of (first i))) (reduced local (j + locals_in (term_of (first i))) (term_of (second i)))) in
    let whole : combined local (op_of op) (j + locals_in a + locals_in b) (reduced local j a) (reduced local (j + locals_in a) b) ≡ reduced local j (term_of c.args.e.now) = sym (reduced_parts local j a b op c.in-Add.is) ∙ ap (λ e. reduced local j (term_of e)) (sym c.in-Bin.is) in
    made ∙ whole

pub reduce-returns-in_ok-made-in-Add-clause-steps : goal.reduce-returns-in_ok-made-in-Add-clause-steps
reduce-returns-in_ok-made-in-Add-clause-steps t c =
    let op = c.in-Bin.op in
    let j = c.args.first in
    let line = c.args.line in
    let a = term_of c.in-Bin.a.value in
    let b = term_of c.in-Bin.b.value in
    let local = local_by c.args.locals.now in
    let first = c.deref-in-Add.ensures in
    let second = c.deref-in-Add-2.ensures in
    writes_same _ _ _ _ c.in_ok-made-in-Add.ensures.steps
    ((λ i. (before local line j (term_of (first i)) +++ before local line (j + locals_in (term_of (first i))) (term_of (second i))) +++ before_combined local line (op_of op) (j + locals_in (term_of (first i)) + locals_in (term_of (second i))) (reduced local j (term_of (first i))) (reduced local (j + locals_in (term_of (first i))) (term_of (second i))))
    ∙ before_parts local j a b line op c.in-Add.is ∙ ap (λ e. before local line j (term_of e)) (sym c.in-Bin.is))

pub reduce-returns-in_ok-made-in-Abs-clause-term : goal.reduce-returns-in_ok-made-in-Abs-clause-term
reduce-returns-in_ok-made-in-Abs-clause-term t c =
    let local = local_by c.args.locals.now in
    let j = c.args.first in
    let a = term_of c.in-Abs.a.value in
    let p = c.in_ok-operand-in-Abs in
    let next : p.operand.next ≡ j + locals_in a = p.ensures.next ∙ ap (λ x. j + locals_in (term_of x)) c.deref-in-Abs.ensures in
    c.in_ok-made-in-Abs.ensures.term ∙ (λ i. var ((p.ensures.locals i) (next i))) ∙ ap (λ e. reduced local j (term_of e)) (sym c.in-Abs.is)

pub reduce-returns-in_ok-made-in-Abs-clause-steps : goal.reduce-returns-in_ok-made-in-Abs-clause-steps
reduce-returns-in_ok-made-in-Abs-clause-steps t c =
    let local = local_by c.args.locals.now in
    let j = c.args.first in
    let line = c.args.line in
    let a = term_of c.in-Abs.a.value in
    let p = c.in_ok-operand-in-Abs in
    let next : p.operand.next ≡ j + locals_in a = p.ensures.next ∙ ap (λ x. j + locals_in (term_of x)) c.deref-in-Abs.ensures in
    let term : term_of p.operand.term.value ≡ reduced local j a = p.ensures.term ∙ ap (λ x. reduced local j (term_of x)) c.deref-in-Abs.ensures in
    let first = writes_same _ _ _ (before local line j a) p.ensures.steps (ap (λ x. before local line j (term_of x)) c.deref-in-Abs.ensures) in
    let second = writes_same _ _ _ (turned_up local line (j + locals_in a) (reduced local j a)) c.in_ok-made-in-Abs.ensures.steps (λ i. turned_up (p.ensures.locals i) line (next i) (term i)) in
    writes_same _ _ _ _ (writes_both _ _ _ _ _ first second) (ap (λ e. before local line j (term_of e)) (sym c.in-Abs.is))

pub reduce_both-returns-clause-term : goal.reduce_both-returns-clause-term
reduce_both-returns-clause-term t c =
    let b = term_of c.args.b.now in
    let l = c.in_ok-left.ensures in
    let r = c.in_ok-right.ensures in
    let next : c.in_ok-right.right.next ≡ c.args.first + locals_in (term_of c.args.a.now) + locals_in b = r.next ∙ ap (λ z. z + locals_in b) l.next in
    let right : term_of c.in_ok-right.right.term.value ≡ reduced (local_by c.args.locals.now) (c.args.first + locals_in (term_of c.args.a.now)) b = r.term ∙ (λ i. reduced (l.locals i) (l.next i) b) in
    let same = r.locals ∙ l.locals in
    c.in_ok-made.ensures.term ∙ (λ i. combined (same i) (op_of c.args.op) (next i) (l.term i) (right i))

pub reduce_both-returns-clause-steps : goal.reduce_both-returns-clause-steps
reduce_both-returns-clause-steps t c =
    let local = local_by c.args.locals.now in
    let line = c.args.line in
    let j = c.args.first in
    let a = term_of c.args.a.now in
    let b = term_of c.args.b.now in
    let op = op_of c.args.op in
    let l = c.in_ok-left.ensures in
    let r = c.in_ok-right.ensures in
    let next : c.in_ok-right.right.next ≡ j + locals_in a + locals_in b = r.next ∙ ap (λ z. z + locals_in b) l.next in
    let right : term_of c.in_ok-right.right.term.value ≡ reduced local (j + locals_in a) b = r.term ∙ (λ i. reduced (l.locals i) (l.next i) b) in
    let same = r.locals ∙ l.locals in
    let operands = writes_both _ _ _ _ _ l.steps (writes_same _ _ _ (before local line (j + locals_in a) b) r.steps (λ i. before (l.locals i) line (l.next i) b)) in
    let made = writes_same _ _ _ (before_combined local line op (j + locals_in a + locals_in b) (reduced local j a) (reduced local (j + locals_in a) b)) c.in_ok-made.ensures.steps (λ i. before_combined (same i) line op (next i) (l.term i) (right i)) in
    writes_both _ _ _ _ _ operands made
