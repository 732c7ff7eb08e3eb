use Rattle.adj_tree.specs.Code.{var, none, assign, choose, stop, step}
use Rattle.adj_tree.specs.View.{term_of}
use Rattle.def_meaning.specs.Append.{one}
use Rattle.adj_norm_statement.specs.Operations.{test_between}
use Rattle.adj_norm_statement.proofs.Onto.{writes_same}
use Rattle.adj_norm_statement.proofs.expression.outermost.Goals as goal

pub returns-clause-steps : goal.returns-clause-steps
returns-clause-steps c =
    let line = c.args.line in
    let a = term_of c.args.operands.left.term.value in
    let b = term_of c.args.operands.right.term.value in
    let p = c.in_ok-names.ensures in
    writes_same _ _ _ _ c.in_ok-pick.ensures.written (λ k. step line (assign (p.first k) none a) (step line (assign (p.second k) none b) (one line (choose (test_between c.args.largest (p.first k) (p.second k)) (one line (assign (p.first k) none (var (p.second k)))) stop))))
