use Rattle.std.proofs.Common.{◌≡◌, ◌∙◌}
use Rattle.adj_tree.specs.Code.{plain, none, assign}
use Rattle.adj_tree.specs.View.{term_of}
use Rattle.def_meaning.specs.Append.{◌+++◌, one}
use Rattle.def_kernel.specs.Lowered.{before}
use Rattle.adj_norm_statement.specs.Locals.{local_by}
use Rattle.adj_norm_statement.proofs.Onto.{writes_both, writes_same}
use Rattle.adj_norm_statement.proofs.target.hold.Goals as goal

pub returns-clause-steps : goal.returns-clause-steps
returns-clause-steps c =
    let local = local_by c.args.locals.now in
    let line = c.args.line in
    let e = term_of c.args.e.now in
    let value = c.in_ok-value.ensures in
    let name : plain c.in_ok-name.name ≡ local c.args.number = c.in_ok-name.ensures.name ∙ (λ k. (value.locals k) c.args.number) in
    writes_same _ _ _ _ (writes_both _ _ _ _ _ value.steps c.in_ok-set.ensures.written) (λ k. before local line c.args.first e +++ one line (assign (name k) none (value.term k)))
