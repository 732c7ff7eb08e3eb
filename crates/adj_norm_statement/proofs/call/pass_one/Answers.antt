use Rattle.std.proofs.Common.{◌∙◌, ap}
use Rattle.def_kernel.specs.Lowered.{passed}
use Rattle.adj_sets.specs.Sets.{with_added}
use Rattle.adj_norm_statement.specs.Locals.{local_by}
use Rattle.adj_norm_statement.proofs.Calls.{names_added}
use Rattle.adj_norm_statement.proofs.call.pass_one.Goals as goal

pub returns-clause-earlier : goal.returns-clause-earlier
returns-clause-earlier c =
    λ names h.
    names_added names _ _ _ _ h (c.in_ok-passed.ensures.name ∙ ap (passed (local_by c.args.locals.now) c.args.values.next) (c.in_ok-actual.ensures.passing names h))
    (c.in_ok-add.ensures.added ∙ ap (λ z. with_added z c.args.earlier.now) c.bytes.ensures.bytes)
