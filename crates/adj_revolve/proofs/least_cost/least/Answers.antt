use Rattle.std.proofs.Common.{◌≡◌, ◌*◌, arith, sym, ◌∙◌, subst}
use Rattle.adj_revolve.specs.LeastCost.{IsGreatest, bound_at}
use Rattle.adj_revolve.proofs.CodeLemmas.{cost_facts, cost-closed}
use Rattle.adj_revolve.proofs.least_cost.least.Goals as goal

pub returns-then-repetitions-eq0-clause-value : goal.returns-then-repetitions-eq0-clause-value
returns-then-repetitions-eq0-clause-value c =
    (cost_facts c.args.steps c.args.snapshots c.repetitions-repetitions.result c.requires.some c.repetitions-repetitions.ensures.value).none c.if-repetitions-eq0.true

pub returns-then-repetitions-eq0-clause-greatest : goal.returns-then-repetitions-eq0-clause-greatest
returns-then-repetitions-eq0-clause-greatest c =
    subst (λ z. IsGreatest (bound_at c.args.steps c.args.snapshots) z) (sym (returns-then-repetitions-eq0-clause-value c))
    (cost_facts c.args.steps c.args.snapshots c.repetitions-repetitions.result c.requires.some c.repetitions-repetitions.ensures.value).greatest

pub returns-then-repetitions-eq0-clause-closed : goal.returns-then-repetitions-eq0-clause-closed
returns-then-repetitions-eq0-clause-closed c r is =
    returns-then-repetitions-eq0-clause-value c ∙ cost-closed c.args.steps c.args.snapshots r c.requires.some is

pub returns-clause-value : goal.returns-clause-value
returns-clause-value c =
    let f = cost_facts c.args.steps c.args.snapshots c.repetitions-repetitions.result c.requires.some c.repetitions-repetitions.ensures.value in
    let advances : c.from.result * c.from-2.result ≡ c.repetitions-repetitions.result * c.args.steps = cc in
    omega (arith, advances, c.beta_up_to.ensures, f.fits c.if-repetitions-eq0.false, f.value c.if-repetitions-eq0.false)

pub returns-clause-greatest : goal.returns-clause-greatest
returns-clause-greatest c =
    subst (λ z. IsGreatest (bound_at c.args.steps c.args.snapshots) z) (sym (returns-clause-value c))
    (cost_facts c.args.steps c.args.snapshots c.repetitions-repetitions.result c.requires.some c.repetitions-repetitions.ensures.value).greatest

pub returns-clause-closed : goal.returns-clause-closed
returns-clause-closed c r is = returns-clause-value c ∙ cost-closed c.args.steps c.args.snapshots r c.requires.some is
