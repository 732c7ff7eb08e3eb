use Rattle.std.proofs.Common.{◌≡◌, ◌-◌, ap, arith}
use Rattle.adj_revolve.specs.Binomial.{beta}
use Rattle.adj_revolve_count.specs.Stores.{stores}
use Rattle.adj_revolve_count.proofs.RowLemmas.{new_is}
use Rattle.adj_revolve_count.proofs.row.Row.new.Goals as goal

pub returns-clause-row : goal.returns-clause-row
returns-clause-row c =
    let n = new_is c.args.steps c.args.snapshots c.repetitions_within-repetitions.result c.requires.some c.requires.two c.repetitions_within-repetitions.ensures.fits c.repetitions_within-repetitions.ensures.most in
    let full : c.steps_up_to-full.result ≡ beta c.args.snapshots c.repetitions_within-repetitions.result = omega (arith, n.fits, c.steps_up_to-full.ensures) in
    let again : c.steps_up_to-again.result ≡ beta (c.args.snapshots - 1) c.repetitions_within-repetitions.result = omega (arith, n.again_fits, c.steps_up_to-again.ensures) in
    record {
      some = c.requires.some;
      few = c.requires.few;
      short = omega (arith, n.short, full);
      taken = omega (arith, n.taken, again, c.requires.taken, ap (λ z. stores (c.args.snapshots - 1) (c.args.steps - z)) full);
      within = omega (arith, full, n.fits, c.requires.within);
    }

pub overflow_sub-result-2 : goal.overflow_sub-result-2
overflow_sub-result-2 c =
    let n = new_is c.args.steps c.args.snapshots c.repetitions_within-repetitions.result c.requires.some c.requires.two c.repetitions_within-repetitions.ensures.fits c.repetitions_within-repetitions.ensures.most in
    omega (arith, n.again, n.again_fits, c.requires.taken, c.steps_up_to-again.ensures)
