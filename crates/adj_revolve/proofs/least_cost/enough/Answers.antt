use Rattle.std.proofs.Common.{◌≡◌, ◌*◌, ◌/◌, ◌<◌, subst, arith}
use Rattle.adj_revolve.specs.Binomial.{beta}
use Rattle.adj_revolve.proofs.CodeLemmas.{short_below}
use Rattle.adj_revolve.proofs.least_cost.enough.Goals as goal

pub loop-repetitions-preserved : goal.loop-repetitions-preserved
loop-repetitions-preserved c =
    let short : beta c.args.snapshots c.loop-repetitions.repetitions < c.args.steps = grind arith in
    let half : c.loop-repetitions.repetitions ≡ c.loop-repetitions.repetitions * 2 / 2 = omega arith in
    record {
      some = omega arith;
      within = omega (arith, short_below c.args.steps c.args.snapshots c.loop-repetitions.repetitions c.requires.some short);
      half_fails = λ h. subst (λ r. beta c.args.snapshots r < c.args.steps) half short;
    }
