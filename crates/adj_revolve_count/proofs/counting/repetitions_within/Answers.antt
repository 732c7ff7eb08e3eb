use Rattle.std.proofs.Common.{◌≡◌, ◌+◌, ◌<◌, subst, arith}
use Rattle.adj_revolve.specs.Binomial.{beta}
use Rattle.adj_revolve.proofs.BinomialLemmas.{beta-zero_repetitions, beta-above}
use Rattle.adj_revolve_count.proofs.counting.repetitions_within.Goals as goal

pub loop-high-init : goal.loop-high-init
loop-high-init c = record {
  order = omega arith;
  fits = omega (arith, beta-zero_repetitions c.args.snapshots);
  most = omega (arith, beta-above c.args.snapshots c.args.steps c.requires.some);
}

pub returns-clause-most : goal.returns-clause-most
returns-clause-most c =
    let e : c.loop-high.high ≡ c.loop-high.low + 1 = omega arith in
    subst (λ z. c.args.steps < beta c.args.snapshots z) e c.loop-high.invariant.most
