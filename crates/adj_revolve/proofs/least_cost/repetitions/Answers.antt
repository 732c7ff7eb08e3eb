use Rattle.std.proofs.Common.{ℕ, ◌≡◌, ◌+◌, ◌-◌, ◌/◌, ◌<◌, ◌≤◌, arith, subst}
use Rattle.adj_revolve.specs.Binomial.{beta}
use Rattle.adj_revolve.proofs.SplitLemmas.{repetitions_from}
use Rattle.adj_revolve.proofs.CodeLemmas.{fewer_up, repetitions_le}
use Rattle.adj_revolve.proofs.least_cost.repetitions.Goals as goal

pub loop-low-init : goal.loop-low-init
loop-low-init c = record {
  in_range = omega arith;
  enough = c.enough-high.ensures.enough;
  fewer = λ r h. fewer_up c.args.steps c.args.snapshots (c.enough-high.result / 2) (c.enough-high.ensures.half_fails (omega arith)) r (omega arith);
}

pub loop-low-preserved : goal.loop-low-preserved
loop-low-preserved c =
    let middle : ℕ = c.loop-low.low + (c.loop-low.high - c.loop-low.low) / 2 in
    let less : beta c.args.snapshots middle < c.args.steps = grind arith in
    record {
      in_range = omega arith;
      enough = c.loop-low.invariant.enough;
      fewer = fewer_up c.args.steps c.args.snapshots middle less;
    }

pub returns-clause-value : goal.returns-clause-value
returns-clause-value c =
    let e : c.loop-low.high ≡ c.loop-low.low = omega arith in
    repetitions_from c.args.steps c.args.snapshots c.loop-low.low c.requires.some
    record { enough = subst (λ r. c.args.steps ≤ beta c.args.snapshots r) e c.loop-low.invariant.enough; fewer = c.loop-low.invariant.fewer }

pub returns-clause-no_more : goal.returns-clause-no_more
returns-clause-no_more c = repetitions_le c.args.steps c.args.snapshots c.loop-low.low c.requires.some (returns-clause-value c)
