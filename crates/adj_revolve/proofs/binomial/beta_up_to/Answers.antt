use Rattle.std.proofs.Common.{◌∙◌}
use Rattle.adj_revolve.proofs.CodeLemmas.{min-turned}
use Rattle.adj_revolve.proofs.binomial.beta_up_to.Goals as goal

pub returns-then-snapshots-repetitions : goal.returns-then-snapshots-repetitions
returns-then-snapshots-repetitions c =
    c.ways_up_to.ensures ∙ min-turned c.args.repetitions c.from-snapshots.result c.args.snapshots c.args.cap c.from-snapshots.ensures
