-- The names of the units passed that are emitted are there.
use Rattle.std.proofs.Common.{◌≡◌, ◌++◌, drop}
use Rattle.adj_weave.specs.Named.{made_flagged}
use Rattle.adj_weave.proofs.made.MadeNames.add_emitted.Given as goal

abbrev pub invariant-loop-k : goal.invariant-loop-k
invariant-loop-k l =
    l.all.items ++ made_flagged (drop l.k l.adjointed) (drop l.k l.paired) (drop l.k l.self.adjoints.items) (drop l.k l.forths) (drop l.k l.backs)
    ≡ l.fn.all.items ++ made_flagged l.adjointed l.paired l.self.adjoints.items l.forths l.backs
