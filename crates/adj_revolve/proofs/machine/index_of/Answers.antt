use Rattle.std.proofs.Common.{arith}
use Rattle.adj_revolve.proofs.PlayLemmas.{stands_at_index, stands_nowhere}
use Rattle.adj_revolve.proofs.machine.index_of.Goals as goal

pub returns-then-stored-place : goal.returns-then-stored-place
returns-then-stored-place c =
    let f = stands_at_index c.args.place c.args.places.now c.loop-i.i (omega arith) c.if-stored-place.true c.loop-i.invariant in
    (f.within, f.member, f.rest)

pub returns : goal.returns
returns c = stands_nowhere c.args.place c.args.places.now (λ k h. c.loop-i.invariant k (omega arith))
