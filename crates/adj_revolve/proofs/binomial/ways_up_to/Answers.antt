use Rattle.std.proofs.Common.{◌+◌, arith}
use Rattle.adj_revolve.proofs.BinomialLemmas.{beta-zero_repetitions}
use Rattle.adj_revolve.proofs.CodeLemmas.{ways_more, ways_capped}
use Rattle.adj_revolve.proofs.binomial.ways_up_to.Goals as goal

pub loop-i-init : goal.loop-i-init
loop-i-init c = omega (arith, beta-zero_repetitions c.args.many)

pub returns-then-ways-cap : goal.returns-then-ways-cap
returns-then-ways-cap c = ways_capped c.args.many c.loop-i.i c.args.few c.args.cap (omega arith) (omega arith)

pub loop-i-preserved : goal.loop-i-preserved
loop-i-preserved c =
    let more = ways_more c.args.many c.loop-i.i c.args.cap c.loop-i.ways c.from.result (c.from-taken.result + 1) c.loop-i.invariant c.if-ways-cap.false c.from.ensures (omega arith) in
    cc (more, c.grown_up_to-ways.ensures)
