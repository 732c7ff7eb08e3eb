use Rattle.std.proofs.Common.{arith}
use Rattle.adj_revolve.proofs.CodeLemmas.{quotient_of_product, quotient_above}
use Rattle.adj_revolve.proofs.binomial.grown_up_to.Goals as goal

pub returns-then-whole-cap : goal.returns-then-whole-cap
returns-then-whole-cap c =
    omega (arith, quotient_above c.args.ways c.args.total c.args.taken c.args.cap c.requires.taken c.requires.total c.if-whole-cap.true)

pub returns : goal.returns
returns c = omega (arith, quotient_of_product c.args.ways c.args.total c.args.taken c.requires.taken)
