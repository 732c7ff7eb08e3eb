use Rattle.std.proofs.Common.{◌≡◌, arith, pos, w64, to_z, of_z, ap}
use Rattle.std.proofs.lemmas.Int.{ints}
use Rattle.adj_tree.specs.Code.{lit}
use Rattle.adj_sweep.proofs.slots.literal.Goals as goal

pub returns : goal.returns
returns c =
    let number : to_z w64 (of_z w64 c.from.result) ≡ pos c.args.n = omega (arith, ints) in
    record { literal = ap lit number }
