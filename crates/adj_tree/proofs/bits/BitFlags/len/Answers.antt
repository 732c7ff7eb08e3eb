use Rattle.std.proofs.Common.{ap, length, arith}
use Rattle.adj_tree.proofs.BitWords.{values_count}
use Rattle.adj_tree.proofs.bits.BitFlags.len.Goals as goal

pub returns : goal.returns
returns c = omega (arith, values_count c.self.inside.words.items, ap length c.self.view_is, c.len.ensures)
