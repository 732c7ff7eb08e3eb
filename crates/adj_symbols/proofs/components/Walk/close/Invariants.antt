-- Each open node is taken once.
use Rattle.std.proofs.Common.{vec_len}
use Rattle.adj_symbols.proofs.components.Walk.close.Given as goal

abbrev pub decreases-loop-member : goal.decreases-loop-member
decreases-loop-member l = vec_len l.self.open
