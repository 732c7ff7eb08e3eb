-- The numbers so far, and what is still to come.
use Rattle.adj_jacobian_few.specs.Merged.{merged}
use Rattle.adj_jacobian_few.proofs.Sizing.{Stand}
use Rattle.adj_jacobian_few.proofs.few.merged.Given as goal

abbrev pub invariant-loop-count : goal.invariant-loop-count
invariant-loop-count l = Stand l.numbers l.count l.left l.right (merged l.first l.second)
