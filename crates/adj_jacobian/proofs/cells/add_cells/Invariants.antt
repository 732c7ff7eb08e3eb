-- The cells so far.
use Rattle.std.proofs.Common.{◌≡◌, ◌++◌, map}
use Rattle.def_jacobian.specs.Recovered.{from}
use Rattle.adj_jacobian_groups.specs.View.{place_of}
use Rattle.adj_jacobian.proofs.Placing.{cell_of}
use Rattle.adj_jacobian.proofs.cells.add_cells.Given as goal

abbrev pub invariant-loop-j : goal.invariant-loop-j
invariant-loop-j l = map place_of l.cells.items ≡ map place_of l.fn.cells.items ++ map (cell_of l.dummy) (from 0 l.j)
