-- The cells so far, and what is still to come.
use Rattle.std.proofs.Common.{◌≡◌, ◌+◌, ◌++◌, drop}
use Rattle.adj_jacobian.specs.Walks.{cells_by}
use Rattle.adj_jacobian.proofs.start.start_cells.Given as goal

abbrev pub invariant-loop-j : goal.invariant-loop-j
invariant-loop-j g l =
    let of_word = g.N.Number.numbers.of_word in
    let own = g.S.Start.own l.start in
    l.cells.items ++ cells_by of_word own l.marked (drop l.j l.words) (l.first + l.j) ≡ cells_by of_word own l.marked l.words l.first
