-- The cells so far, and what is still to come.
use Rattle.std.proofs.Common.{◌≡◌, ◌+◌, ◌++◌, drop}
use Rattle.def_jacobian.specs.Groups.{seed}
use Rattle.adj_jacobian.specs.Walks.{cells_by, still_tangent}
use Rattle.adj_jacobian.proofs.directions.seed_cells.Given as goal

abbrev pub invariant-loop-j : goal.invariant-loop-j
invariant-loop-j l =
    l.cells.items ++ cells_by still_tangent (λ z j. seed l.groups l.group j) l.marked (drop l.j l.words) (l.first + l.j) ≡ cells_by still_tangent (λ z j. seed l.groups l.group j) l.marked l.words l.first
