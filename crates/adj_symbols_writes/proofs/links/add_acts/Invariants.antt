-- The edges of the statements passed, and of those that are left.
use Rattle.std.proofs.Common.{◌≡◌, ◌++◌, map, drop}
use Rattle.std.specs.List.{flat_map}
use Rattle.adj_symbols_writes.specs.Graph.{placed_of, found_at, act_edges}
use Rattle.adj_symbols_writes.specs.Table.{value_of}
use Rattle.adj_symbols_writes.specs.View.{seen}
use Rattle.adj_symbols_writes.proofs.links.add_acts.Given as goal

abbrev pub invariant-loop-stmt : goal.invariant-loop-stmt
invariant-loop-stmt l = l.out.items ++ flat_map (λ s. act_edges (λ x. found_at (map placed_of l.units) (value_of x l.numbers)) (placed_of l.dummies) s.1) (seen (drop l.stmt-index l.stmts)) ≡ l.initial.out.items ++ flat_map (λ s. act_edges (λ x. found_at (map placed_of l.units) (value_of x l.numbers)) (placed_of l.dummies) s.1) (seen l.stmts)
