-- The edges of the statements passed, and of those that are left.
use Rattle.std.proofs.Common.{◌≡◌, ◌++◌, map, drop}
use Rattle.std.specs.List.{flat_map}
use Rattle.adj_tree.specs.View.{procedure_of}
use Rattle.def_names.specs.Calls.{call_in}
use Rattle.adj_symbols_writes.specs.View.{seen}
use Rattle.adj_symbols_writes.specs.Graph.{number_from}
use Rattle.adj_symbols.specs.Graph.{edge_of}
use Rattle.adj_symbols.proofs.cycles.add_edges.Given as goal

abbrev pub invariant-loop-stmt : goal.invariant-loop-stmt
invariant-loop-stmt l = l.edges.items ++ flat_map (λ s. flat_map (λ c. edge_of l.from (number_from 0 (map procedure_of l.scope) c.0)) (call_in s.1)) (seen (drop l.stmt-index l.stmt-items)) ≡ l.initial.edges.items ++ flat_map (λ s. flat_map (λ c. edge_of l.from (number_from 0 (map procedure_of l.scope) c.0)) (call_in s.1)) (seen l.stmt-items)
