-- The edges of the units passed, and of those that are left.
use Rattle.std.proofs.Common.{◌≡◌, ◌++◌, map, drop}
use Rattle.std.specs.List.{flat_map}
use Rattle.adj_tree.specs.View.{procedure_of}
use Rattle.def_names.specs.Calls.{calls_from}
use Rattle.adj_symbols.specs.Graph.{edges_from}
use Rattle.adj_symbols.proofs.cycles.all_edges.Given as goal
use Rattle.adj_symbols_writes.specs.Graph.{number_from}

abbrev pub invariant-loop-outline : goal.invariant-loop-outline
invariant-loop-outline l = l.edges.items ++ flat_map (λ u. edges_from (map procedure_of l.scope) (number_from 0 (map procedure_of l.scope) u.name) (calls_from (map procedure_of l.scope) u.name)) (map procedure_of (drop l.outline-index l.outline-items)) ≡ flat_map (λ u. edges_from (map procedure_of l.scope) (number_from 0 (map procedure_of l.scope) u.name) (calls_from (map procedure_of l.scope) u.name)) (map procedure_of l.outline-items)
