-- The units passed, and those that are left.
use Rattle.std.proofs.Common.{◌≡◌, ◌++◌, map, drop}
use Rattle.adj_tree.specs.View.{procedure_of}
use Rattle.adj_symbols.specs.Chain.{length_of, longer}
use Rattle.adj_symbols.proofs.chains.one_round.Given as goal

abbrev pub invariant-loop-outline : goal.invariant-loop-outline
invariant-loop-outline l = l.next.items ++ map (longer l.limit (length_of (map procedure_of l.scope) l.lengths)) (map procedure_of (drop l.outline-index l.outline-items)) ≡ map (longer l.limit (length_of (map procedure_of l.scope) l.lengths)) (map procedure_of l.outline-items)
