-- The names passed, and those that are left.
use Rattle.std.proofs.Common.{◌≡◌, ◌++◌, map, drop}
use Rattle.adj_symbols.specs.View.{places_of}
use Rattle.adj_symbols.proofs.heads.listed.Given as goal

abbrev pub invariant-loop-name : goal.invariant-loop-name
invariant-loop-name l = places_of l.places.items ++ map (λ x. (0, x)) (drop l.name-index l.names) ≡ map (λ x. (0, x)) l.names
