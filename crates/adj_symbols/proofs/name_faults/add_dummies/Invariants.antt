-- The dummies passed, and those that are left.
use Rattle.std.proofs.Common.{◌≡◌, ◌++◌, map, drop}
use Rattle.adj_symbols.specs.View.{places_of}
use Rattle.adj_symbols.proofs.name_faults.add_dummies.Given as goal

abbrev pub invariant-loop-name : goal.invariant-loop-name
invariant-loop-name l = places_of l.out.items ++ map (λ d. (l.unit.line, d)) (drop l.name-index l.name-items) ≡ places_of l.initial.out.items ++ map (λ d. (l.unit.line, d)) l.unit.dummies
