-- The names passed, and those that are left.
use Rattle.std.proofs.Common.{◌≡◌, ◌++◌, map, drop}
use Rattle.adj_symbols.specs.View.{uses_of, used_place, places_of}
use Rattle.adj_symbols.proofs.name_faults.add_used.Given as goal

abbrev pub invariant-loop-used : goal.invariant-loop-used
invariant-loop-used l = places_of l.out.items ++ map used_place (uses_of (drop l.used-index l.uses)) ≡ places_of l.initial.out.items ++ map used_place (uses_of l.uses)
