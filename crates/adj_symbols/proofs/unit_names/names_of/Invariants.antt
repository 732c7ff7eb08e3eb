-- The places passed, and those that are left.
use Rattle.std.proofs.Common.{◌≡◌, ◌++◌, drop}
use Rattle.adj_symbols.specs.View.{places_of, names_at}
use Rattle.adj_symbols.proofs.unit_names.names_of.Given as goal

abbrev pub invariant-loop-place : goal.invariant-loop-place
invariant-loop-place l = l.names.items ++ names_at (places_of (drop l.place-index l.places)) ≡ names_at (places_of l.places)
