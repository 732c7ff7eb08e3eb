-- The first places that are found, and those behind them.
use Rattle.std.proofs.Common.{◌≡◌, ◌++◌, drop}
use Rattle.def_names.specs.Variables.{first_places}
use Rattle.adj_symbols.specs.View.{places_of}
use Rattle.adj_symbols.proofs.FirstPlaces.{others_at}
use Rattle.adj_symbols.proofs.unit_names.first_places.Given as goal

abbrev pub invariant-loop-place : goal.invariant-loop-place
invariant-loop-place l = places_of l.found.items ++ others_at l.names (first_places (places_of (drop l.place-index l.places))) ≡ first_places (places_of l.places)
