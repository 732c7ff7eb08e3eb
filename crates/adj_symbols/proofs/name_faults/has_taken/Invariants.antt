-- The names at the places passed are good.
use Rattle.std.proofs.Common.{◌≡◌, drop}
use Rattle.std.specs.Prelude.{◌||◌, is_some, map}
use Rattle.std.specs.List.{list_any}
use Rattle.adj_tree.specs.View.{procedure_of}
use Rattle.def_meaning.specs.Written.{find_unit}
use Rattle.def_names.specs.Reserved.{is_reserved}
use Rattle.adj_symbols.specs.View.{places_of}
use Rattle.adj_symbols.proofs.name_faults.has_taken.Given as goal

abbrev pub invariant-loop-place : goal.invariant-loop-place
invariant-loop-place l = list_any (λ p. is_reserved p.1 || is_some (find_unit (map procedure_of l.scope) p.1)) (places_of (drop l.place-index l.places)) ≡ list_any (λ p. is_reserved p.1 || is_some (find_unit (map procedure_of l.scope) p.1)) (places_of l.places)
