-- The names at the places passed are good.
use Rattle.std.proofs.Common.{◌≡◌, drop}
use Rattle.std.specs.Prelude.{not}
use Rattle.std.specs.List.{list_any}
use Rattle.adj_tree.specs.View.{procedure_of}
use Rattle.def_names.specs.Variables.{is_integer}
use Rattle.adj_symbols.specs.View.{places_of}
use Rattle.adj_symbols.proofs.name_faults.has_undeclared.Given as goal

abbrev pub invariant-loop-place : goal.invariant-loop-place
invariant-loop-place l = list_any (λ p. not (is_integer (procedure_of l.outline) p.1)) (places_of (drop l.place-index l.places)) ≡ list_any (λ p. not (is_integer (procedure_of l.outline) p.1)) (places_of l.places)
