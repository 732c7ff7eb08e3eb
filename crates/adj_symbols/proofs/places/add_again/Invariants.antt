-- The faults of the names passed, and of those that are left behind them.
use Rattle.std.proofs.Common.{◌≡◌, drop}
use Rattle.std.specs.Prelude.{fold, []}
use Rattle.adj_tree.specs.Codes.{code_number}
use Rattle.def_names.specs.Fault.{again, first_of, sooner}
use Rattle.adj_sets.specs.Sets.{with_name}
use Rattle.adj_symbols.specs.Table.{once}
use Rattle.adj_symbols.specs.View.{places_of, names_at}
use Rattle.adj_symbols.proofs.places.add_again.Given as goal

abbrev pub invariant-loop-place : goal.invariant-loop-place
invariant-loop-place l = record {
  faults : sooner l.first (first_of (again (code_number l.code) l.names (places_of (drop l.place-index l.places)))) ≡ sooner l.initial.first (first_of (again (code_number l.code) [] (places_of l.places)));
  passed : fold with_name l.names (names_at (places_of (drop l.place-index l.places))) ≡ once (names_at (places_of l.places));
}
