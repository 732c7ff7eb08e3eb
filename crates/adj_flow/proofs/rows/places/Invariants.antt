-- The names passed, and those that are left.
use Rattle.std.proofs.Common.{◌≡◌, ℕ, List, drop}
use Rattle.std.specs.Option.{option_or}
use Rattle.adj_symbols_writes.specs.Graph.{place_from}
use Rattle.adj_symbols_writes.specs.Table.{value_of}
use Rattle.adj_flow.proofs.rows.places.Given as goal

abbrev pub invariant-loop-place : goal.invariant-loop-place
invariant-loop-place l = (x : List ℕ) → option_or (value_of x l.places) (place_from l.place (drop l.place l.names) x) ≡ place_from 0 l.names x
