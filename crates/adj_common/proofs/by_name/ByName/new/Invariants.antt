-- The names passed are noted.
use Rattle.std.proofs.Common.{◌≡◌, map, drop}
use Rattle.adj_common.specs.Tables.{noted_from, tabled}
use Rattle.adj_common.proofs.by_name.ByName.new.Given as goal

abbrev pub invariant-loop-place : goal.invariant-loop-place
invariant-loop-place l = noted_from l.table l.place (map (λ n. n.now) (drop l.place l.names)) ≡ tabled (map (λ n. n.now) l.names)
