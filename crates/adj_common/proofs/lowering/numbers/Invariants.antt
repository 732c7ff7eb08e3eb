-- The members passed have their numbers.
use Rattle.std.proofs.Common.{◌≡◌, [], map, drop}
use Rattle.adj_common.specs.Views.{entry_of}
use Rattle.adj_common.proofs.Itemed.{numbered}
use Rattle.adj_common.proofs.lowering.numbers.Given as goal

abbrev pub invariant-loop-place : goal.invariant-loop-place
invariant-loop-place l = numbered l.numbers l.place (map entry_of (drop l.place l.members)) ≡ numbered [] 0 (map entry_of l.members)
