-- The blocks passed, and those that are left.
use Rattle.std.proofs.Common.{◌≡◌, [], drop}
use Rattle.adj_common.specs.Views.{text_of}
use Rattle.adj_common.specs.Lowering.{places_from}
use Rattle.adj_common.proofs.lowering.places.Given as goal

abbrev pub invariant-loop-place : goal.invariant-loop-place
invariant-loop-place l = places_from (text_of l.blocks) l.places l.place (drop l.place l.row) ≡ places_from (text_of l.blocks) [] 0 l.row
