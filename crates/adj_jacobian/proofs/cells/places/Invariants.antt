-- The cells so far, and what is still to come.
use Rattle.std.proofs.Common.{◌≡◌, ◌++◌, map, drop}
use Rattle.def_jacobian.specs.Recovered.{places}
use Rattle.adj_interp.specs.Concludes.{slot_seen}
use Rattle.adj_jacobian_groups.specs.View.{place_of}
use Rattle.adj_jacobian.proofs.cells.places.Given as goal

abbrev pub invariant-loop-i : goal.invariant-loop-i
invariant-loop-i l = map place_of l.cells.items ++ places (drop l.i l.flags) (map slot_seen (drop l.i l.values)) l.i ≡ places l.flags (map slot_seen l.values) 0
