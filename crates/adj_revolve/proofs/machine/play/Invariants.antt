use Rattle.std.proofs.Common.{◌*◌, ◌^◌, ◌≤◌}
use Rattle.adj_revolve.specs.Machine.{start_state}
use Rattle.adj_revolve.specs.Playing.{state_of}
use Rattle.adj_revolve.proofs.PlayLemmas.{Played}
use Rattle.adj_revolve.proofs.machine.play.Given as goal

abbrev pub invariant-loop-i : goal.invariant-loop-i
invariant-loop-i l = record {
  played : Played l.snapshots (start_state l.steps) l.actions l.i (state_of l.machine) l.cost;
  fits : l.cost ≤ l.i * 2 ^ 64;
}
