-- The helpers with the numbers passed are there.
use Rattle.std.proofs.Common.{◌≡◌, ◌++◌, map}
use Rattle.def_sweep.specs.Program.{helpers_among}
use Rattle.adj_naming.specs.Roles.{role_of, variable_of}
use Rattle.adj_sweep.specs.Depths.{has_depth}
use Rattle.adj_sweep.proofs.depths.push_among.Given as goal

abbrev pub invariant-loop-done : goal.invariant-loop-done
invariant-loop-done l = map variable_of l.made.items ≡ map variable_of l.fn.made.items ++ helpers_among (has_depth l.flags) (role_of l.role) 1 l.done
