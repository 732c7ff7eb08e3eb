-- The helpers counted are there.
use Rattle.std.proofs.Common.{◌≡◌, ◌++◌, ◌-◌, suc, map}
use Rattle.def_sweep.specs.Declared.{helpers_from}
use Rattle.adj_naming.specs.Roles.{role_of, variable_of}
use Rattle.adj_naming.proofs.role.push_helpers.Given as goal

abbrev pub invariant-loop-done : goal.invariant-loop-done
invariant-loop-done l = map variable_of l.made.items ++ helpers_from (role_of l.role) (suc l.done) (l.count - l.done) ≡ map variable_of l.fn.made.items ++ helpers_from (role_of l.role) 1 l.count
