-- The first names are made.
use Rattle.std.proofs.Common.{◌≡◌, ◌++◌}
use Rattle.def_kernel.specs.Stepped.{step_names}
use Rattle.adj_norm.proofs.program.step_names.Given as goal

abbrev pub invariant-loop-number : goal.invariant-loop-number
invariant-loop-number l = record {
  names : l.made.items ≡ step_names l.fn.taken l.base l.number;
  taken : l.taken ≡ l.fn.taken ++ l.made.items;
}
