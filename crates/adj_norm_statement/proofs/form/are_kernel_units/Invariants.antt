-- The units are of a kernel exactly where those that are left are.
use Rattle.std.proofs.Common.{◌≡◌, map, drop}
use Rattle.adj_tree.specs.View.{procedure_of}
use Rattle.adj_norm_statement.specs.Form.{are_kernel_units}
use Rattle.adj_norm_statement.proofs.form.are_kernel_units.Given as goal

abbrev pub invariant-loop-unit : goal.invariant-loop-unit
invariant-loop-unit l = are_kernel_units (map procedure_of (drop l.unit-index l.units)) ≡ are_kernel_units (map procedure_of l.units)
