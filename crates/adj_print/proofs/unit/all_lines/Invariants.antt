-- What was added and what is left are the lines of the units.
use Rattle.std.proofs.Common.{◌≡◌, ◌++◌, drop, map}
use Rattle.std.specs.List.{flat_map}
use Rattle.adj_tree.specs.View.{procedure_of}
use Rattle.def_text.specs.Text.{procedure_text}
use Rattle.adj_print.proofs.unit.all_lines.Given as goal

abbrev pub invariant-loop-unit : goal.invariant-loop-unit
invariant-loop-unit l = l.out.items ++ flat_map procedure_text (map procedure_of (drop l.unit-index l.unit-items)) ≡ flat_map procedure_text (map procedure_of l.unit-items)
