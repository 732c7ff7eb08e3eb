-- The lines of the units passed.
use Rattle.std.proofs.Common.{◌≡◌, map}
use Rattle.std.specs.List.{flat_map}
use Rattle.adj_tree.specs.View.{procedure_of}
use Rattle.def_text.specs.Text.{procedure_text}
use Rattle.adj_print.proofs.unit.into_text.Given as goal

abbrev pub invariant-loop-unit : goal.invariant-loop-unit
invariant-loop-unit l = l.out.items ≡ flat_map procedure_text (map procedure_of l.yielded)
