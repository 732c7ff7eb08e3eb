-- The names of the units passed are made, and taken.
use Rattle.std.proofs.Common.{◌≡◌, ◌++◌, map, drop}
use Rattle.adj_tree.specs.View.{procedure_of}
use Rattle.def_sweep.specs.Names.{named_list}
use Rattle.adj_weave_units.proofs.source.made_names.Given as goal

abbrev pub invariant-loop-unit : goal.invariant-loop-unit
invariant-loop-unit l = l.made.items ++ named_list l.ending l.taken (map procedure_of (drop l.unit-index l.units)) ≡ named_list l.ending l.source (map procedure_of l.units)
