-- The units passed are followed by their step units.
use Rattle.std.proofs.Common.{◌≡◌, ◌++◌, map, take, drop}
use Rattle.adj_tree.specs.View.{procedure_of}
use Rattle.def_kernel.specs.Stepped.{names_of_source, stepped_from}
use Rattle.adj_norm.specs.Programs.{AreAlike, taken_after}
use Rattle.adj_norm.proofs.program.stepped.Given as goal

abbrev pub invariant-loop-unit : goal.invariant-loop-unit
invariant-loop-unit l = record {
  taken : AreAlike l.taken (taken_after (names_of_source (map procedure_of l.units)) (map procedure_of (take l.unit-index l.units)));
  made : map procedure_of l.made.items ++ stepped_from (taken_after (names_of_source (map procedure_of l.units)) (map procedure_of (take l.unit-index l.units))) (map procedure_of (drop l.unit-index l.units)) ≡ stepped_from (names_of_source (map procedure_of l.units)) (map procedure_of l.units);
}
