-- The declarations passed are known, and which of their variables are arrays.
use Rattle.std.proofs.Common.{map, drop}
use Rattle.adj_tree.specs.View.{declaration_of}
use Rattle.adj_weave_units.proofs.Declared.{Passed}
use Rattle.adj_weave_units.proofs.arrays.arrays_of.Given as goal

abbrev pub invariant-loop-decl : goal.invariant-loop-decl
invariant-loop-decl l = Passed l.known l.arrays (map declaration_of (drop l.decl-index l.decl-items)) (map declaration_of l.unit.decls)
