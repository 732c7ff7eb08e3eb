-- The names passed whose mark is missing are made.
use Rattle.std.proofs.Common.{◌≡◌, ◌++◌, drop}
use Rattle.def_sweep.specs.Declared.{unmarked}
use Rattle.adj_weave_units.proofs.shadows.unmarked.Given as goal

abbrev pub invariant-loop-k : goal.invariant-loop-k
invariant-loop-k l = l.made.items ++ unmarked (drop l.k l.names) (drop l.k l.marks) ≡ unmarked l.names l.marks
