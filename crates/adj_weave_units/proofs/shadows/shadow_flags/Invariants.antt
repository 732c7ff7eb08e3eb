use Rattle.std.proofs.Common.{◌≡◌, ◌++◌, drop}
use Rattle.def_sweep.specs.MarkedAdjoint.{shadow_flags}
use Rattle.adj_sweep_assignment.specs.View.{marks_of}
use Rattle.adj_weave_units.proofs.shadows.shadow_flags.Given as goal

abbrev pub invariant-loop-name : goal.invariant-loop-name
invariant-loop-name l = l.flags.items ++ shadow_flags (marks_of l.marking).shadowed (drop l.name-index l.names) ≡ shadow_flags (marks_of l.marking).shadowed l.names
