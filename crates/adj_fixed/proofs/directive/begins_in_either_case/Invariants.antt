use Rattle.std.proofs.Common.{◌≡◌, drop}
use Rattle.def_text.specs.Line.{begins_in_either_case}
use Rattle.adj_fixed.proofs.directive.begins_in_either_case.Given as goal

abbrev pub invariant-loop-i : goal.invariant-loop-i
invariant-loop-i l = begins_in_either_case (drop l.i l.keyword) (drop l.i l.line) ≡ begins_in_either_case l.keyword l.line
