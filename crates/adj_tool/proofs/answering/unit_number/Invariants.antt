-- The units passed have other names.
use Rattle.std.proofs.Common.{◌≡◌, ◌+◌, map, drop}
use Rattle.adj_tree.specs.View.{procedure_of}
use Rattle.def_names.specs.HeadFaults.{unit_number}
use Rattle.adj_tool.proofs.answering.unit_number.Given as goal

abbrev pub invariant-loop-number : goal.invariant-loop-number
invariant-loop-number l = l.number + unit_number (map procedure_of (drop l.number l.units)) l.name ≡ unit_number (map procedure_of l.units) l.name
