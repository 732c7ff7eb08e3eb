-- What is known of the units passed is made.
use Rattle.std.proofs.Common.{◌≡◌, ◌++◌, map, drop}
use Rattle.adj_tree.specs.View.{procedure_of, procedures_of}
use Rattle.adj_tangent.specs.Flagged.{carried_told}
use Rattle.adj_tangent.specs.Known.{said, said_of}
use Rattle.adj_tangent.proofs.called.known_units.Given as goal

abbrev pub invariant-loop-k : goal.invariant-loop-k
invariant-loop-k l = map said l.made.items ++ said_of (carried_told l.carried) l.k (map procedure_of (drop l.k l.units)) (drop l.k l.tangents) ≡ said_of (carried_told l.carried) 0 (procedures_of l.checked.program) l.tangents
