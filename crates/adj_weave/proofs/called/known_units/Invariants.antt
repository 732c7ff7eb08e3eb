-- What is known of the units passed is made.
use Rattle.std.proofs.Common.{◌≡◌, ◌++◌, map, drop}
use Rattle.adj_tree.specs.View.{procedure_of, procedures_of}
use Rattle.adj_weave.specs.Orders.{names_of, said, said_of}
use Rattle.adj_weave.proofs.called.known_units.Given as goal

abbrev pub invariant-loop-k : goal.invariant-loop-k
invariant-loop-k l =
    map said l.made.items ++ said_of l.marked l.k (map procedure_of (drop l.k l.units)) (names_of (drop l.k l.adjoints) (drop l.k l.forths) (drop l.k l.backs)) (drop l.k l.checked.writes) (drop l.k l.checked.reads)
    ≡ said_of l.marked 0 (procedures_of l.checked.program) (names_of l.adjoints l.forths l.backs) l.checked.writes l.checked.reads
