-- What is left to count.
use Rattle.std.proofs.Common.{◌≡◌}
use Rattle.std.specs.Prelude.{◌==◌}
use Rattle.adj_tree.specs.View.{terms_of}
use Rattle.def_names.specs.Standing.{count_of}
use Rattle.adj_symbols.proofs.name_faults.counts.Given as goal

abbrev pub invariant-loop-rest : goal.invariant-loop-rest
invariant-loop-rest l = (count_of (terms_of l.rest) == l.left) ≡ (count_of (terms_of l.list) == l.count)
