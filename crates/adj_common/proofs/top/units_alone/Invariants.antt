-- The units passed.
use Rattle.std.proofs.Common.{◌≡◌, map}
use Rattle.adj_tree.specs.View.{procedure_of}
use Rattle.adj_tree.specs.CommonView.{shared_of}
use Rattle.adj_common.proofs.top.units_alone.Given as goal

abbrev pub invariant-loop-shared : goal.invariant-loop-shared
invariant-loop-shared l = map procedure_of l.out.items ≡ map (λ s. s.unit) (map shared_of l.yielded)
