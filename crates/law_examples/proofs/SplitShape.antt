-- The program of the checkpointed call has a unit less than the shape asks for.
use Rattle.std.proofs.Common.{◌≡◌, List, refl, length, subst}
use Rattle.adj_tree.specs.Code.{Procedure}
use Rattle.law_examples.specs.SplitShape.{SplitUnits, CheckpointedIsRefused}

pub units : SplitUnits
units = refl

pub checkpointed_fails : CheckpointedIsRefused
checkpointed_fails h = let l : 3 ≡ 4 = subst (λ (qs : List Procedure). 3 ≡ length qs) h.units refl in absurd cc
