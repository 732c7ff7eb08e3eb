-- The products so far.
use Rattle.std.proofs.Common.{◌≡◌, map}
use Rattle.std.specs.Prelude.{slice_get, Some}
use Rattle.adj_tree.specs.Code.{Procedure}
use Rattle.adj_tree.specs.View.{procedures_of}
use Rattle.adj_interp.specs.Concludes.{slot_seen}
use Rattle.adj_jacobian.specs.Ends.{task_on}
use Rattle.adj_jacobian.specs.Derives.{AreProducts}
use Rattle.adj_jacobian.proofs.compressed.products.Given as goal

abbrev pub invariant-loop-group : goal.invariant-loop-group
invariant-loop-group l =
    (u : Procedure) → slice_get (procedures_of l.program.program) l.head.unit ≡ Some u
    → AreProducts (task_on (procedures_of l.program.program) u l.head.vars (map slot_seen l.input) l.budget) l.grouping.group l.group l.all.items
