-- Only scalars came.
use Rattle.std.proofs.Common.{◌≡◌, ℕ, ◌<◌, get_or}
use Rattle.adj_interp_frame.specs.declared.layout.Layout.{Layout}
use Rattle.adj_interp_frame.specs.declared.layout.Layout.TheVariants as layout
use Rattle.adj_interp_frame.proofs.preparation.are_scalars.Given as goal

abbrev pub invariant-loop-layout : goal.invariant-loop-layout
invariant-loop-layout l = record {
  scalars : (i : ℕ) (d : Layout) → i < l.layout-index → get_or l.layouts i d ≡ layout.Scalar;
}
