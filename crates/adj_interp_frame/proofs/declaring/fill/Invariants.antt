-- Only scalars came.
use Rattle.std.proofs.Common.{◌≡◌, ℕ, ◌≤◌, ◌-◌, length, get_or}
use Rattle.adj_interp_frame.specs.declared.layout.Layout.TheVariants as layout
use Rattle.adj_interp_frame.proofs.declaring.fill.Given as goal

abbrev pub invariant-each : goal.invariant-each
invariant-each l = record {
  same : (i : ℕ) → get_or l.layouts.items i layout.Scalar ≡ get_or l.initial.layouts.items i layout.Scalar;
  few : (n : ℕ) → l.count ≤ n → length l.initial.layouts.items ≤ n → length l.layouts.items ≤ n;
}

abbrev pub decreases-each : goal.decreases-each
decreases-each l = l.count - length l.layouts.items
