-- The flags of the rows passed are set.
use Rattle.std.proofs.Common.{◌≡◌, ℕ, ◌*◌, ◌<◌, ◌≤◌, false, length}
use Rattle.std.specs.Prelude.{◌==◌}
use Rattle.adj_reach.specs.Edges.{flag}
use Rattle.adj_tree.specs.Bits.{bit}
use Rattle.adj_reach_rows.specs.Searches.{place_of}
use Rattle.adj_reach_rows.proofs.flags.flags.Given as goal

abbrev pub invariant-loop-row : goal.invariant-loop-row
invariant-loop-row l = record {
  count : l.rows * l.width ≤ length l.flags;
  flags : (x : ℕ) → x < l.row * l.width → flag l.flags x ≡ (bit l.bits (place_of l.width l.words x) == 1);
  behind : (x : ℕ) → l.row * l.width ≤ x → flag l.flags x ≡ false;
}
