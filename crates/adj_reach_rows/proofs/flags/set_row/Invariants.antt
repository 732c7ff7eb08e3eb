-- The flags of the columns of the words passed are set.
use Rattle.std.proofs.Common.{◌≡◌, ℕ, ◌+◌, ◌*◌, ◌<◌, ◌≤◌, min, false, length}
use Rattle.std.specs.Prelude.{◌==◌}
use Rattle.adj_reach.specs.Edges.{flag}
use Rattle.adj_tree.specs.Bits.{bit}
use Rattle.adj_reach_rows.proofs.flags.set_row.Given as goal

abbrev pub invariant-loop-place : goal.invariant-loop-place
invariant-loop-place l = record {
  count : length l.flags ≡ length l.initial.flags;
  before : (x : ℕ) → x < l.at → flag l.flags x ≡ flag l.initial.flags x;
  row : (j : ℕ) → j < min (l.place * 64) l.width → flag l.flags (l.at + j) ≡ (bit l.words (l.first * 64 + j) == 1);
  behind : (x : ℕ) → l.at + min (l.place * 64) l.width ≤ x → flag l.flags x ≡ false;
}
