-- The flags of the columns passed are set.
use Rattle.std.proofs.Common.{◌≡◌, ◌⊎◌, ℕ, ◌+◌, ◌<◌, ◌≤◌, length}
use Rattle.std.specs.Prelude.{◌==◌}
use Rattle.std.specs.Int.{bit_at}
use Rattle.adj_reach.specs.Edges.{flag}
use Rattle.adj_reach_rows.proofs.flags.set_word.Given as goal

abbrev pub invariant-loop-column : goal.invariant-loop-column
invariant-loop-column l = record {
  count : length l.flags ≡ length l.initial.flags;
  others : (x : ℕ) → (x < l.at) ⊎ (l.at + l.column ≤ x) → flag l.flags x ≡ flag l.initial.flags x;
  word : (j : ℕ) → j < l.column → flag l.flags (l.at + j) ≡ (bit_at l.word j == 1);
}
