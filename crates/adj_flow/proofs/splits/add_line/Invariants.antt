-- The flags that were there are the same.
use Rattle.std.proofs.Common.{◌≡◌, ◌+◌, ◌-◌, ℕ, length}
use Rattle.adj_reach.specs.Edges.{flag}
use Rattle.adj_flow.proofs.splits.add_line.Given as goal

abbrev pub invariant-loop-flags : goal.invariant-loop-flags
invariant-loop-flags l = (n : ℕ) → flag l.flags.items n ≡ flag l.initial.flags.items n

abbrev pub decreases-loop-flags : goal.decreases-loop-flags
decreases-loop-flags l = l.line + 1 - length l.flags.items
