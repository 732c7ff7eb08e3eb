-- The lines passed, and those that are left.
use Rattle.std.proofs.Common.{◌≡◌, ℕ, drop}
use Rattle.std.specs.Prelude.{◌||◌}
use Rattle.def_flow.specs.Splits.{is_line}
use Rattle.adj_reach.specs.Edges.{flag}
use Rattle.adj_flow.proofs.splits.line_flags.Given as goal

abbrev pub invariant-loop-line : goal.invariant-loop-line
invariant-loop-line l = (n : ℕ) → (flag l.flags.items n || is_line (drop l.line-index l.lines) n) ≡ is_line l.lines n
