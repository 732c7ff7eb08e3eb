use Rattle.std.proofs.Common.{◌≡◌, ◌≤◌, drop}
use Rattle.def_text.specs.Class.{is_matched}
use Rattle.adj_fixed.proofs.class.is_matched.Given as goal

abbrev pub invariant-loop-c : goal.invariant-loop-c
invariant-loop-c l = (is_matched l.depth (drop l.c-index l.text) ≡ is_matched 0 l.text) × (l.depth ≤ l.c-index)
