use Rattle.std.proofs.Common.{◌≡◌, ◌≤◌, drop}
use Rattle.def_text.specs.Class.{has_open}
use Rattle.adj_fixed.proofs.class.has_open.Given as goal

abbrev pub invariant-loop-c : goal.invariant-loop-c
invariant-loop-c l = (has_open l.sought l.depth (drop l.c-index l.text) ≡ has_open l.sought 0 l.text) × (l.depth ≤ l.c-index)
