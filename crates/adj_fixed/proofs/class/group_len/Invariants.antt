use Rattle.std.proofs.Common.{◌≡◌, ◌≤◌, ◌+◌, drop, option_map}
use Rattle.def_text.specs.Class.{group_len}
use Rattle.adj_fixed.proofs.class.group_len.Given as goal

abbrev pub invariant-loop-i : goal.invariant-loop-i
invariant-loop-i l = (option_map (λ n. l.i + n) (group_len l.depth (drop l.i l.text)) ≡ group_len 0 l.text) × (l.depth ≤ l.i)
