use Rattle.std.proofs.Common.{◌≡◌, ◌≤◌, ◌+◌, ◌-◌, length, drop}
use Rattle.def_text.specs.Token.{tokens_from}
use Rattle.def_text.proofs.Scanning.{with_front}
use Rattle.adj_fixed.proofs.scan.tokens.Given as goal

abbrev pub invariant-loop-done : goal.invariant-loop-done
invariant-loop-done l = (l.done ≤ length l.part) × (with_front l.tokens.items (tokens_from l.call 0 (l.from + l.done) (drop l.done l.part)) ≡ tokens_from l.call 0 l.from l.part)

abbrev pub decreases-loop-done : goal.decreases-loop-done
decreases-loop-done l = length l.part - l.done
