use Rattle.std.proofs.Common.{◌≡◌, ◌++◌, take}
use Rattle.def_text.specs.Char.{folded}
use Rattle.adj_fixed.proofs.line.push_folded.Given as goal

abbrev pub invariant-loop-c : goal.invariant-loop-c
invariant-loop-c l = l.text.items ≡ l.fn.text.items ++ folded (take l.c-index l.chars)
