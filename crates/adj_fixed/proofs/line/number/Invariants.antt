use Rattle.std.proofs.Common.{◌≡◌, take}
use Rattle.def_text.specs.Char.{digits_of, number_of}
use Rattle.adj_fixed.proofs.Numbers.{IsShort}
use Rattle.adj_fixed.proofs.line.number.Given as goal

abbrev pub invariant-loop-c : goal.invariant-loop-c
invariant-loop-c l = (l.number ≡ number_of (digits_of (take l.c-index l.chars))) × IsShort l.number l.c-index
