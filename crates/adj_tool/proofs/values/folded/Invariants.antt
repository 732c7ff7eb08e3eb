use Rattle.std.proofs.Common.{◌≡◌, map, take}
use Rattle.def_text.specs.Char.{upper}
use Rattle.adj_tool.proofs.values.folded.Given as goal

abbrev pub invariant-loop-c : goal.invariant-loop-c
invariant-loop-c l = l.bytes.items ≡ map upper (take l.c-index l.argument)
