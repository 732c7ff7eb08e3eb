use Rattle.std.proofs.Common.{◌≡◌, ◌≤◌, ◌+◌, ◌*◌, ◌^◌, take}
use Rattle.def_text.specs.Char.{number_of}
use Rattle.adj_tool.proofs.values.number_of.Given as goal

abbrev pub invariant-loop-c : goal.invariant-loop-c
invariant-loop-c l = record {
  so_far : l.value ≡ number_of (take l.c-index l.digits);
  small : l.value + 23 ≤ 23 * 10 ^ l.c-index;
}
