use Rattle.std.proofs.Common.{◌≡◌, ◌+◌, ◌≤◌, drop}
use Rattle.adj_tool.specs.Sample.{line_ends}
use Rattle.adj_tool.proofs.sampling.line_ends.Given as goal

abbrev pub invariant-loop-c : goal.invariant-loop-c
invariant-loop-c l = record {
  so_far : l.ends + line_ends (drop l.c-index l.text) ≡ line_ends l.text;
  few : l.ends ≤ l.c-index;
}
