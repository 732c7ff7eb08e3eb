use Rattle.std.proofs.Common.{◌≡◌, length}
use Rattle.adj_tool.specs.Sample.{line_ends, last_lines}
use Rattle.adj_tool.proofs.sampling.last_two.Given as goal

abbrev pub invariant-loop-ends : goal.invariant-loop-ends
invariant-loop-ends l = record {
  counted : l.ends ≡ line_ends l.rest;
  last : last_lines 2 l.rest ≡ last_lines 2 l.text;
}

abbrev pub decreases-loop-ends : goal.decreases-loop-ends
decreases-loop-ends l = length l.rest
