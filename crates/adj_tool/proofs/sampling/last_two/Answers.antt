use Rattle.std.proofs.Common.{sym, ◌∙◌, arith}
use Rattle.std.proofs.lemmas.Bool.{le-leb}
use Rattle.adj_tool.specs.Sample.{line_ends}
use Rattle.adj_tool.proofs.LastLines.{few_lines}
use Rattle.adj_tool.proofs.sampling.last_two.Goals as goal

pub returns : goal.returns
returns c =
    let rest = c.loop-ends.rest.now in
    sym (few_lines 2 rest (le-leb (line_ends rest) 2 (omega (arith, c.loop-ends.invariant.counted, c.loop-ends-test.false)))) ∙ c.loop-ends.invariant.last
