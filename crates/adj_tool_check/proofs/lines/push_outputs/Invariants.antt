use Rattle.std.proofs.Common.{◌≡◌, ◌++◌, map, drop}
use Rattle.adj_data.specs.Given.{slot_seen}
use Rattle.adj_tool_check.specs.Checking.{output_lines}
use Rattle.adj_tool_check.proofs.lines.push_outputs.Given as goal

abbrev pub invariant-loop-name : goal.invariant-loop-name
invariant-loop-name l = l.out.items ++ output_lines (drop l.name-index l.names) (map slot_seen l.rest) ≡ l.fn.out.items ++ output_lines l.names (map slot_seen l.values)
