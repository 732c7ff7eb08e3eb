use Rattle.std.proofs.Common.{◌≡◌, take}
use Rattle.def_text.specs.Splits.{split_lines}
use Rattle.adj_parse.proofs.split_calls.splits.Given as goal

abbrev pub invariant-loop-statement : goal.invariant-loop-statement
invariant-loop-statement l = l.lines.items ≡ split_lines (take l.statement-index l.stated)
