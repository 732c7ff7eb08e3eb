use Rattle.std.proofs.Common.{◌≡◌, ◌++◌, take}
use Rattle.adj_data.specs.Printed.{numbers_text}
use Rattle.adj_data.proofs.print.push_numbers.Given as goal

abbrev pub invariant-loop-number : goal.invariant-loop-number
invariant-loop-number l = l.out.items ≡ l.fn.out.items ++ numbers_text (take l.number-index l.numbers)
