use Rattle.std.proofs.Common.{◌≡◌, ◌++◌, map, drop, length}
use Rattle.adj_data.specs.Given.{slot_seen}
use Rattle.adj_data.specs.Printed.{values_text}
use Rattle.adj_data.proofs.print.print_values.Given as goal

abbrev pub invariant-loop-name : goal.invariant-loop-name
invariant-loop-name l = l.out.items ++ values_text (drop (length l.yielded) l.names) (map slot_seen (drop (length l.yielded) l.values)) ≡ values_text l.names (map slot_seen l.values)
