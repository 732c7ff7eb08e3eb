use Rattle.std.proofs.Common.{◌≡◌, true, length}
use Rattle.adj_data.specs.Items.{texts_in, items_with}
use Rattle.adj_data.specs.Entries.{with_items}
use Rattle.adj_data.specs.Faults.{entries_fault}
use Rattle.adj_data.specs.Titles.{takes_marks}
use Rattle.adj_data.proofs.entries.Entries.read_line.Given as goal

abbrev pub invariant-loop-item : goal.invariant-loop-item
invariant-loop-item l =
    (entries_fault l.reading.names l.self (items_with (takes_marks l.reading.titles) l.number l.leads (texts_in l.rest)) ≡ entries_fault l.fn.reading.names l.fn.self (items_with (takes_marks l.fn.reading.titles) l.number true (texts_in l.line)))
    × (with_items l.self (items_with (takes_marks l.reading.titles) l.number l.leads (texts_in l.rest)) ≡ with_items l.fn.self (items_with (takes_marks l.fn.reading.titles) l.number true (texts_in l.line)))

abbrev pub decreases-loop-item : goal.decreases-loop-item
decreases-loop-item l = length l.rest
