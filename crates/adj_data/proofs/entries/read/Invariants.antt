use Rattle.std.proofs.Common.{◌≡◌, [], length}
use Rattle.def_text.specs.Line.{cut_lines}
use Rattle.adj_data.specs.Items.{items_of}
use Rattle.adj_data.specs.Entries.{with_items}
use Rattle.adj_data.specs.Faults.{entries_fault}
use Rattle.adj_data.specs.Titles.{takes_marks}
use Rattle.adj_data.proofs.entries.read.Given as goal

abbrev pub invariant-loop-rest : goal.invariant-loop-rest
invariant-loop-rest l =
    (entries_fault l.reading.names l.entries (items_of (takes_marks l.reading.titles) l.number (cut_lines l.rest)) ≡ entries_fault l.fn.reading.names [] (items_of (takes_marks l.fn.reading.titles) l.line (cut_lines l.bytes)))
    × (with_items l.entries (items_of (takes_marks l.reading.titles) l.number (cut_lines l.rest)) ≡ with_items [] (items_of (takes_marks l.fn.reading.titles) l.line (cut_lines l.bytes)))

abbrev pub decreases-loop-rest : goal.decreases-loop-rest
decreases-loop-rest l = length l.rest
