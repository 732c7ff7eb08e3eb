use Rattle.std.proofs.Common.{◌≡◌, ◌++◌, map, drop}
use Rattle.adj_data.specs.Given.{slot_seen}
use Rattle.adj_data.specs.Marked.{marks_fault, marked_slots, wanted}
use Rattle.adj_data.proofs.marks.marked_slots.Given as goal

abbrev pub invariant-loop-number : goal.invariant-loop-number
invariant-loop-number l =
    let left = wanted (drop l.number l.names) (drop l.number l.flags) (map slot_seen (drop l.number l.inputs)) in
    let all = wanted l.fn.names l.fn.flags (map slot_seen l.fn.inputs) in
    (marks_fault l.marking.entries.now l.marking.mark.now left ≡ marks_fault l.marking.entries.now l.marking.mark.now all)
    × (map slot_seen l.slots.items ++ marked_slots l.marking.entries.now l.marking.mark.now left ≡ marked_slots l.marking.entries.now l.marking.mark.now all)
