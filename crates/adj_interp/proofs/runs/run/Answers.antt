use Rattle.std.proofs.Common.{◌≡◌, true, List, map, sym, subst, Vec, Global}
use Rattle.std.specs.Prelude.{ℤ, Some, Ok, Err}
use Rattle.adj_tree.specs.declared.value.Slot.{Slot as CodeSlot}
use Rattle.adj_tree.specs.View.{procedures_of}
use Rattle.def_meaning.specs.Numbers.{words}
use Rattle.def_meaning.specs.Units.{Slot, fits, run_unit}
use Rattle.adj_interp_frame.specs.declared.slot.Slot.{Slot as EntrySlot}
use Rattle.adj_interp.specs.Concludes.{slot_seen, Counts}
use Rattle.adj_interp.specs.Ended.{EndsWith}
use Rattle.adj_interp.specs.Inputs.{entry_seen}
use Rattle.adj_interp.proofs.Concluding.{counts_alike}
use Rattle.adj_interp.proofs.Worded.{words_stop, words_done}
use Rattle.adj_interp.proofs.runs.run.Goals as goal

-- the slots of an entry, as they are seen
abbrev seen : Vec (EntrySlot ℤ) Global → List (Slot ℤ)
seen slots = map entry_seen slots.items

pub run_over-requires-clause-fits : goal.run_over-requires-clause-fits
run_over-requires-clause-fits c u at = subst (λ vs. fits words u vs ≡ true) (sym c.in_ok-slots.ensures) (c.requires.fits u at)

pub returns-in_ok-values-in-Ok-clause-ends : goal.returns-in_ok-values-in-Ok-clause-ends
returns-in_ok-values-in-Ok-clause-ends c u at =
    let held = c.args.tape.now in
    let whole = λ (vs : List (Slot ℤ)). run_unit words (procedures_of c.args.program.now.program) u vs held.words (Some held.room) c.args.budget in
    let tape = c.run_over.new.tape in
    let log = c.run_over.new.log in
    words_done seen _ c.in-Ok.slots c.in_ok-values-in-Ok.values tape log c.in_ok-values-in-Ok.ensures
    (subst (λ vs. EndsWith words seen (whole vs) (Ok c.in-Ok.slots) tape log) c.in_ok-slots.ensures (c.in-Ok.ensures.ends u at))

pub returns-in-Err-clause-ends : goal.returns-in-Err-clause-ends
returns-in-Err-clause-ends c u at =
    let held = c.args.tape.now in
    let whole = λ (vs : List (Slot ℤ)). run_unit words (procedures_of c.args.program.now.program) u vs held.words (Some held.room) c.args.budget in
    let tape = c.run_over.new.tape in
    let log = c.run_over.new.log in
    words_stop seen _ c.in-Err.stop tape log
    (subst (λ vs. EndsWith words seen (whole vs) (Err c.in-Err.stop) tape log) c.in_ok-slots.ensures (c.in-Err.ensures.ends u at))

pub returns-in_ok-values-in-Ok-clause-counted : goal.returns-in_ok-values-in-Ok-clause-counted
returns-in_ok-values-in-Ok-clause-counted c u at =
    let held = c.args.tape.now in
    let whole = λ (vs : List (Slot ℤ)). run_unit words (procedures_of c.args.program.now.program) u vs held.words (Some held.room) in
    subst (λ vs. Counts (whole vs) c.args.budget (Ok c.in-Ok.slots) c.run_over.new.log.used) c.in_ok-slots.ensures (c.in-Ok.ensures.counted u at)

pub returns-in-Err-clause-counted : goal.returns-in-Err-clause-counted
returns-in-Err-clause-counted c u at =
    let held = c.args.tape.now in
    let whole = λ (vs : List (Slot ℤ)). run_unit words (procedures_of c.args.program.now.program) u vs held.words (Some held.room) in
    counts_alike (Vec (EntrySlot ℤ) Global) (List CodeSlot) (whole (map slot_seen c.args.input)) c.args.budget c.in-Err.stop c.run_over.new.log.used
    (subst (λ vs. Counts {A = Vec (EntrySlot ℤ) Global} (whole vs) c.args.budget (Err c.in-Err.stop) c.run_over.new.log.used) c.in_ok-slots.ensures (c.in-Err.ensures.counted u at))
