use Rattle.std.proofs.Common.{◌≡◌, ℕ, [], true, List, map, sym, ap, subst, ◌∙◌, Vec, Global}
use Rattle.std.specs.Prelude.{Some}
use Rattle.adj_tree.specs.View.{procedures_of}
use Rattle.def_meaning.specs.Units.{Slot, fits, run_unit}
use Rattle.def_jacobian.specs.Inputs.{by_columns}
use Rattle.def_jacobian.specs.Patterns.{pattern_run}
use Rattle.adj_interp.specs.Concludes.{slot_seen}
use Rattle.adj_interp.specs.Ended.{EndsWith}
use Rattle.adj_interp.specs.Inputs.{entry_seen}
use Rattle.adj_interp_frame.specs.declared.slot.Slot.{Slot as EntrySlot}
use Rattle.adj_jacobian_few.specs.declared.few.Few.{Few}
use Rattle.adj_jacobian_few.specs.Few.{few, own_few}
use Rattle.adj_jacobian_few.proofs.Told.{few_tells}
use Rattle.adj_jacobian.specs.Ends.{task_on}
use Rattle.adj_jacobian.proofs.Parting.{few_ends}
use Rattle.adj_jacobian.proofs.Starting.{few_fits}
use Rattle.adj_jacobian.proofs.blocks.few_run.Goals as goal

-- the slots of an entry, as they are seen
abbrev seen : Vec (EntrySlot Few) Global → List (Slot Few)
seen slots = map entry_seen slots.items

pub run_over-requires-clause-fits : goal.run_over-requires-clause-fits
run_over-requires-clause-fits c u at =
    subst (λ vs. fits few u vs ≡ true) (sym c.in_ok-slots.ensures) (few_fits u c.as_slice.result.now (map slot_seen c.args.input.now) (c.requires.fits u at))

pub returns : goal.returns
returns c u at =
    let units = procedures_of c.args.program.now.program in
    let input = map slot_seen c.args.input.now in
    let p = task_on units u c.args.head.now.vars input c.args.budget in
    let slots = c.in_ok-slots.ensures ∙ ap (λ vars. by_columns few.of_word own_few vars input 0) c.as_slice.ensures.members in
    let empty = c.in_ok-tape.ensures.empty in
    let room = c.in_ok-tape.ensures.room in
    let whole = λ (vs : List (Slot Few)) (ws : List Few) (most : ℕ). run_unit few units u vs ws (Some most) c.args.budget in
    few_ends seen (whole (by_columns few.of_word own_few c.args.head.now.vars input 0) [] 0) (pattern_run p) c.run_over.result c.run_over.new.tape c.run_over.new.log
    (few_tells p)
    (subst (λ z. z) (λ i. EndsWith few seen (whole (slots i) (empty i) (room i)) c.run_over.result c.run_over.new.tape c.run_over.new.log) (c.run_over.ensures.ends u at))
