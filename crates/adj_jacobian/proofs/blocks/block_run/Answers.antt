use Rattle.std.proofs.Common.{◌≡◌, ℕ, [], true, List, map, sym, ap, subst, ◌∙◌, Vec, Global}
use Rattle.std.specs.Prelude.{Some}
use Rattle.adj_tree.specs.View.{procedures_of}
use Rattle.def_meaning.specs.Units.{Slot, fits, run_unit}
use Rattle.def_jacobian.specs.Inputs.{by_columns}
use Rattle.def_jacobian.specs.Patterns.{pattern_run}
use Rattle.law_jacobian.proofs.Runs.{parts_tell}
use Rattle.adj_interp.specs.Concludes.{slot_seen}
use Rattle.adj_interp.specs.Ended.{EndsWith}
use Rattle.adj_interp.specs.Inputs.{entry_seen}
use Rattle.adj_interp_frame.specs.declared.slot.Slot.{Slot as EntrySlot}
use Rattle.adj_jacobian_block.specs.declared.block.Block.{Block}
use Rattle.adj_jacobian_block.specs.Blocks.{blocks, marked_by, own_in, inside_block}
use Rattle.adj_jacobian_block.proofs.Seen.{blocks_do, own_is}
use Rattle.adj_jacobian.specs.Ends.{task_on}
use Rattle.adj_jacobian.proofs.Parting.{part_ends}
use Rattle.adj_jacobian.proofs.Starting.{block_fits}
use Rattle.adj_jacobian.proofs.blocks.block_run.Goals as goal

-- the slots of an entry, as they are seen
abbrev seen : Vec (EntrySlot Block) Global → List (Slot Block)
seen slots = map entry_seen slots.items

pub run_over-requires-clause-fits : goal.run_over-requires-clause-fits
run_over-requires-clause-fits c u at =
    subst (λ vs. fits blocks u vs ≡ true) (sym c.in_ok-slots.ensures) (block_fits c.args.block u c.as_slice.result.now (map slot_seen c.args.input.now) (c.requires.fits u at))

pub returns : goal.returns
returns c u at =
    let k = c.args.block in
    let units = procedures_of c.args.program.now.program in
    let input = map slot_seen c.args.input.now in
    let p = task_on units u c.args.head.now.vars input c.args.budget in
    let slots = c.in_ok-slots.ensures ∙ ap (λ vars. by_columns blocks.of_word (own_in k) vars input 0) c.as_slice.ensures.members in
    let empty = c.in_ok-tape.ensures.empty in
    let room = c.in_ok-tape.ensures.room in
    let whole = λ (vs : List (Slot Block)) (ws : List Block) (most : ℕ). run_unit blocks units u vs ws (Some most) c.args.budget in
    part_ends k seen (whole (by_columns blocks.of_word (own_in k) c.args.head.now.vars input 0) [] 0) (pattern_run p) c.run_over.result c.run_over.new.tape c.run_over.new.log
    (parts_tell (inside_block k) (marked_by k) blocks (blocks_do k) (own_in k) (λ z j. own_is k j z) p)
    (subst (λ z. z) (λ i. EndsWith blocks seen (whole (slots i) (empty i) (room i)) c.run_over.result c.run_over.new.tape c.run_over.new.log) (c.run_over.ensures.ends u at))
