use Rattle.std.proofs.Common.{rules, ◌≡◌, ℕ, [], true, List, map, sym, ap, subst, ◌∙◌, Vec, Global}
use Rattle.std.specs.Prelude.{ℤ, Some, Ok, Err}
use Rattle.adj_tree.specs.View.{procedures_of}
use Rattle.def_meaning.specs.Numbers.{duals}
use Rattle.def_meaning.specs.Units.{Slot, fits, run_unit}
use Rattle.adj_interp_frame.specs.declared.slot.Slot.{Slot as EntrySlot}
use Rattle.adj_interp.specs.declared.stop.Stop.TheVariants as stop
use Rattle.adj_interp.specs.Dually.{dual_slots, DualEnds}
use Rattle.adj_interp.specs.Ended.{EndsWith}
use Rattle.adj_interp.specs.Inputs.{entry_seen}
use Rattle.adj_interp.proofs.Quiet.{dual_never_full}
use Rattle.adj_interp.proofs.Tangents.{fits_with_tangents}
use Rattle.adj_interp.proofs.Worded.{duals_stop, duals_done}
use Rattle.adj_interp.proofs.dual.run_dual.Goals as goal

-- the slots of an entry, as they are seen
abbrev seen : Vec (EntrySlot (ℤ × ℤ)) Global → List (Slot (ℤ × ℤ))
seen slots = map entry_seen slots.items

pub run_over-requires-clause-fits : goal.run_over-requires-clause-fits
run_over-requires-clause-fits c u at =
    let first : c.as_slice.result.now ≡ c.args.input = search rules in
    let second : c.as_slice-2.result.now ≡ c.args.tangents = search rules in
    let slots = c.in_ok-slots.ensures ∙ (λ i. dual_slots (first i) (second i)) in
    subst (λ vs. fits duals u vs ≡ true) (sym slots) (fits_with_tangents u c.args.input c.args.tangents c.requires.tangents (c.requires.fits u at))

pub returns-in-Ok-clause-ends : goal.returns-in-Ok-clause-ends
returns-in-Ok-clause-ends c u at =
    let first : c.as_slice.result.now ≡ c.args.input = search rules in
    let second : c.as_slice-2.result.now ≡ c.args.tangents = search rules in
    let slots = c.in_ok-slots.ensures ∙ (λ i. dual_slots (first i) (second i)) in
    let empty = c.in_ok-tape.ensures.empty in
    let room = c.in_ok-tape.ensures.room in
    let whole = λ (vs : List (Slot (ℤ × ℤ))) (ws : List (ℤ × ℤ)) (most : ℕ). run_unit duals (procedures_of c.args.program.now.program) u vs ws (Some most) c.args.budget in
    let tape = c.run_over.new.tape in
    let log = c.run_over.new.log in
    let values = c.in_ok-values-in-Ok.values in
    let same = c.in_ok-values-in-Ok.ensures.same ∙ ap (map entry_seen) c.as_slice-in-Ok.ensures.value in
    duals_done seen (whole (dual_slots c.args.input c.args.tangents) [] 0) c.in-Ok.ends values.0 values.1 tape log c.in_ok-values-in-Ok.ensures.tangents same
    (subst (λ z. z) (λ i. EndsWith duals seen (whole (slots i) (empty i) (room i)) (Ok c.in-Ok.ends) tape log) (c.in-Ok.ensures.ends u at))

pub returns-clause-ends : goal.returns-clause-ends
returns-clause-ends c u at =
    let first : c.as_slice.result.now ≡ c.args.input = search rules in
    let second : c.as_slice-2.result.now ≡ c.args.tangents = search rules in
    let slots = c.in_ok-slots.ensures ∙ (λ i. dual_slots (first i) (second i)) in
    let empty = c.in_ok-tape.ensures.empty in
    let room = c.in_ok-tape.ensures.room in
    let whole = λ (vs : List (Slot (ℤ × ℤ))) (ws : List (ℤ × ℤ)) (most : ℕ). run_unit duals (procedures_of c.args.program.now.program) u vs ws (Some most) c.args.budget in
    let tape = c.run_over.new.tape in
    let log = c.run_over.new.log in
    duals_stop seen (whole (dual_slots c.args.input c.args.tangents) [] 0) c.in-Err.stop tape log
    (subst (λ z. z) (λ i. EndsWith duals seen (whole (slots i) (empty i) (room i)) (Err c.in-Err.stop) tape log) (c.in-Err.ensures.ends u at))

-- a program that calls no runtime never finds the tape full
pub returns-clause-full : goal.returns-clause-full
returns-clause-full c quiet full =
    let units = procedures_of c.args.program.now.program in
    let input = dual_slots c.args.input c.args.tangents in
    let is : c.in-Err.stop ≡ stop.TapeFull = cc in
    dual_never_full units units c.args.unit input c.args.budget quiet quiet c.requires.there
    (λ u at. subst (λ x. DualEnds (run_unit duals units u input [] (Some 0) c.args.budget) (Err x)) is (returns-clause-ends c u at))
