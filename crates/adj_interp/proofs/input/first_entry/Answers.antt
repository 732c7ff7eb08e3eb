use Rattle.std.proofs.Common.{rules, vec_len, take, drop, ◌++◌, ◌≡◌, true, false, map, length, sym, ap, subst, ◌∙◌, arith, Vec, Global}
use Rattle.adj_tree.specs.View.{procedure_of}
use Rattle.def_meaning.specs.Apart.{AreApart}
use Rattle.std.specs.Prelude.{Err}
use Rattle.adj_interp_frame.specs.declared.entry.Unfit.TheVariants as unfit
use Rattle.adj_interp_frame.specs.Framed.{shapes_in, store_in}
use Rattle.adj_interp_frame.specs.Shown.{Shows}
use Rattle.adj_interp_frame.specs.Called.{actuals_in, entered_with, fit_from}
use Rattle.adj_interp_frame.specs.declared.slot.Slot.{Slot as EntrySlot}
use Rattle.adj_interp.specs.Inputs.{entry_seen, input_shape}
use Rattle.adj_interp_frame.proofs.Showing.{shows_itself}
use Rattle.adj_interp_frame.specs.Lent.{AreLent}
use Rattle.adj_interp.proofs.Calling.{filled_whole}
use Rattle.adj_interp.proofs.Inputting.{apart_front, input_entered, input_fits}
use Rattle.adj_interp.proofs.input.first_entry.Goals as goal

pub outside-caller-requires-clause-apart : goal.outside-caller-requires-clause-apart
outside-caller-requires-clause-apart g c =
    let l = c.requires.laid in
    apart_front c.args.routine.now.unit.now.dummies l.others (subst AreApart l.names l.apart)

-- dummies of an input that fits fit
pub unreachable-requires : goal.unreachable-requires
unreachable-requires g c =
    let r = c.args.routine.now in
    let u = procedure_of c.args.routine.now.unit.now in
    let input = map entry_seen c.args.input.items in
    let f = c.outside-caller.result in
    let vs = f.slots.items in
    let k = c.outside-caller.ensures in
    let all = c.in_ok-actuals.actuals.items in
    let named = k.names in
    let value = c.as_slice-given.ensures.value in
    let many = c.in_ok-actuals.ensures.count in
    let len = c.len.ensures in
    let count : length c.in_ok-actuals.actuals.items ≡ length c.outside-caller.result.slots.items = omega (arith, many, len) in
    let misfit : c.entry.result ≡ Err unfit.Shape = c.in-Err-Shape.is ∙ ap Err c.in-Err-Shape.field-0-is in
    let bad = c.entry.ensures.unfit misfit (shapes_in f.names.now vs) (store_in g.N.Number.numbers f.names.now vs) (shows_itself g.N.Number.numbers f.names.now vs) in
    let good = input_fits g.N.Number.numbers u input vs all k.framed (ap (λ (z : Vec (EntrySlot _) Global). map entry_seen z.items) k.slots) count (λ j d lt. c.in_ok-actuals.ensures.each j d (omega (arith, lt, len))) c.requires.fits in
    let both : true ≡ false = sym good ∙ sym (λ i. fit_from g.N.Number.numbers r (actuals_in (named i) (shapes_in (named i) vs) (store_in g.N.Number.numbers (named i) vs) (value i)) 0) ∙ bad in
    absurd cc

pub returns-in-Ok-clause-framed : goal.returns-in-Ok-clause-framed
returns-in-Ok-clause-framed g c =
    let r = c.args.routine.now in
    let all = c.as_slice-given.result.now in
    let ws = c.in-Ok.slots in
    let v = c.as_mut_slice.ensures.value in
    let len : vec_len c.in-Ok.slots ≡ length c.in-Ok.slots.items = search rules in
    c.in-Ok.ensures.framed _ (filled_whole c.outside-caller.result.slots.items all ws.items c.as_mut_slice.result.now c.lend.new.slots (vec_len ws) v len (c.lend.ensures.filled r (subst (AreLent r all) (sym v) c.in-Ok.ensures.lent)))

pub returns-in-Ok-clause-shown : goal.returns-in-Ok-clause-shown
returns-in-Ok-clause-shown g c =
    let r = c.args.routine.now in
    let u = procedure_of c.args.routine.now.unit.now in
    let input = map entry_seen c.args.input.items in
    let f = c.outside-caller.result in
    let vs = f.slots.items in
    let k = c.outside-caller.ensures in
    let all = c.in_ok-actuals.actuals.items in
    let named = k.names in
    let value = c.as_slice-given.ensures.value in
    let many = c.in_ok-actuals.ensures.count in
    let len = c.len.ensures in
    let count : length c.in_ok-actuals.actuals.items ≡ length c.outside-caller.result.slots.items = omega (arith, many, len) in
    let given = c.as_slice-given.result.now in
    let ws = c.in-Ok.slots in
    let v = c.as_mut_slice.ensures.value in
    let size : vec_len c.in-Ok.slots ≡ length c.in-Ok.slots.items = search rules in
    let filled = filled_whole vs given ws.items c.as_mut_slice.result.now c.lend.new.slots (vec_len ws) v size (c.lend.ensures.filled r (subst (AreLent r given) (sym v) c.in-Ok.ensures.lent)) in
    let shown = c.in-Ok.ensures.shown _ filled (shapes_in f.names.now vs) (store_in g.N.Number.numbers f.names.now vs) (shows_itself g.N.Number.numbers f.names.now vs) in
    let path = (λ i. entered_with g.N.Number.numbers r (actuals_in (named i) (shapes_in (named i) vs) (store_in g.N.Number.numbers (named i) vs) (value i))) ∙ input_entered g.N.Number.numbers u input vs all k.framed (ap (λ (z : Vec (EntrySlot _) Global). map entry_seen z.items) k.slots) count (λ j d lt. c.in_ok-actuals.ensures.each j d (omega (arith, lt, len))) in
    subst (λ st. Shows g.N.Number.numbers r.names (take (vec_len c.in-Ok.slots) (c.lend.new.slots ++ drop (length c.lend.new.slots) c.in-Ok.slots.items)) (input_shape g.N.Number.numbers u st) st) path shown
