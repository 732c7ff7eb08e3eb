use Rattle.std.proofs.Common.{rules, vec_len, ◌≡◌, List, length, ap, sym, subst, ◌∙◌}
use Rattle.adj_interp_frame.specs.declared.actual.Actual.{Actual}
use Rattle.adj_interp_frame.specs.declared.frame.Frame.{Frame}
use Rattle.adj_interp_frame.specs.declared.slot.Slot.{Slot}
use Rattle.adj_interp_frame.specs.Lent.{AreLent, AreFilled, HaveLent}
use Rattle.adj_interp.specs.declared.call.Outer.{Outer}
use Rattle.adj_interp.specs.declared.machine.Machine.{Machine}
use Rattle.adj_interp.proofs.Calling.{filled_whole, went_in}
use Rattle.adj_interp.proofs.machine.Machine.enter.Goals as goal

-- what fills an entry fills it under other names
alike : {C : Type 0} (f f2 w w2 : Frame C) (all : List (Actual C)) (us : List (Slot C)) → f ≡ f2 → w ≡ w2 → AreFilled f.slots.items all w.slots.items us → AreFilled f2.slots.items all w2.slots.items us
alike f f2 w w2 all us p q h = subst (λ z. z) (λ i. AreFilled (p i).slots.items all (q i).slots.items us) h

pub returns-clause-filled : goal.returns-clause-filled
returns-clause-filled g c r l =
    let all = c.args.actuals.now in
    let ws = c.step_in-outer.new.self.frame.slots in
    let into = ap (λ (z : Machine _). z.frame) c.step_in-outer.ensures.into in
    let caller = ap (λ (z : Outer _). z.frame) c.step_in-outer.ensures.outer ∙ ap (λ (z : Machine _). z.frame) c.in_ok-level.ensures.same in
    let v = c.as_mut_slice.ensures.value in
    let len : vec_len c.step_in-outer.new.self.frame.slots ≡ length c.step_in-outer.new.self.frame.slots.items = search rules in
    let lent = subst (λ (f : Frame _). AreLent r all f.slots.items) (sym into) l in
    let filled = filled_whole c.step_in-outer.result.frame.slots.items all ws.items c.as_mut_slice.result.now c.fill.new.slots (vec_len ws) v len (c.fill.ensures.filled r (subst (AreLent r all) (sym v) lent)) in
    alike c.step_in-outer.result.frame c.args.self.now.frame c.step_in-outer.new.self.frame c.args.frame all _ caller into filled

pub returns-clause-lent : goal.returns-clause-lent
returns-clause-lent g c r l =
    let all = c.args.actuals.now in
    let into = ap (λ (z : Machine _). z.frame) c.step_in-outer.ensures.into in
    let caller = ap (λ (z : Outer _). z.frame) c.step_in-outer.ensures.outer ∙ ap (λ (z : Machine _). z.frame) c.in_ok-level.ensures.same in
    let lent = subst (λ (f : Frame _). AreLent r all f.slots.items) (sym into) l in
    subst (λ (f : Frame _). HaveLent r all f.slots.items c.fill.new.self.slots.items) caller (c.fill.ensures.lent r (subst (AreLent r all) (sym c.as_mut_slice.ensures.value) lent))

pub returns-clause-holds : goal.returns-clause-holds
returns-clause-holds g c e s shape t name shapes h q =
    went_in e c.args.self.now c.count_entry.new.self c.step_in-outer.new.self c.args.frame _ c.in_ok-level.level s shape t name shapes c.in_ok-level.ensures.same (c.in_ok-level.ensures.told name shapes) c.in_ok-level.ensures.level c.step_in-outer.ensures.into h q
