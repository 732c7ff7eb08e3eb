use Rattle.std.proofs.Common.{rules, ◌≡◌, ◌<◌, ◌-◌, length, get_or, refl, sym, ap, subst, ◌∙◌, arith}
use Rattle.std.specs.Prelude.{Ok, Err}
use Rattle.std.proofs.lemmas.List.{get_or_default}
use Rattle.def_meaning.specs.Scene.{popped, popped_all}
use Rattle.adj_interp_frame.specs.declared.slot.Slot.{Slot}
use Rattle.adj_interp_frame.specs.Prepared.{var_at}
use Rattle.adj_interp_frame.specs.Framed.{IsFrame}
use Rattle.adj_interp.specs.Held.{setting_at, Ends}
use Rattle.adj_interp.proofs.Driving.{reaches_start}
use Rattle.adj_interp.proofs.Serving.{counted_cells, back_next, back_break, back_end}
use Rattle.adj_interp.proofs.machine.Machine.pop_array.Goals as goal

pub loop-remaining-init : goal.loop-remaining-init
loop-remaining-init g c =
    let m = c.args.self.now in
    let slots = m.frame.slots.items in
    let i = c.args.variable in
    let d0 = c.index.result.now in
    let framed = c.requires.framed in
    let each = framed.each in
    let below = c.requires.there in
    let there : i < length slots = omega (arith, each, below) in
    let counted : c.len-remaining.result ≡ length d0.cells.items = search rules in
    record {
      room = refl;
      names = refl;
      framed = framed;
      counts = refl;
      within = λ d.
          let same : length (get_or slots i d).cells.items ≡ length d0.cells.items = ap (λ (z : Slot _). length z.cells.items) (get_or_default slots i d d0 there ∙ sym c.index.ensures) in
          omega (arith, counted, same);
      reached = λ e s h. reaches_start e (popped_all (setting_at e) (var_at m.frame.names.now i) c.len-remaining.result c.args.line) m s h;
    }

pub loop-remaining-preserved : goal.loop-remaining-preserved
loop-remaining-preserved g c =
    let inv = c.loop-remaining.invariant in
    record {
      room = c.in_ok-pop.ensures.room ∙ inv.room;
      names = c.in_ok-pop.ensures.names ∙ inv.names;
      framed = subst (λ ns. IsFrame ns c.pop.new.self.frame.slots.items) inv.names c.in_ok-pop.ensures.framed;
      counts = c.in_ok-pop.ensures.counts ∙ inv.counts;
      within = λ d. let a = c.in_ok-pop.ensures.sized c.args.variable d in let b = inv.within d in omega (arith, a, b);
      reached = λ e s h.
          let m = c.args.self.now in
          let x = var_at m.frame.names.now c.args.variable in
          let o = popped_all (setting_at e) x c.len-remaining.result c.args.line s in
          back_next e x c.args.line c.loop-remaining.remaining o c.in_ok-pop.field-0 c.loop-remaining.self c.pop.new.self c.loop-remaining-test.true (inv.reached e s h)
          (λ z g. subst (λ ns. Ends e (popped (setting_at e) (var_at ns c.args.variable) (c.loop-remaining.remaining - 1) c.args.line z) c.loop-remaining.self.left (Ok c.in_ok-pop.field-0) c.pop.new.self) inv.names (c.in_ok-pop.ensures.ends e z g));
    }

pub returns-in_err-pop-clause-ends : goal.returns-in_err-pop-clause-ends
returns-in_err-pop-clause-ends g c e s h =
    let m = c.args.self.now in
    let inv = c.loop-remaining.invariant in
    let x = var_at m.frame.names.now c.args.variable in
    let d = c.index.result.now in
    let framed = c.requires.framed in
    let each = framed.each in
    let below = c.requires.there in
    let there : c.args.variable < length m.frame.slots.items = omega (arith, each, below) in
    let count = c.len-remaining.result in
    let counted : count ≡ length d.cells.items = search rules in
    let o = popped_all (setting_at e) x count c.args.line s in
    let r : c.from_residual.result ≡ Err c.in_err-pop.field-0.0 = search rules in
    subst (λ j. Ends e (popped_all (setting_at e) x j c.args.line s) m.left c.from_residual.result c.pop.new.self) (counted_cells e m s c.args.variable d h c.requires.framed there count c.index.ensures counted)
    (subst (λ z. Ends e o m.left z c.pop.new.self) (sym r)
    (back_break e x c.args.line c.loop-remaining.remaining o c.in_err-pop.field-0.0 c.loop-remaining.self c.pop.new.self c.loop-remaining-test.true (inv.reached e s h)
    (λ z g. subst (λ ns. Ends e (popped (setting_at e) (var_at ns c.args.variable) (c.loop-remaining.remaining - 1) c.args.line z) c.loop-remaining.self.left (Err c.in_err-pop.field-0.0) c.pop.new.self) inv.names (c.in_err-pop.ensures.ends e z g))))

pub returns-clause-ends : goal.returns-clause-ends
returns-clause-ends g c e s h =
    let m = c.args.self.now in
    let x = var_at m.frame.names.now c.args.variable in
    let d = c.index.result.now in
    let framed = c.requires.framed in
    let each = framed.each in
    let below = c.requires.there in
    let there : c.args.variable < length m.frame.slots.items = omega (arith, each, below) in
    let count = c.len-remaining.result in
    let counted : count ≡ length d.cells.items = search rules in
    let o = popped_all (setting_at e) x count c.args.line s in
    let none : c.loop-remaining.remaining ≡ 0 = omega arith in
    subst (λ j. Ends e (popped_all (setting_at e) x j c.args.line s) m.left (Ok tt) c.loop-remaining.self) (counted_cells e m s c.args.variable d h c.requires.framed there count c.index.ensures counted)
    (back_end e x c.args.line c.loop-remaining.remaining o tt c.loop-remaining.self none (c.loop-remaining.invariant.reached e s h))
