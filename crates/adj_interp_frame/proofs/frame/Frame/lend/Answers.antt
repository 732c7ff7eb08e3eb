use Rattle.std.proofs.Common.{◌≡◌, ◌≢◌, ◌+◌, ◌<◌, inl, inr, ℕ, Bool, true, false, [], get_or, refl, sym, ap, subst, ◌∙◌, arith}
use Rattle.std.specs.Prelude.{◌==◌}
use Rattle.adj_interp_frame.specs.declared.slot.Slot.{Slot}
use Rattle.adj_interp_frame.specs.declared.routine.Routine.{Routine}
use Rattle.adj_interp_frame.specs.Lent.{AreLent, IsFilled}
use Rattle.adj_interp_frame.proofs.Borrowing.{below_at, lent_first, filled_moved, not_empty, gone_on, gone_now, not_gone, gone_come}
use Rattle.adj_interp_frame.proofs.frame.Frame.lend.Goals as goal

pub lend_next-requires-clause-below : goal.lend_next-requires-clause-below
lend_next-requires-clause-below g c k at =
    let b = below_at c.args.self.now.slots.items c.args.actuals.now c.loop-i.i k c.requires.below at in
    let n = c.loop-i.invariant.count in
    omega (arith, b, n)

-- at first each slot has its cells
pub loop-i-init : goal.loop-i-init
loop-i-init g c = record {
  names = refl;
  count = refl;
  shapes = λ k d. refl;
  many = refl;
  rest = λ j d l. refl;
  kept = λ k d n. refl;
  gone = λ r lent k d lt z. absurd (not_empty (get_or c.args.self.now.slots.items k d) (c.requires.framed.sized k d lt) z);
  filled = λ r lent j d e lt. absurd (omega (arith, lt));
}

pub loop-i-preserved : goal.loop-i-preserved
loop-i-preserved g c =
    let inv = c.loop-i.invariant in
    let k = c.lend_next.ensures in
    record {
      names = k.names ∙ inv.names;
      count = k.count ∙ inv.count;
      shapes = λ m d. k.shapes m d ∙ inv.shapes m d;
      many = k.many ∙ inv.many;
      rest = λ j d later. k.others j d (λ q. absurd (omega (arith, q, later))) ∙ inv.rest j d (omega (arith, later));
      kept = λ m d n.
          let now = k.kept m d n in
          now ∙ inv.kept m d (λ z. n (ap (λ (v : Slot _). v.cells.items) now ∙ z));
      gone = λ r lent m d lt z. elim (k.come m d z) [
        | inl was ↦ gone_on r c.args.actuals.now c.loop-i.i m (inv.gone r lent m d lt was)
        | inr p ↦ gone_now r c.args.actuals.now c.loop-i.i m (lent_first r c.args.actuals.now c.loop-i.i m (lent c.loop-i.i d (omega arith) (subst (λ (v : Slot _). v.cells.items ≡ []) (inv.rest c.loop-i.i d (omega arith)) (p.0 d))) p.1)
      ];
      filled = λ r lent j d e lt. filled r lent j d e lt (j == c.loop-i.i) refl;
    }
  where
    filled : (r : Routine) → AreLent r c.args.actuals.now c.args.slots.now → (j : ℕ) (d e : Slot _) → j < c.loop-i.i + 1 → (b : Bool) → (j == c.loop-i.i) ≡ b → IsFilled c.args.self.now.slots.items c.args.actuals.now j (get_or c.args.slots.now j d) (get_or c.lend_next.new.slots j e)
    filled r lent j d e lt true q =
        let inv = c.loop-i.invariant in
        let s : c.loop-i.i ≡ j = grind arith in
        let was = inv.rest c.loop-i.i d (omega arith) in
        subst (λ z. IsFilled c.args.self.now.slots.items c.args.actuals.now z (get_or c.args.slots.now z d) (get_or c.lend_next.new.slots z e)) s
        (subst (λ w. IsFilled c.args.self.now.slots.items c.args.actuals.now c.loop-i.i w (get_or c.lend_next.new.slots c.loop-i.i e)) was
        (filled_moved c.loop-i.self.slots.items c.args.self.now.slots.items c.args.actuals.now c.loop-i.i (get_or c.loop-i.slots c.loop-i.i d) (get_or c.lend_next.new.slots c.loop-i.i e) (c.lend_next.ensures.filled d e)
        (λ k g empty at.
        let first = lent_first r c.args.actuals.now c.loop-i.i k (lent c.loop-i.i d (omega arith) (subst (λ (v : Slot _). v.cells.items ≡ []) was empty)) at in
        let there = below_at c.args.self.now.slots.items c.args.actuals.now c.loop-i.i k c.requires.below at in
        ap (λ (v : Slot _). v.cells.items) (inv.kept k g (λ none. not_gone r c.args.actuals.now c.loop-i.i k first (inv.gone r lent k g there none))))))
    filled r lent j d e lt false q =
        let inv = c.loop-i.invariant in
        let s : j ≢ c.loop-i.i = grind arith in
        subst (λ u. IsFilled c.args.self.now.slots.items c.args.actuals.now j (get_or c.args.slots.now j d) u) (sym (c.lend_next.ensures.others j e s)) (inv.filled r lent j d e (omega (arith, lt, s)))

pub returns-clause-filled : goal.returns-clause-filled
returns-clause-filled g c r lent =
    let inv = c.loop-i.invariant in
    record { count = inv.many; each = λ j d e lt. inv.filled r lent j d e (omega (arith, lt)) }

pub returns-clause-lent : goal.returns-clause-lent
returns-clause-lent g c r lent =
    let inv = c.loop-i.invariant in
    record {
      count = inv.count;
      shapes = inv.shapes;
      kept = λ k d lt. inv.kept k d;
      come = λ k d lt z. let n = inv.count in gone_come r c.args.actuals.now c.loop-i.i k (inv.gone r lent k d (omega (arith, lt, n)) z);
    }
