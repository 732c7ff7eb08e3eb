use Rattle.std.proofs.Common.{rules, ◌≡◌, ◌<◌, [], length, get_or, Err, sym, ap, ◌∙◌, arith}
use Rattle.std.proofs.Math.ListN.{length-set}
use Rattle.std.proofs.lemmas.Grind.{common_steps}
use Rattle.adj_tree.specs.Code.{Var}
use Rattle.def_meaning.specs.Store.{Shape, Store}
use Rattle.adj_interp_frame.specs.declared.entry.Unfit.TheVariants as why
use Rattle.adj_interp_frame.specs.declared.slot.Slot.{Slot}
use Rattle.adj_interp_frame.specs.Framed.{IsSlot}
use Rattle.adj_interp_frame.specs.Shown.{Shows}
use Rattle.adj_interp_frame.specs.Called.{actuals_in, IsEntered}
use Rattle.adj_interp_frame.specs.Lent.{HasLender, IsFilled}
use Rattle.adj_interp_frame.proofs.Failing.{err_is}
use Rattle.adj_interp_frame.proofs.Entering.{entered_shown, set_each}
use Rattle.adj_interp_frame.proofs.frame.Frame.entry.Goals as goal
use Rattle.adj_interp_frame.proofs.frame.Frame.entry.Goals.{then-not-branch, else-not-branch}

pub loop-i-preserved : goal.loop-i-preserved
loop-i-preserved g c =
    let inv = c.loop-i.invariant in
    let i = c.loop-i.i in
    let slots = c.loop-i.slots.items in
    let v = c.renew.new.slot in
    let made = c.in_ok-renew.ensures in
    let vs = c.args.self.now.slots.items in
    let all = c.args.actuals.now in
    let r = c.args.routine.now in
    let names = c.args.self.now.names.now in
    let there : i < length slots = let n = inv.count in let m = c.loop-i-test.true in omega (arith, n, m) in
    record {
      count = length-set slots i v ∙ inv.count;
      full = λ all. elim c.if-not-branch.branch [
        | then-not-branch w ↦ let no = w.is_full-is in absurd cc
        | else-not-branch w ↦ set_each (λ k z. z.cells.items ≡ [] → ⊥) slots v i there (inv.full (sym w.is_full-is ∙ all)) (made.cells w.if-not-branch.false)
      ];
      lent = set_each (λ k z. z.cells.items ≡ [] → HasLender r all k) slots v i there inv.lent made.lent;
      sized = set_each (λ k z. (u : Slot _) → IsFilled vs all k z u → IsSlot u) slots v i there inv.sized made.sized;
      entered = set_each (λ k z. (u : Slot _) → IsFilled vs all k z u → (shape : Var → Shape) (s : Store _) → Shows g.N.Number.numbers names vs shape s → IsEntered g.N.Number.numbers r (actuals_in names shape s all) k u) slots v i there inv.entered made.entered;
      fits = λ shape s h. inv.fits shape s h ∙ made.fits shape s h;
    }

pub returns-clause-full : goal.returns-clause-full
returns-clause-full g c all k d lt = let n = c.loop-i.invariant.count in c.loop-i.invariant.full all k d (omega (arith, lt, n))

pub returns-clause-lent : goal.returns-clause-lent
returns-clause-lent g c k d lt = let n = c.loop-i.invariant.count in c.loop-i.invariant.lent k d (omega (arith, lt, n))

pub returns-clause-framed : goal.returns-clause-framed
returns-clause-framed g c us f =
    let inv = c.loop-i.invariant in
    let each : length c.args.routine.now.names ≡ length c.loop-i.slots.items = first_of (search rules, grind (arith, common_steps)) in
    let n = inv.count in
    let m = f.count in
    record {
      apart = c.requires.laid.apart;
      each = each ∙ sym f.count;
      sized = λ k d lt. inv.sized k d (omega (arith, lt, n, m)) (get_or us k d) (f.each k d d (omega (arith, lt, m)));
    }

pub returns-clause-shown : goal.returns-clause-shown
returns-clause-shown g c us f shape s h =
    let inv = c.loop-i.invariant in
    let each : length c.args.routine.now.names ≡ length c.loop-i.slots.items = first_of (search rules, grind (arith, common_steps)) in
    let n = inv.count in
    let m = f.count in
    entered_shown g.N.Number.numbers c.args.routine.now (actuals_in c.args.self.now.names.now shape s c.args.actuals.now) us c.requires.laid (each ∙ sym f.count)
    (λ k d lt. inv.entered k d (omega (arith, lt, each, n)) (get_or us k d) (f.each k d d (omega (arith, lt, each))) shape s h)

pub returns-in_err-renew : goal.returns-in_err-renew
returns-in_err-renew g c =
    rw (err_is c.from_residual-in_err-renew.result c.in_err-renew.field-0.0 c.from_residual-in_err-renew.ensures.1) (record {
      full = tt;
      lent = tt;
      framed = tt;
      shown = tt;
      fits = tt;
      unfit = λ q shape s h. let same : c.in_err-renew.field-0.0 ≡ why.Shape = cc in c.loop-i.invariant.fits shape s h ∙ c.in_err-renew.ensures.unfit (ap Err same) shape s h;
    })
