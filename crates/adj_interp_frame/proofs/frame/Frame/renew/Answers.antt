use Rattle.std.proofs.Common.{length, ap, sym, ◌∙◌}
use Rattle.def_meaning.specs.Store.{size_of}
use Rattle.adj_interp_frame.specs.Framed.{IsSlot}
use Rattle.adj_interp_frame.specs.Called.{actuals_in}
use Rattle.adj_interp_frame.proofs.Entering.{scalar_fit, no_extents, scalar_entered}
use Rattle.adj_interp_frame.proofs.Borrowing.{not_empty, own_slot, own_entered}
use Rattle.adj_interp_frame.proofs.frame.Frame.renew.Goals as goal

pub returns-in-Scalar-true-clause-cells : goal.returns-in-Scalar-true-clause-cells
returns-in-Scalar-true-clause-cells g c kept e =
    let v = c.hold.new.self in
    let sh = c.hold.ensures.shape in
    let sized : IsSlot v = ap length c.hold.ensures.cells ∙ ap size_of (sym sh) in
    absurd (not_empty v sized e)

pub returns-in-Scalar-true-clause-lent : goal.returns-in-Scalar-true-clause-lent
returns-in-Scalar-true-clause-lent g c e =
    let v = c.hold.new.self in
    let sh = c.hold.ensures.shape in
    let sized : IsSlot v = ap length c.hold.ensures.cells ∙ ap size_of (sym sh) in
    absurd (not_empty v sized e)

pub returns-in-Scalar-true-clause-sized : goal.returns-in-Scalar-true-clause-sized
returns-in-Scalar-true-clause-sized g c u f =
    let v = c.hold.new.self in
    let sh = c.hold.ensures.shape in
    let sized : IsSlot v = ap length c.hold.ensures.cells ∙ ap size_of (sym sh) in
    own_slot c.args.self.now.slots.items c.args.actuals.now c.args.i v u f sized

pub returns-in-Scalar-true-clause-entered : goal.returns-in-Scalar-true-clause-entered
returns-in-Scalar-true-clause-entered g c u f shape s h =
    let v = c.hold.new.self in
    let r = c.args.routine.now in
    let names = c.args.self.now.names.now in
    let sh = c.hold.ensures.shape in
    let sized : IsSlot v = ap length c.hold.ensures.cells ∙ ap size_of (sym sh) in
    own_entered g.N.Number.numbers c.args.self.now.slots.items c.args.actuals.now c.args.i v u f r names shape s sized
    (scalar_entered g.N.Number.numbers r c.requires.laid (actuals_in names shape s c.args.actuals.now) c.args.i c.index.result.now c.requires.there (sym c.index.ensures ∙ c.in-Scalar-true.is-0) v c.entry_word.result sh c.hold.ensures.cells (c.entry_word.ensures shape s h))

pub returns-in-Scalar-true-clause-fits : goal.returns-in-Scalar-true-clause-fits
returns-in-Scalar-true-clause-fits g c shape s h =
    let r = c.args.routine.now in
    let names = c.args.self.now.names.now in
    scalar_fit g.N.Number.numbers r c.requires.laid names shape s c.args.actuals.now c.args.i
    (no_extents g.N.Number.numbers r c.requires.laid (actuals_in names shape s c.args.actuals.now) c.args.i c.index.result.now c.requires.there (sym c.index.ensures ∙ c.in-Scalar-true.is-0))
