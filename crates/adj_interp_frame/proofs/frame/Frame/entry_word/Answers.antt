use Rattle.std.proofs.Common.{length, sym, ◌∙◌}
use Rattle.adj_interp_frame.proofs.Entering.{given_below, given_cells, none_cells}
use Rattle.adj_interp_frame.proofs.frame.Frame.entry_word.Goals as goal

pub first_of-requires-clause-below : goal.first_of-requires-clause-below
first_of-requires-clause-below g c = given_below c.args.self.now.slots.items (length c.args.routine.now.unit.now.dummies) c.args.actuals.now c.args.i c.in-Some.actual c.requires.below (sym c.given.ensures ∙ c.in-Some.is)

pub returns-in-Some : goal.returns-in-Some
returns-in-Some g c shape s h =
    c.first_of.ensures shape s h
    ∙ sym (given_cells g.N.Number.numbers c.args.routine.now c.requires.laid c.args.self.now.names.now shape s c.args.actuals.now c.args.i c.requires.there c.in-Some.actual 0 (sym c.given.ensures ∙ c.in-Some.is))

pub returns-in-None : goal.returns-in-None
returns-in-None g c shape s h = c.of_word.ensures ∙ sym (none_cells g.N.Number.numbers c.args.routine.now c.requires.laid c.args.self.now.names.now shape s c.args.actuals.now c.args.i c.requires.there 0 (sym c.given.ensures ∙ c.in-None.is))
