use Rattle.std.proofs.Common.{get_or, sym, ap, ◌∙◌}
use Rattle.adj_interp_frame.specs.Framed.{zero_in}
use Rattle.adj_interp_frame.specs.declared.slot.Slot.{Slot}
use Rattle.adj_interp_frame.proofs.Reading.{has_first}
use Rattle.adj_interp_frame.proofs.Giving.{shown_cell}
use Rattle.adj_interp_frame.proofs.frame.Frame.first_of.Goals as goal

pub returns-in-Whole : goal.returns-in-Whole
returns-in-Whole g c shape s h =
    let names = c.args.self.now.names.now in
    let vs = c.args.self.now.slots.items in
    let i = c.in-Whole.i in
    let v = c.index.result.now in
    let below = rw c.in-Whole.is at c.requires.below in
    rw c.in-Whole.is (c.first.ensures ∙ ap (λ (w : Slot _). get_or w.cells.items 0 (zero_in g.N.Number.numbers)) c.index.ensures
    ∙ sym (shown_cell g.N.Number.numbers names vs shape s h i v 0 c.requires.framed below (has_first (get_or vs i v) (c.requires.framed.sized i v below))))
