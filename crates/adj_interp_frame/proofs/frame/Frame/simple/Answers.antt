use Rattle.std.proofs.Common.{get_or, Ok, ap, sym, ◌∙◌}
use Rattle.adj_interp_frame.specs.declared.slot.Slot.{Slot}
use Rattle.adj_interp_frame.specs.Framed.{zero_in}
use Rattle.adj_interp_frame.proofs.Reading.{read_cell}
use Rattle.adj_interp_frame.proofs.frame.Frame.simple.Goals as goal

pub returns-in-Var : goal.returns-in-Var
returns-in-Var g c =
    let names = c.args.self.now.names.now in
    let vs = c.args.self.now.slots.items in
    let i = c.in-Var.i in
    let v = c.index.result.now in
    let below = rw c.in-Var.is at c.requires.below in
    record {
      value = rw c.in-Var.is (ap Ok (c.first.ensures ∙ ap (λ (w : Slot _). get_or w.cells.items 0 (zero_in g.N.Number.numbers)) c.index.ensures ∙ sym (read_cell g.N.Number.numbers names vs i v 0 c.requires.framed below)));
    }
