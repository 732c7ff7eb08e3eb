use Rattle.adj_interp_frame.proofs.Borrowing.{filled_alone, lent_none}
use Rattle.adj_interp_frame.proofs.frame.Frame.fill.Goals as goal

pub returns-then-is_full-clause-filled : goal.returns-then-is_full-clause-filled
returns-then-is_full-clause-filled g c r l = filled_alone c.args.self.now.slots.items c.args.actuals.now c.args.slots.now (c.requires.full c.if-is_full.true)

pub returns-then-is_full-clause-lent : goal.returns-then-is_full-clause-lent
returns-then-is_full-clause-lent g c r l = lent_none r c.args.actuals.now c.args.self.now.names.now c.args.self.now.slots.items c.requires.framed
