use Rattle.std.proofs.Common.{get_or}
use Rattle.def_meaning.specs.Value.{values}
use Rattle.adj_interp_frame.specs.Prepared.{terms_in}
use Rattle.adj_interp_frame.specs.Framed.{store_in, setting_in_slots}
use Rattle.adj_interp_frame.proofs.Reading.{has_first, found_there}
use Rattle.adj_interp_frame.proofs.frame.Frame.target.Goals as goal

pub returns-in-Empty-clause-within : goal.returns-in-Empty-clause-within
returns-in-Empty-clause-within g c d = has_first (get_or c.args.self.now.slots.items c.args.i d) (c.requires.framed.sized c.args.i d c.requires.there)

pub returns-in-More-clause-within : goal.returns-in-More-clause-within
returns-in-More-clause-within g c =
    let names = c.args.self.now.names.now in
    let vs = c.args.self.now.slots.items in
    found_there g.N.Number.numbers names vs c.args.i (values (setting_in_slots g.N.Number.numbers names vs) (terms_in names c.args.subs.now) (store_in g.N.Number.numbers names vs)) c.requires.framed c.requires.there c.cell.result c.cell.ensures.cell
