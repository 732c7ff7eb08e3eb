use Rattle.std.proofs.Common.{◌*◌}
use Rattle.adj_flow.proofs.UnitSetting.{set_some, set_none}
use Rattle.adj_flow.proofs.unit_rows.set_place.Goals as goal

pub returns-in-Some-clause-bits : goal.returns-in-Some-clause-bits
returns-in-Some-clause-bits c = set_some c.args.rows.now.bits.items c.set.new.self.bits.items (c.args.row * c.args.rows.now.words * 64) c.in-Some.place c.args.place c.in-Some.is c.set.ensures.bits

pub returns-in-None-clause-bits : goal.returns-in-None-clause-bits
returns-in-None-clause-bits c = set_none c.args.rows.now.bits.items (c.args.row * c.args.rows.now.words * 64) c.args.place c.in-None.is
