use Rattle.std.proofs.Common.{refl, arith}
use Rattle.adj_reach_rows.proofs.Taking.{taking_none, took_all}
use Rattle.adj_reach_rows.proofs.search.Search.take.Goals as goal

pub loop-place-init : goal.loop-place-init
loop-place-init c = taking_none c.args.row c.args.self.now c.args.taken.now

pub returns : goal.returns
returns c = record { took = took_all c.args.row c.loop-place.place c.args.self.now c.loop-place.self _ c.loop-place.taken c.loop-place.invariant c.requires.fits.some (omega arith) refl refl refl refl refl }
