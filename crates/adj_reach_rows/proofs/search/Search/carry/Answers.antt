use Rattle.std.proofs.Common.{get_or, refl}
use Rattle.adj_reach_rows.proofs.Following.{carried_more}
use Rattle.adj_reach_rows.proofs.search.Search.carry.Goals as goal

pub loop-place-preserved : goal.loop-place-preserved
loop-place-preserved c =
    carried_more c.args.self.now.words c.args.taken.now c.args.rows.now c.args.arc c.loop-place.place (get_or c.args.taken.now c.loop-place.place 0) c.word.result c.others.result refl c.word.ensures c.others.ensures
    c.args.self.now c.loop-place.self c.mark.new.self c.loop-place.invariant.words c.loop-place.invariant c.in_ok-mark.ensures.grown
