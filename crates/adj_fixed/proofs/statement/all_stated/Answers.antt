use Rattle.std.proofs.Common.{◌∙◌, arith}
use Rattle.std.proofs.lemmas.Iterator.Adapters.{YieldsList-from_vec}
use Rattle.std.proofs.lemmas.Iterator.Consumers.{YieldsList-turn, YieldsList-end}
use Rattle.std.proofs.lemmas.List.{length_push}
use Rattle.std.proofs.lemmas.Result.{err_from_is_err_and}
use Rattle.def_text.specs.Limits.{limits_of}
use Rattle.adj_fixed.proofs.Stating.{over_end, over_more, over_fails}
use Rattle.adj_fixed.proofs.statement.all_stated.Goals as goal

pub returns-in_err-stated : goal.returns-in_err-stated
returns-in_err-stated c =
    let gives = c.into_iter-lined-iterator.ensures.into_iter_gives in
    let here = YieldsList-turn (YieldsList-from_vec {s = c.into_iter-lined-iterator.result} c.args.lines.items gives.0 (gives.1 ∙ c.args.lines.ok.0)) c.loop-lined.yielded c.loop-lined.lined-iterator c.loop-lined.yielded_by c.next.result c.next.new.self c.in-Some.lined c.in-Some.is c.next.ensures.steps in
    let p = err_from_is_err_and c.from_residual.result c.from_residual.ensures.1 in
    rw (p.1, p.2) (over_fails (limits_of c.args.mode) c.args.lines.items _ c.loop-lined.all.items _ c.loop-lined.invariant c.in-Some.lined here c.in_err-stated.field-0.0 c.in_err-stated.ensures)

pub loop-lined-preserved : goal.loop-lined-preserved
loop-lined-preserved c =
    let gives = c.into_iter-lined-iterator.ensures.into_iter_gives in
    let here = YieldsList-turn (YieldsList-from_vec {s = c.into_iter-lined-iterator.result} c.args.lines.items gives.0 (gives.1 ∙ c.args.lines.ok.0)) c.loop-lined.yielded c.loop-lined.lined-iterator c.loop-lined.yielded_by c.next.result c.next.new.self c.in-Some.lined c.in-Some.is c.next.ensures.steps in
    rw (c.in_ok-push.ensures.items, length_push c.loop-lined.yielded c.in-Some.lined) (over_more (limits_of c.args.mode) c.args.lines.items _ c.loop-lined.all.items _ c.loop-lined.invariant c.in-Some.lined here c.in_ok-stated.field-0 c.in_ok-stated.ensures)

pub returns : goal.returns
returns c =
    let gives = c.into_iter-lined-iterator.ensures.into_iter_gives in
    let past = YieldsList-end (YieldsList-from_vec {s = c.into_iter-lined-iterator.result} c.args.lines.items gives.0 (gives.1 ∙ c.args.lines.ok.0)) c.loop-lined.yielded c.loop-lined.lined-iterator c.loop-lined.yielded_by c.next.result c.next.new.self c.in-None.is c.next.ensures.steps in
    over_end (limits_of c.args.mode) c.args.lines.items _ c.loop-lined.all.items _ c.loop-lined.invariant (omega (arith, past.1))
