use Rattle.std.proofs.Common.{sym, subst}
use Rattle.std.proofs.lemmas.Result.{err_from_is_err_and}
use Rattle.std.proofs.lemmas.Bool.{eqb-true}
use Rattle.def_text.specs.Limits.{limits_of}
use Rattle.def_text.specs.Refused.{Gives}
use Rattle.adj_fixed.specs.View.{all_lines, pass_of}
use Rattle.adj_fixed.proofs.Passes.{over_end, over_data, over_more, over_fails}
use Rattle.adj_fixed.proofs.lined.lines_of.Goals as goal

pub returns-in_err-line : goal.returns-in_err-line
returns-in_err-line c =
    let p = err_from_is_err_and c.from_residual.result c.from_residual.ensures.1 in
    rw (p.1, p.2) (over_fails (limits_of c.args.mode) (pass_of c.loop-rest.reader) c.loop-rest.number c.loop-rest.rest.now _ c.loop-rest.invariant _ _ _ c.split_line.ensures.lines c.without_cr-line.ensures c.in_err-line.field-0.0 (sym c.if-is_data.ensures) c.in_err-line.ensures)

pub loop-rest-preserved : goal.loop-rest-preserved
loop-rest-preserved c = over_more (limits_of c.args.mode) (pass_of c.loop-rest.reader) c.loop-rest.number c.loop-rest.rest.now _ c.loop-rest.invariant _ _ _ c.split_line.ensures.lines c.without_cr-line.ensures _ _ (sym c.if-is_data.ensures) c.in_ok-line.ensures c.next_number-number.ensures

pub returns-then-is_data : goal.returns-then-is_data
returns-then-is_data c =
    subst (λ r. Gives (λ v. all_lines v.items) c.finish.result r) (over_data (limits_of c.args.mode) (pass_of c.loop-rest.reader) c.loop-rest.number c.loop-rest.rest.now _ c.loop-rest.invariant _ _ _ c.split_line.ensures.lines c.without_cr-line.ensures (sym c.if-is_data.ensures)) c.finish.ensures

pub returns : goal.returns
returns c =
    subst (λ r. Gives (λ v. all_lines v.items) c.finish-2.result r) (over_end (limits_of c.args.mode) (pass_of c.loop-rest.reader) c.loop-rest.number c.loop-rest.rest.now _ c.loop-rest.invariant (eqb-true _ _ (sym c.loop-rest-test.ensures))) c.finish-2.ensures
