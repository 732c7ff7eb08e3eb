use Rattle.std.proofs.Common.{rules, ◌≡◌, take, List, sym, subst, Vec, Global}
use Rattle.std.specs.Prelude.{Err}
use Rattle.def_meaning.specs.Units.{Actual, actual_of, actuals}
use Rattle.adj_interp_frame.specs.declared.actual.Actual.{Actual as CodeActual}
use Rattle.adj_interp_frame.specs.Prepared.{term_in, terms_in}
use Rattle.adj_interp_frame.specs.Shown.{on_numbers}
use Rattle.adj_interp_frame.specs.Called.{actual_in, actuals_in}
use Rattle.adj_interp.specs.Entered.{Gets}
use Rattle.adj_interp.proofs.Calling.{actual_breaks}
use Rattle.adj_interp.proofs.machine.Machine.actuals.Goals as goal

pub returns-in_err-actual-clause-actuals : goal.returns-in_err-actual-clause-actuals
returns-in_err-actual-clause-actuals g c shape room level s h =
    let names = c.args.self.now.frame.names.now in
    let n = on_numbers g.N.Number.numbers shape room level in
    let x = c.in_err-actual.field-0.0 in
    let r : c.from_residual.result ≡ Err c.in_err-actual.field-0.0 = search rules in
    let all : Vec (CodeActual g.row.N.Denot) Global → List (Actual g.row.N.Denot) = λ v. actuals_in names shape s v.items in
    let whole = actuals n (terms_in names c.args.terms.now) s in
    let got = rw c.in-More.is at (c.loop-current.invariant.got shape room level s h) in
    let one = subst (λ t. Gets (actual_in names shape s) c.args.line (actual_of n (term_in names t) s) (Err x)) c.deref.ensures (c.in_err-actual.ensures.actual shape room level s h) in
    subst (Gets all c.args.line whole) (sym r)
    (actual_breaks whole (actual_of n (term_in names c.in-More.first.value) s) (actuals n (terms_in names c.in-More.rest.value) s) (actuals_in names shape s (take c.loop-current.count c.loop-current.list.items)) (actual_in names shape s) all c.args.line x got one)
