use Rattle.std.proofs.Common.{arith}
use Rattle.adj_interp_frame.proofs.Failing.{err_is}
use Rattle.adj_interp_frame.proofs.preparation.listed.Goals as goal

pub returns-clause-longer : goal.returns-clause-longer
returns-clause-longer c =
    let count = c.len.ensures in
    let longer = c.in_ok-fill.ensures.longer in
    omega (arith, count, longer)

pub returns-clause-few : goal.returns-clause-few
returns-clause-few c n most was = let count = c.len.ensures in c.in_ok-fill.ensures.few n (omega (arith, count, most)) was

pub returns-in_err-fill : goal.returns-in_err-fill
returns-in_err-fill c = rw (err_is c.from_residual.result c.in_err-fill.field-0.0 c.from_residual.ensures.1) (record { names = tt; apart = tt; same = tt; longer = tt; few = tt })

pub returns-in_err-names : goal.returns-in_err-names
returns-in_err-names c = rw (err_is c.from_residual-in_err-names.result c.in_err-names.field-0.0 c.from_residual-in_err-names.ensures.1) (record { names = tt; apart = tt; same = tt; longer = tt; few = tt })
