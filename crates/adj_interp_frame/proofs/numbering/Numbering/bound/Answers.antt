use Rattle.adj_interp_frame.proofs.Failing.{err_is}
use Rattle.adj_interp_frame.proofs.numbering.Numbering.bound.Goals as goal

pub returns-in_err-number-in-Dummy : goal.returns-in_err-number-in-Dummy
returns-in_err-number-in-Dummy c = rw (err_is c.from_residual.result c.in_err-number-in-Dummy.field-0.0 c.from_residual.ensures.1) (record { extends = tt; apart = tt; resolves = tt })
