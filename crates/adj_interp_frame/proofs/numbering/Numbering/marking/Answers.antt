use Rattle.adj_interp_frame.proofs.Failing.{err_is}
use Rattle.adj_interp_frame.proofs.numbering.Numbering.marking.Goals as goal

pub returns-in_err-variable-in-From : goal.returns-in_err-variable-in-From
returns-in_err-variable-in-From c = rw (err_is c.from_residual.result c.in_err-variable-in-From.field-0.0 c.from_residual.ensures.1) (record { extends = tt; resolves = tt })
