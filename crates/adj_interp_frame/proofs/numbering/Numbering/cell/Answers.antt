use Rattle.adj_interp_frame.proofs.Failing.{err_is}
use Rattle.adj_interp_frame.proofs.Resolving.{extends_on, resolves_on}
use Rattle.adj_interp_frame.proofs.numbering.Numbering.cell.Goals as goal

pub returns : goal.returns
returns c =
    let r1 = c.in_ok-variable.ensures in
    let r2 = c.in_ok-subs.ensures in
    record {
      extends = extends_on _ _ _ r1.extends r2.extends;
      variable = resolves_on _ _ _ _ _ _ r2.extends r1.resolves;
      subs = r2.resolves;
    }

pub returns-in_err-variable : goal.returns-in_err-variable
returns-in_err-variable c = rw (err_is c.from_residual.result c.in_err-variable.field-0.0 c.from_residual.ensures.1) (record { extends = tt; variable = tt; subs = tt })

pub returns-in_err-subs : goal.returns-in_err-subs
returns-in_err-subs c = rw (err_is c.from_residual-in_err-subs.result c.in_err-subs.field-0.0 c.from_residual-in_err-subs.ensures.1) (record { extends = tt; variable = tt; subs = tt })
