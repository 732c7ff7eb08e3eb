use Rattle.adj_interp_frame.proofs.Failing.{err_is}
use Rattle.adj_interp_frame.proofs.Resolving.{extends_on, resolves_on}
use Rattle.adj_interp_frame.proofs.numbering.Numbering.two.Goals as goal

pub returns : goal.returns
returns c =
    let r1 = c.in_ok-first.ensures in
    let r2 = c.in_ok-second.ensures in
    record {
      extends = extends_on _ _ _ r1.extends r2.extends;
      first = resolves_on _ _ _ _ _ _ r2.extends r1.resolves;
      second = r2.resolves;
    }

pub returns-in_err-first : goal.returns-in_err-first
returns-in_err-first c = rw (err_is c.from_residual.result c.in_err-first.field-0.0 c.from_residual.ensures.1) (record { extends = tt; first = tt; second = tt })

pub returns-in_err-second : goal.returns-in_err-second
returns-in_err-second c = rw (err_is c.from_residual-in_err-second.result c.in_err-second.field-0.0 c.from_residual-in_err-second.ensures.1) (record { extends = tt; first = tt; second = tt })
