use Rattle.std.proofs.Common.{sym, ap, ◌∙◌}
use Rattle.std.specs.Prelude.{◌==◌}
use Rattle.adj_jacobian.proofs.Holding.{in_group_at, in_group_past}
use Rattle.adj_jacobian.proofs.directions.is_in.Goals as goal

pub returns-in-Some : goal.returns-in-Some
returns-in-Some c =
    let found = c.in-Some.ensures.lookup in
    ap (λ h. h == c.args.group) found.1 ∙ sym (in_group_at c.args.groups.now c.args.group c.args.column c.in-Some.own.now found.3.0)

pub returns-in-None : goal.returns-in-None
returns-in-None c = sym (in_group_past c.args.groups.now c.args.group c.args.column c.in-None.ensures.lookup.3)
