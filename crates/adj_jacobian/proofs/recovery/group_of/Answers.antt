use Rattle.std.proofs.Common.{rules, ◌≡◌, slice_index_or, sym, ◌∙◌}
use Rattle.adj_jacobian.proofs.Holding.{group_is}
use Rattle.adj_jacobian.proofs.recovery.group_of.Goals as goal

pub returns : goal.returns
returns c =
    let at : c.unwrap_or.result ≡ slice_index_or c.args.groups.now c.args.column 0 = search rules in
    at ∙ sym (group_is c.args.groups.now c.args.column)
