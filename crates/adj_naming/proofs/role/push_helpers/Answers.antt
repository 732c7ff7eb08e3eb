use Rattle.std.proofs.Common.{◌++◌, ◌+◌, ◌-◌, suc, map, ap, ◌∙◌}
use Rattle.def_sweep.specs.Declared.{helpers_from}
use Rattle.adj_naming.specs.Roles.{role_of, variable_of}
use Rattle.adj_naming.proofs.Different.{helper_pushed}
use Rattle.adj_naming.proofs.role.push_helpers.Goals as goal

pub loop-done-preserved : goal.loop-done-preserved
loop-done-preserved c =
    let r = role_of c.args.role in
    let done = c.loop-done.done in
    let left = c.args.count - (done + 1) in
    ap (λ hs. map variable_of hs ++ helpers_from r (suc (done + 1)) left) c.in_ok-push.ensures.items
    ∙ helper_pushed c.args.role c.loop-done.made.items done c.args.count c.loop-done-test.true
    ∙ c.loop-done.invariant
