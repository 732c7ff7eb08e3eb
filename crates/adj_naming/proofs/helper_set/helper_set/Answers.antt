use Rattle.std.proofs.Common.{get_or}
use Rattle.adj_naming.specs.declared.role.Role.TheVariants.{Work}
use Rattle.adj_naming.specs.declared.role.Helper.{Helper}
use Rattle.adj_naming.proofs.Helpers.{next_added}
use Rattle.adj_naming.proofs.Places.{get_or_any}
use Rattle.adj_naming.proofs.helper_set.helper_set.Goals as goal

pub loop-helper-preserved : goal.loop-helper-preserved
loop-helper-preserved c =
    let hs = c.args.helpers.now in
    let i = c.loop-helper.helper-index in
    let missing : Helper = record { role = Work; number = 0 } in
    let h = get_or hs i missing in
    next_added c.loop-helper.set hs c.add.new.self h i c.requires.different c.loop-helper.invariant c.loop-helper-test.true (get_or_any hs i missing h c.loop-helper-test.true) c.in_ok-add.ensures.added
