use Rattle.std.proofs.Common.{◌≡◌, suc, ap₂, ◌∙◌, arith}
use Rattle.adj_interp.specs.Tallied.{with_entry}
use Rattle.adj_interp.proofs.machine.Machine.count_entry.Goals as goal

pub returns-clause-told : goal.returns-clause-told
returns-clause-told g c name shapes =
    let m = c.args.self.now in
    let one = c.in-Some.ensures.1 in
    let level : c.in-Some.level ≡ suc c.args.self.now.level = omega (arith, one) in
    c.in_ok-enter.ensures name shapes ∙ ap₂ (λ a b. with_entry a b m.tally.log m.tally.begun) level c.len-height.ensures
