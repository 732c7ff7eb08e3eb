use Rattle.std.proofs.Common.{◌∙◌, not, sym, ap}
use Rattle.std.specs.Prelude.{◌&&◌, ◌||◌}
use Rattle.adj_sweep.specs.Uses.{plan_by}
use Rattle.adj_sweep.proofs.BranchParts.{uses_if}
use Rattle.adj_sweep.proofs.uses.Known.branch.Goals as goal

pub returns-else-not-emitted : goal.returns-else-not-emitted
returns-else-not-emitted c =
    let u = c.args.first in
    let v = c.args.second in
    let w = c.with_next-used.ensures in
    record {
      uses = λ r arrays callees d t a b ha hb.
          uses_if r (plan_by c.args.self.now arrays callees) d c.args.number t a b u v _ ha hb
          (w.idle ∙ ap (λ z. not z || (u.idle && v.idle)) (sym (sym c.emitted.ensures.emitted ∙ c.if-not-emitted.false)))
          (ap not w.idle) w.works w.temps w.depth w.number;
    }
