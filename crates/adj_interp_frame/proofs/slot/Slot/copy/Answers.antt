use Rattle.std.proofs.Common.{rules, ◌≡◌, ◌∙◌}
use Rattle.adj_interp_frame.proofs.slot.Slot.copy.Goals as goal

pub returns-clause-cells : goal.returns-clause-cells
returns-clause-cells g c =
    let all : c.as_slice.result.now ≡ c.args.self.now.cells.items = search rules in
    c.in_ok-cells.ensures.items ∙ all
