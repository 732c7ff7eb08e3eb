use Rattle.std.proofs.Common.{ap, ◌∙◌}
use Rattle.std.specs.List.{flat_map}
use Rattle.adj_plan.specs.View.{row_lines}
use Rattle.adj_plan.proofs.Saying.{rows_lines}
use Rattle.adj_plan.proofs.lines.plan_text.Goals as goal

pub returns : goal.returns
returns c =
    let f = c.args.planned.now.flow in
    let t = c.args.planned.now.marks in
    record { text = c.in_ok-text.ensures.lines ∙ ap (flat_map (row_lines t f.width f.taking)) c.requires.rows ∙ rows_lines f t }
