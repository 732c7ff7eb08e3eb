use Rattle.std.proofs.Common.{sym, ap, ◌∙◌}
use Rattle.adj_flow.specs.Rows.{row_of}
use Rattle.adj_flow.specs.WayView.{deed_of}
use Rattle.adj_flow.proofs.Naming.{placed}
use Rattle.adj_flow.specs.UnitRows.{assigned_at}
use Rattle.adj_flow.proofs.unit_rows.assigned_place.Goals as goal

pub returns-in-Assigning : goal.returns-in-Assigning
returns-in-Assigning c = c.place.ensures.place ∙ sym (placed 0 c.args.part.now.variables.now c.in-Assigning.name.now) ∙ ap (λ d. assigned_at (row_of c.args.part.now) (deed_of d)) (sym c.in-Assigning.is)
