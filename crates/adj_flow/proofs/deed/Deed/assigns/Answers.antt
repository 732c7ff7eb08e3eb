use Rattle.std.proofs.Common.{ap, sym, ◌∙◌}
use Rattle.adj_tree.specs.Code.{plain}
use Rattle.def_flow.specs.Ways.{assigned_on}
use Rattle.adj_flow.specs.WayView.{deed_of}
use Rattle.adj_flow.proofs.Naming.{named}
use Rattle.adj_flow.proofs.deed.Deed.assigns.Goals as goal

pub returns-in-Assigning : goal.returns-in-Assigning
returns-in-Assigning c = record { is = named c.equals.result c.in-Assigning.other.now c.args.name.now c.equals.ensures.equal ∙ ap (λ d. assigned_on (deed_of d) (plain c.args.name.now)) (sym c.in-Assigning.is) }
