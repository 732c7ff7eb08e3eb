use Rattle.std.proofs.Common.{ap, sym, ◌∙◌}
use Rattle.adj_tree.specs.Code.{plain}
use Rattle.def_flow.specs.Uses.{turned_by}
use Rattle.adj_flow.specs.View.{place_of}
use Rattle.adj_flow.proofs.Naming.{named}
use Rattle.adj_flow.proofs.place.Place.turns.Goals as goal

pub returns-in-TurnOf : goal.returns-in-TurnOf
returns-in-TurnOf c = record { is = named c.equals.result c.in-TurnOf.variable.now c.args.name.now c.equals.ensures.equal ∙ ap (λ p. turned_by (place_of p) (plain c.args.name.now)) (sym c.in-TurnOf.is) }
