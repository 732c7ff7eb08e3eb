-- The number of the place of the name.
use Rattle.std.proofs.Common.{Some, ap, sym, ◌∙◌}
use Rattle.adj_flow.specs.Nodes.{number_at}
use Rattle.adj_flow.proofs.Naming.{placed}
use Rattle.adj_flow.proofs.end.End.node.Goals as goal

pub returns-in-None : goal.returns-in-None
returns-in-None c = record { node = ap (number_at c.args.width c.args.self.point) (sym c.in-None.is ∙ c.place.ensures.place ∙ sym (placed 0 c.args.self.part.now.variables.now c.args.self.name.now)) }

pub returns-in-Some : goal.returns-in-Some
returns-in-Some c = record {
  node = ap (λ n. Some n) c.node_at.ensures.node
      ∙ ap (number_at c.args.width c.args.self.point) (sym c.in-Some.is ∙ c.place.ensures.place ∙ sym (placed 0 c.args.self.part.now.variables.now c.args.self.name.now));
}
