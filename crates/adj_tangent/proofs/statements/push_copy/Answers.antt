use Rattle.adj_tree.specs.View.{act_of}
use Rattle.adj_sweep_assignment.proofs.Onto.{steps_pushed}
use Rattle.adj_tangent.proofs.statements.push_copy.Goals as goal

pub returns : goal.returns
returns c = record { steps = λ rest. steps_pushed c.args.steps.now.items c.push.new.self.items c.in_ok-copied.copied c.args.stmt.now.line (act_of c.args.stmt.now.act) rest c.in_ok-push.ensures.items c.in_ok-copied.ensures.line c.in_ok-copied.ensures.equal }
