use Rattle.adj_norm_statement.proofs.Onto.{writes_pushed}
use Rattle.adj_norm_statement.proofs.step.write.Goals as goal

pub returns : goal.returns
returns c = record { written = writes_pushed c.args.steps.now.items c.push.new.self.items _ c.in_ok-push.ensures.items }
