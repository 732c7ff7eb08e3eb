use Rattle.std.proofs.Common.{◌≡◌, ◌++◌}
use Rattle.adj_data.specs.Sample.{draws_text, state_after}
use Rattle.adj_data.proofs.sampling.push_draws.Given as goal

abbrev pub invariant-loop : goal.invariant-loop
invariant-loop l = record {
  text : l.out.items ≡ l.initial.out.items ++ draws_text l.first l.counter;
  state : l.state ≡ state_after l.first l.counter;
}
