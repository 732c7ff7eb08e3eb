use Rattle.std.proofs.Common.{ap, ◌∙◌}
use Rattle.adj_weave_units.proofs.source.units_of.Goals as goal

pub returns : goal.returns
returns c = record { units = c.as_slice.ensures.members ∙ ap (λ p. p.units) c.program.ensures.program; facts = c.program.ensures.facts }
