use Rattle.adj_parse.proofs.TextReads.{derived, answered, fits}
use Rattle.adj_parse.proofs.laws.trees_are_derived.Goals as goal

pub returns : goal.returns
returns c = record { sound = derived; complete = answered; fits = fits }
