-- Each clause is a law of the kit.
use Rattle.adj_word.proofs.DotProducts.{dot_comm, dot-added, dot-scaled, dot-append, dot-set}
use Rattle.adj_word.proofs.laws.dot_laws.Goals as goal

pub returns : goal.returns
returns c = record { turned = dot_comm; sums = dot-added; multiples = dot-scaled; joined = dot-append; changed = dot-set }
