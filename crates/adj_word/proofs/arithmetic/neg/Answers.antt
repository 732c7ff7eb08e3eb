-- The bits of the result are those of the residue.
use Rattle.std.proofs.Common.{rules}
use Rattle.std.proofs.lemmas.Int.{wraps}
use Rattle.adj_word.proofs.arithmetic.neg.Goals as goal

pub returns : goal.returns
returns c = search (rules, wraps)
