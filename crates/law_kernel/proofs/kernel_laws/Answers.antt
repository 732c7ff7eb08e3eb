-- The laws are lemmas, over words and over words with tangents.
use Rattle.std.specs.Prelude.{ℤ}
use Rattle.law_kernel.proofs.Costs.{lowered_means}
use Rattle.law_kernel.proofs.Inputs.{inputs_same}
use Rattle.law_kernel.proofs.kernel_laws.Goals as goal

pub returns-clause-means_the_same : goal.returns-clause-means_the_same
returns-clause-means_the_same c = (lowered_means {C = ℤ}, lowered_means {C = ℤ × ℤ})

pub returns-clause-fits_the_same : goal.returns-clause-fits_the_same
returns-clause-fits_the_same c = (inputs_same {C = ℤ}, inputs_same {C = ℤ × ℤ})
