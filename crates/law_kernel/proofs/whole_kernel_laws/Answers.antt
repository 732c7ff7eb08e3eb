-- Each law is a lemma, over words and over words with tangents.
use Rattle.std.specs.Prelude.{ℤ}
use Rattle.std.proofs.Common.{refl}
use Rattle.law_kernel.proofs.WholeKernels.{whole_units, whole_means_alike, whole_kernel_form, whole_written}
use Rattle.law_kernel.proofs.whole_kernel_laws.Goals as goal

pub returns-clause-shown : goal.returns-clause-shown
returns-clause-shown c = (record { shows = λ z. refl }, record { shows = λ z. refl })

pub returns-clause-means_alike : goal.returns-clause-means_alike
returns-clause-means_alike c = (whole_means_alike {C = ℤ}, whole_means_alike {C = ℤ × ℤ})

pub returns-clause-form : goal.returns-clause-form
returns-clause-form c units source = whole_kernel_form ℤ units source

pub returns-clause-written_same : goal.returns-clause-written_same
returns-clause-written_same c units source = whole_written ℤ units source

pub returns-clause-units : goal.returns-clause-units
returns-clause-units c = whole_units
