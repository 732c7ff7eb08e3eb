-- Each law is a lemma, over words and over words with tangents.
use Rattle.std.specs.Prelude.{ℤ}
use Rattle.law_meaning.proofs.Unlined.{runs_unlined, runs_alike, fits_alike}
use Rattle.law_meaning.proofs.laws.line_laws.Goals as goal

pub returns-clause-unlined : goal.returns-clause-unlined
returns-clause-unlined c = (runs_unlined {C = ℤ}, runs_unlined {C = ℤ × ℤ})

pub returns-clause-runs_alike : goal.returns-clause-runs_alike
returns-clause-runs_alike c = (runs_alike {C = ℤ}, runs_alike {C = ℤ × ℤ})

pub returns-clause-fits_alike : goal.returns-clause-fits_alike
returns-clause-fits_alike c = (fits_alike {C = ℤ}, fits_alike {C = ℤ × ℤ})
