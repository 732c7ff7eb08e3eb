-- Words do as words with tangents do.
use Rattle.std.specs.Prelude.{ℤ}
use Rattle.law_meaning.proofs.Projected.{run_projected, tangents_forgotten}
use Rattle.law_meaning.proofs.laws.dual_laws.Goals as goal

pub returns-clause-projected : goal.returns-clause-projected
returns-clause-projected c = run_projected {C = ℤ × ℤ} {D = ℤ}

pub returns-clause-forgotten : goal.returns-clause-forgotten
returns-clause-forgotten c = tangents_forgotten
