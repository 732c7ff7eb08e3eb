-- Runs don't depend on line numbers, and an adjoint is told by runs.
use Rattle.law_sweep.proofs.Lines.{other_lines}
use Rattle.law_sweep.proofs.lines_law.Goals as goal

pub returns : goal.returns
returns c = record { other_lines = other_lines }
