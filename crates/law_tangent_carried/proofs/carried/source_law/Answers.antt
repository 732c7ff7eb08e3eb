use Rattle.law_tangent_carried.proofs.Through.{kernels_tangent, accepted_is_tangent}
use Rattle.law_tangent_carried.proofs.Lines.{other_lines, accepted_reads}
use Rattle.law_tangent_carried.proofs.carried.source_law.Goals as goal

pub returns-clause-kernels : goal.returns-clause-kernels
returns-clause-kernels c = kernels_tangent

pub returns-clause-accepted : goal.returns-clause-accepted
returns-clause-accepted c = accepted_is_tangent

pub returns-clause-other_lines : goal.returns-clause-other_lines
returns-clause-other_lines c = other_lines

pub returns-clause-read : goal.returns-clause-read
returns-clause-read c = accepted_reads
