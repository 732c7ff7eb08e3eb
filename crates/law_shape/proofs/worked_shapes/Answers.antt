use Rattle.law_shape.proofs.Worked.{emitted_so, emitted_shaped, all_kept_so}
use Rattle.law_shape.proofs.worked_shapes.Goals as goal

pub returns-clause-emitted : goal.returns-clause-emitted
returns-clause-emitted c = emitted_so

pub returns-clause-shaped : goal.returns-clause-shaped
returns-clause-shaped c = emitted_shaped

pub returns-clause-all_kept : goal.returns-clause-all_kept
returns-clause-all_kept c = all_kept_so
