use Rattle.std.proofs.Common.{refl}
use Rattle.law_tangent_carried.proofs.Nesting.{keeps_nesting}
use Rattle.law_tangent_carried.proofs.Depths.{keeps_depth}
use Rattle.law_tangent_carried.proofs.Written.{tangent_is_written}
use Rattle.law_tangent_carried.proofs.text.text_law.Goals as goal

pub returns-clause-written : goal.returns-clause-written
returns-clause-written c = tangent_is_written

pub returns-clause-nesting : goal.returns-clause-nesting
returns-clause-nesting c = keeps_nesting

pub returns-clause-worked : goal.returns-clause-worked
returns-clause-worked c = refl

pub returns-clause-depth : goal.returns-clause-depth
returns-clause-depth c = keeps_depth
