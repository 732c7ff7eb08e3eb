use Rattle.law_tangent.proofs.FoundUnits.{tangents_there, still_there}
use Rattle.law_tangent.proofs.emitted_law.Goals as goal

pub returns-clause-tangents : goal.returns-clause-tangents
returns-clause-tangents c = tangents_there

pub returns-clause-others : goal.returns-clause-others
returns-clause-others c = still_there
