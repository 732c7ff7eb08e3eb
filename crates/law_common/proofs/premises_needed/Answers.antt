use Rattle.law_common.proofs.Worked.{clash, naming}
use Rattle.law_common.proofs.premises_needed.Goals as goal

pub returns-clause-clash : goal.returns-clause-clash
returns-clause-clash c = clash

pub returns-clause-naming : goal.returns-clause-naming
returns-clause-naming c = naming
