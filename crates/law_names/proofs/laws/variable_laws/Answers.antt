use Rattle.def_names.specs.Variables.{places}
use Rattle.def_names.proofs.Lists.{first_places-apart, first_places-stand}
use Rattle.law_names.proofs.laws.variable_laws.Goals as goal

pub returns-clause-apart : goal.returns-clause-apart
returns-clause-apart c u = first_places-apart (places u)

pub returns-clause-stand : goal.returns-clause-stand
returns-clause-stand c u x = first_places-stand x (places u)
