use Rattle.law_examples.proofs.Refusals.{unknown, malformed, long_names}
use Rattle.law_examples.proofs.texts.statement_refusals.Goals as goal

pub returns-clause-unknown : goal.returns-clause-unknown
returns-clause-unknown c = unknown

pub returns-clause-malformed : goal.returns-clause-malformed
returns-clause-malformed c = malformed

pub returns-clause-long_names : goal.returns-clause-long_names
returns-clause-long_names c = long_names
