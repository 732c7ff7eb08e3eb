use Rattle.law_examples.proofs.Refusals.{misplaced, unended, too_large, wrong_exponents}
use Rattle.law_examples.proofs.texts.tree_refusals.Goals as goal

pub returns-clause-misplaced : goal.returns-clause-misplaced
returns-clause-misplaced c = misplaced

pub returns-clause-unended : goal.returns-clause-unended
returns-clause-unended c = unended

pub returns-clause-too_large : goal.returns-clause-too_large
returns-clause-too_large c = too_large

pub returns-clause-exponents : goal.returns-clause-exponents
returns-clause-exponents c = wrong_exponents
