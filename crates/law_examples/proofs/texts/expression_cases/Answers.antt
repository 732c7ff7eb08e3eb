use Rattle.law_examples.proofs.TextCases.{orders, exponents, applications, conditions}
use Rattle.law_examples.proofs.texts.expression_cases.Goals as goal

pub returns-clause-orders : goal.returns-clause-orders
returns-clause-orders c = orders

pub returns-clause-exponents : goal.returns-clause-exponents
returns-clause-exponents c = exponents

pub returns-clause-applications : goal.returns-clause-applications
returns-clause-applications c = applications

pub returns-clause-conditions : goal.returns-clause-conditions
returns-clause-conditions c = conditions
