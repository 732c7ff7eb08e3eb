use Rattle.law_common.proofs.EachRuleWorked.{rules, layouts}
use Rattle.law_common.proofs.worked_rules.Goals as goal

pub returns-clause-rules : goal.returns-clause-rules
returns-clause-rules c = rules

pub returns-clause-layouts : goal.returns-clause-layouts
returns-clause-layouts c = layouts
