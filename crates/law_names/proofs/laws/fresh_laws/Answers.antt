use Rattle.def_names.proofs.Fresh.{fresh-is_free, fresh-as_wanted, fresh-candidate, digits-decimal}
use Rattle.law_names.proofs.laws.fresh_laws.Goals as goal

pub returns-clause-is_free : goal.returns-clause-is_free
returns-clause-is_free c = fresh-is_free

pub returns-clause-as_wanted : goal.returns-clause-as_wanted
returns-clause-as_wanted c = fresh-as_wanted

pub returns-clause-numbered : goal.returns-clause-numbered
returns-clause-numbered c = fresh-candidate

pub returns-clause-decimal : goal.returns-clause-decimal
returns-clause-decimal c = digits-decimal
