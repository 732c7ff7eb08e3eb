-- Each program is computed.
use Rattle.law_names.proofs.Samples.{unit_names, undeclared_names, repeated_names, subscripts, extents, reserved_variables, runtime_calls, too_many_variables, many_variables, letters}
use Rattle.law_names.proofs.worked.name_examples.Goals as goal

pub returns-clause-unit_names : goal.returns-clause-unit_names
returns-clause-unit_names c = unit_names

pub returns-clause-undeclared_names : goal.returns-clause-undeclared_names
returns-clause-undeclared_names c = undeclared_names

pub returns-clause-repeated_names : goal.returns-clause-repeated_names
returns-clause-repeated_names c = repeated_names

pub returns-clause-subscripts : goal.returns-clause-subscripts
returns-clause-subscripts c = subscripts

pub returns-clause-extents : goal.returns-clause-extents
returns-clause-extents c = extents

pub returns-clause-reserved_variables : goal.returns-clause-reserved_variables
returns-clause-reserved_variables c = reserved_variables

pub returns-clause-runtime_calls : goal.returns-clause-runtime_calls
returns-clause-runtime_calls c = runtime_calls

pub returns-clause-too_many_variables : goal.returns-clause-too_many_variables
returns-clause-too_many_variables c = too_many_variables

pub returns-clause-many_variables : goal.returns-clause-many_variables
returns-clause-many_variables c = many_variables

pub returns-clause-letters : goal.returns-clause-letters
returns-clause-letters c = letters
