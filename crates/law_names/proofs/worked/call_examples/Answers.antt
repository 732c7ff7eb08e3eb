-- Each program is computed.
use Rattle.law_names.proofs.Samples.{actuals, array_arguments, cycles, chains, long_chains, written_variables, written_extents, shared_variables, written_values, passes, heads, no_arrays, no_places, all_kinds, ends}
use Rattle.law_names.proofs.worked.call_examples.Goals as goal

pub returns-clause-actuals : goal.returns-clause-actuals
returns-clause-actuals c = actuals

pub returns-clause-array_arguments : goal.returns-clause-array_arguments
returns-clause-array_arguments c = array_arguments

pub returns-clause-cycles : goal.returns-clause-cycles
returns-clause-cycles c = cycles

pub returns-clause-chains : goal.returns-clause-chains
returns-clause-chains c = chains

pub returns-clause-long_chains : goal.returns-clause-long_chains
returns-clause-long_chains c = long_chains

pub returns-clause-written_variables : goal.returns-clause-written_variables
returns-clause-written_variables c = written_variables

pub returns-clause-written_extents : goal.returns-clause-written_extents
returns-clause-written_extents c = written_extents

pub returns-clause-shared_variables : goal.returns-clause-shared_variables
returns-clause-shared_variables c = shared_variables

pub returns-clause-written_values : goal.returns-clause-written_values
returns-clause-written_values c = written_values

pub returns-clause-passes : goal.returns-clause-passes
returns-clause-passes c = passes

pub returns-clause-heads : goal.returns-clause-heads
returns-clause-heads c = heads

pub returns-clause-no_arrays : goal.returns-clause-no_arrays
returns-clause-no_arrays c = no_arrays

pub returns-clause-no_places : goal.returns-clause-no_places
returns-clause-no_places c = no_places

pub returns-clause-all_kinds : goal.returns-clause-all_kinds
returns-clause-all_kinds c = all_kinds

pub returns-clause-ends : goal.returns-clause-ends
returns-clause-ends c = ends
