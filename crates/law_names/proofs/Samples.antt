-- The worked programs are refused or accepted as they were worked out by hand.
use Rattle.std.proofs.Common.{refl}
use Rattle.law_names.specs.Samples.{InAssignment, InTests, InLoops, InCall, InRuntime, AtAnyDepth, VariablesInOrder, EachReserved, FreshNames, Numbers}
use Rattle.law_names.specs.NameSamples.{UnitNames, UndeclaredNames, RepeatedNames, Subscripts, Extents, ReservedVariables, RuntimeCalls, TooManyVariables, ManyVariables, Letters}
use Rattle.law_names.specs.CallSamples.{Actuals, ArrayArguments, Cycles, Chains, LongChains, WrittenVariables, WrittenExtents, SharedVariables, WrittenValues, Passes, Heads, NoArrays, NoPlaces, AllKinds, Ends}

pub in_assignment : InAssignment
in_assignment = refl

pub in_tests : InTests
in_tests = (refl, refl)

pub in_loops : InLoops
in_loops = (refl, refl)

pub in_call : InCall
in_call = refl

pub in_runtime : InRuntime
in_runtime = (refl, refl, refl, refl, refl, refl, refl, refl, refl, refl, refl)

pub at_any_depth : AtAnyDepth
at_any_depth = refl

pub variables_in_order : VariablesInOrder
variables_in_order = refl

pub unit_names : UnitNames
unit_names = (refl, refl, refl, refl, refl, refl, refl)

pub undeclared_names : UndeclaredNames
undeclared_names = (refl, refl, refl, refl, refl, refl, refl, refl, refl, refl, refl, refl, refl)

pub repeated_names : RepeatedNames
repeated_names = (refl, refl, refl, refl)

pub subscripts : Subscripts
subscripts = (refl, refl, refl, refl, refl, refl, refl, refl, refl, refl, refl, refl, refl)

pub extents : Extents
extents = (refl, refl, refl, refl, refl, refl, refl, refl, refl, refl, refl, refl, refl, refl)

pub reserved_variables : ReservedVariables
reserved_variables = (refl, refl, refl, refl, refl, refl, refl)

pub runtime_calls : RuntimeCalls
runtime_calls = (refl, refl, refl, refl, refl, refl, refl, refl, refl, refl, refl, refl, refl, refl, refl, refl, refl)

pub too_many_variables : TooManyVariables
too_many_variables = (refl, refl, refl, refl, refl, refl)

pub actuals : Actuals
actuals = (refl, refl, refl, refl, refl, refl, refl, refl, refl, refl, refl, refl, refl, refl, refl, refl)

pub array_arguments : ArrayArguments
array_arguments = (refl, refl, refl, refl)

pub cycles : Cycles
cycles = (refl, refl, refl, refl, refl, refl)

pub chains : Chains
chains = (refl, refl, refl, refl, refl, refl, refl, refl, refl, refl)

pub written_variables : WrittenVariables
written_variables = (refl, refl, refl, refl, refl, refl, refl, refl, refl, refl)

pub written_extents : WrittenExtents
written_extents = (refl, refl, refl, refl, refl)

pub shared_variables : SharedVariables
shared_variables = (refl, refl, refl, refl, refl, refl, refl, refl, refl, refl, refl, refl, refl, refl, refl)

pub written_values : WrittenValues
written_values = (refl, refl, refl, refl, refl, refl, refl, refl)

pub passes : Passes
passes = (refl, refl, refl, refl)

pub heads : Heads
heads = (refl, refl, refl, refl, refl, refl, refl, refl, refl)

pub long_chains : LongChains
long_chains = (refl, refl, refl, refl)

pub many_variables : ManyVariables
many_variables = (refl, refl, refl)

pub each_reserved : EachReserved
each_reserved = (refl, refl, refl, refl, refl, refl, refl, refl, refl, refl, refl, refl, refl, refl, refl, refl)

pub fresh_names : FreshNames
fresh_names = (refl, refl, refl, refl)

pub numbers : Numbers
numbers = (refl, refl, refl, refl, refl, refl, refl, refl, refl, refl, refl, refl, refl)

pub letters : Letters
letters = (refl, refl, refl, refl, refl, refl, refl)

pub no_arrays : NoArrays
no_arrays = (refl, refl)

pub no_places : NoPlaces
no_places = refl

pub all_kinds : AllKinds
all_kinds = (refl, refl)

pub ends : Ends
ends = (refl, refl, refl, refl, refl, refl, refl, refl, refl, refl, refl)
