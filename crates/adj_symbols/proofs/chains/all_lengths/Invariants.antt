-- What so many rounds tell.
use Rattle.std.proofs.Common.{◌≡◌, map, min}
use Rattle.adj_tree.specs.View.{procedure_of}
use Rattle.def_names.specs.Variables.{Name}
use Rattle.def_names.specs.Calls.{chain_within}
use Rattle.adj_symbols.specs.Chain.{length_of}
use Rattle.adj_symbols.proofs.chains.all_lengths.Given as goal

abbrev pub invariant-loop-step : goal.invariant-loop-step
invariant-loop-step l = (x : Name) → min l.limit (length_of (map procedure_of l.scope) l.lengths.items x) ≡ min l.limit (chain_within (map procedure_of l.scope) l._step x)
