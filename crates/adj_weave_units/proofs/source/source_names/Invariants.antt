-- The names of the units, and of the variables of those passed, are there.
use Rattle.std.proofs.Common.{◌≡◌, ◌++◌, [], ℕ, List, drop}
use Rattle.std.specs.Prelude.{flat_map}
use Rattle.adj_sets.specs.Sets.{all_added}
use Rattle.adj_weave_units.proofs.source.source_names.Given as goal

abbrev pub invariant-loop-unit : goal.invariant-loop-unit
invariant-loop-unit l = all_added l.taken (flat_map (λ (xs : List (List ℕ)). xs) (drop l.unit l.checked.variables)) ≡ all_added [] (l.units ++ flat_map (λ (xs : List (List ℕ)). xs) l.checked.variables)
