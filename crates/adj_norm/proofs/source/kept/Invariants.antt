-- The variables passed are kept where they are used.
use Rattle.std.proofs.Common.{◌≡◌, ◌++◌, drop}
use Rattle.adj_norm.specs.Source.{kept_among}
use Rattle.adj_norm.proofs.source.kept.Given as goal

abbrev pub invariant-loop-variable : goal.invariant-loop-variable
invariant-loop-variable l = record { kept : l.made.items ++ kept_among l.used l.extents (drop l.variable-index l.variables) ≡ kept_among l.used l.extents l.variables }
