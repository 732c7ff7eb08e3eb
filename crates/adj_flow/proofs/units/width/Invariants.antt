-- The variables of the units passed are no more, and the width is low.
use Rattle.std.proofs.Common.{◌<◌, ◌≤◌, ◌^◌, All, length, take}
use Rattle.adj_flow.proofs.units.width.Given as goal

abbrev pub invariant-loop-names : goal.invariant-loop-names
invariant-loop-names l = record { low : l.width < 2 ^ 30; all : All (λ v. length v.now ≤ l.width) (take l.names-index l.variables) }
