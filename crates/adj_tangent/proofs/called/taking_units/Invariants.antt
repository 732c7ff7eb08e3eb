-- The units passed are told of.
use Rattle.std.proofs.Common.{◌≡◌, ◌++◌, map, drop}
use Rattle.adj_tangent.specs.declared.plan.Callee.{Callee}
use Rattle.adj_tangent.specs.Plans.{has_some}
use Rattle.adj_tangent.proofs.called.taking_units.Given as goal

abbrev pub invariant-loop-callee : goal.invariant-loop-callee
invariant-loop-callee l = l.made.items ++ map (λ (k : Callee). has_some k.carried) (drop l.callee-index l.callee-items) ≡ map (λ (k : Callee). has_some k.carried) l.callees.known.items
