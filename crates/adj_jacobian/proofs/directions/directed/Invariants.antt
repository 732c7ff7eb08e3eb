-- The slots so far, and what is still to come.
use Rattle.std.proofs.Common.{◌≡◌, ◌++◌, map, drop}
use Rattle.def_jacobian.specs.Inputs.{by_columns, tangents}
use Rattle.def_jacobian.specs.Groups.{seed}
use Rattle.adj_interp.specs.Concludes.{slot_seen}
use Rattle.adj_jacobian.specs.Walks.{still_tangent}
use Rattle.adj_jacobian.proofs.directions.directed.Given as goal

abbrev pub invariant-loop-i : goal.invariant-loop-i
invariant-loop-i l =
    map slot_seen l.slots.items ++ by_columns still_tangent (λ z j. seed l.groups l.group j) (drop l.i l.vars) (map slot_seen (drop l.i l.input)) l.first
    ≡ tangents (seed l.groups l.group) l.vars (map slot_seen l.input)
