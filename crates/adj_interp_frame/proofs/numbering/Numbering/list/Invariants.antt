-- The names so far.
use Rattle.std.proofs.Common.{◌≡◌, map, take}
use Rattle.adj_interp_frame.proofs.numbering.Numbering.list.Given as goal

abbrev pub invariant-loop-name : goal.invariant-loop-name
invariant-loop-name l = l.names.items ≡ map (λ k. k.now) (take l.name-index l.name-items)
