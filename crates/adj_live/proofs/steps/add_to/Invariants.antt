-- The variables passed, and those that are left.
use Rattle.std.proofs.Common.{◌≡◌, ◌++◌, drop}
use Rattle.std.specs.Prelude.{Some}
use Rattle.std.specs.List.{flat_map}
use Rattle.adj_symbols_writes.specs.View.{vars_seen}
use Rattle.adj_flow.specs.Nodes.{linked}
use Rattle.adj_live.specs.Listed.{needed_here}
use Rattle.adj_live.specs.View.{here_at}
use Rattle.adj_live.proofs.steps.add_to.Given as goal

abbrev pub invariant-loop-name : goal.invariant-loop-name
invariant-loop-name l =
    l.edges.items ++ flat_map (λ v. linked (needed_here (here_at l.site) l.point v) (Some l.to)) (vars_seen (drop l.name-index l.names))
    ≡ l.initial.edges.items ++ flat_map (λ v. linked (needed_here (here_at l.site) l.point v) (Some l.to)) (vars_seen l.names)
