-- The variables passed, and those that are left.
use Rattle.std.proofs.Common.{◌≡◌, ◌++◌, drop}
use Rattle.adj_symbols_writes.specs.View.{vars_seen}
use Rattle.adj_flow.specs.View.{place_of}
use Rattle.adj_live.specs.Listed.{needed_nodes}
use Rattle.adj_live.specs.View.{here_at}
use Rattle.adj_live.proofs.begins.add_needed.Given as goal

abbrev pub invariant-loop-name : goal.invariant-loop-name
invariant-loop-name l = l.nodes.items ++ needed_nodes (here_at l.site) l.point (place_of l.place) (vars_seen (drop l.name-index l.names)) ≡ l.initial.nodes.items ++ needed_nodes (here_at l.site) l.point (place_of l.place) (vars_seen l.names)
