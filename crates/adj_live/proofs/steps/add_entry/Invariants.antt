-- The dummies passed, and those that are left.
use Rattle.std.proofs.Common.{◌≡◌, ◌++◌, map, drop}
use Rattle.std.specs.List.{flat_map}
use Rattle.adj_tree.specs.Code.{plain}
use Rattle.adj_flow.specs.Rows.{row_of}
use Rattle.adj_flow.specs.Nodes.{linked}
use Rattle.adj_flow.specs.NodeView.{vars_of}
use Rattle.adj_live.specs.Numbers.{wanted_at}
use Rattle.adj_live.specs.Listed.{needed_here, entry_edges}
use Rattle.adj_live.specs.View.{here_at}
use Rattle.adj_live.proofs.steps.add_entry.Given as goal

abbrev pub invariant-loop-dummy : goal.invariant-loop-dummy
invariant-loop-dummy l =
    l.edges.items
    ++ flat_map (λ d. linked (needed_here (here_at l.site) (row_of l.site.part.now).part.entry (plain d)) (wanted_at l.site.known.width (vars_of (row_of l.site.part.now)) (row_of l.site.part.now).part.number d)) (map (λ d. d) (drop l.dummy-index l.dummy-items))
    ≡ l.initial.edges.items ++ entry_edges (here_at l.site)
