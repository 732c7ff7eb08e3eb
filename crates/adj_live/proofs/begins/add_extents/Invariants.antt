-- The dummies passed, and those that are left.
use Rattle.std.proofs.Common.{◌≡◌, ◌++◌, map, drop}
use Rattle.std.specs.List.{flat_map}
use Rattle.def_meaning.specs.Read.{is_extent}
use Rattle.def_flow.specs.Rules.{list_of}
use Rattle.def_names.specs.VariableLists.{list_if}
use Rattle.adj_flow.specs.Rows.{row_of}
use Rattle.adj_flow.specs.NodeView.{vars_of}
use Rattle.adj_live.specs.Numbers.{wanted_at}
use Rattle.adj_live.specs.Listed.{extent_nodes}
use Rattle.adj_live.specs.View.{here_at}
use Rattle.adj_live.proofs.begins.add_extents.Given as goal

abbrev pub invariant-loop-dummy : goal.invariant-loop-dummy
invariant-loop-dummy l =
    l.nodes.items
    ++ flat_map (λ d. list_if (is_extent d (row_of l.site.part.now).part.unit.declarations) (list_of (wanted_at l.site.known.width (vars_of (row_of l.site.part.now)) (row_of l.site.part.now).part.number d))) (map (λ d. d) (drop l.dummy-index l.dummy-items))
    ≡ l.initial.nodes.items ++ extent_nodes (here_at l.site)
