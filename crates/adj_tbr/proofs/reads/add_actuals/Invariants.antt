-- The numbers of the actuals passed, and of those that are left.
use Rattle.std.proofs.Common.{◌≡◌, ◌++◌, map, drop}
use Rattle.std.specs.Prelude.{true}
use Rattle.std.specs.List.{flat_map}
use Rattle.def_flow.specs.Uses.{site}
use Rattle.def_names.specs.VariableLists.{list_if}
use Rattle.def_flow.specs.Rules.{list_of}
use Rattle.adj_flow.specs.Nodes.{node_in}
use Rattle.adj_flow.specs.NodeView.{vars_of}
use Rattle.adj_flow.specs.Rows.{row_of}
use Rattle.adj_flow.specs.View.{place_of, standing_of}
use Rattle.adj_tbr.specs.Bound.{passed_of}
use Rattle.adj_tbr.specs.Reads.{node_before, is_wanted}
use Rattle.adj_tbr.proofs.reads.add_actuals.Given as goal

abbrev pub invariant-loop-bound : goal.invariant-loop-bound
invariant-loop-bound l =
    l.nodes.items
    ++ flat_map (λ b. list_if (is_wanted l.setting.found l.setting.sides l.setting.width (standing_of l.standing) (row_of l.called) b) (list_of (node_in l.setting.width (vars_of (row_of l.part)) (l.point, b.2)))) (map passed_of (drop l.bound-index l.bounds))
    ≡ l.initial.nodes.items
    ++ flat_map (λ b. list_if (is_wanted l.setting.found l.setting.sides l.setting.width (standing_of l.standing) (row_of l.called) b) (node_before l.setting.width (row_of l.part) (site true l.standing.number (place_of l.standing.place)) b.2)) (map passed_of l.bounds)
