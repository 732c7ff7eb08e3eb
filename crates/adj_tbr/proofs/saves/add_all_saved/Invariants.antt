-- The numbers of the variables passed, and of those that are left.
use Rattle.std.proofs.Common.{◌≡◌, ◌++◌, drop}
use Rattle.std.specs.List.{flat_map}
use Rattle.adj_symbols_writes.specs.View.{vars_seen}
use Rattle.adj_flow.specs.Rows.{row_of}
use Rattle.adj_tbr.specs.Saves.{saved_node}
use Rattle.adj_tbr.proofs.saves.add_all_saved.Given as goal

abbrev pub invariant-loop-name : goal.invariant-loop-name
invariant-loop-name l = l.nodes.items ++ flat_map (saved_node l.held l.width (row_of l.part) l.statement) (vars_seen (drop l.name-index l.names)) ≡ l.initial.nodes.items ++ flat_map (saved_node l.held l.width (row_of l.part) l.statement) (vars_seen l.names)
