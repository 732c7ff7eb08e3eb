-- The units passed, and those that are left.
use Rattle.std.proofs.Common.{◌≡◌, ◌++◌, map, drop}
use Rattle.adj_flow.specs.Rows.{row_of}
use Rattle.adj_live.specs.Listed.{all_arcs}
use Rattle.adj_live.specs.View.{here_in}
use Rattle.adj_live.proofs.steps.arcs.Given as goal

abbrev pub invariant-loop-part : goal.invariant-loop-part
invariant-loop-part l = l.arcs.items ++ all_arcs (here_in l.known) (map row_of (drop l.part-index l.part-items)) l.flow.taking ≡ all_arcs (here_in l.known) (map row_of l.flow.parts.items) l.flow.taking
