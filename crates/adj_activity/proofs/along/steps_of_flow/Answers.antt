use Rattle.std.proofs.Common.{◌≤◌, arith}
use Rattle.adj_flow.proofs.UnitNumbers.{wider}
use Rattle.adj_activity.proofs.along.steps_of_flow.Goals as goal

pub variable_rows-requires : goal.variable_rows-requires
variable_rows-requires c =
    let width = c.max-width.ensures in
    let l : c.args.flow.now.width ≤ c.max-width.result = omega (arith, width) in
    record { flow = wider c.args.flow.now c.args.flow.now.width c.max-width.result l c.requires }

pub returns : goal.returns
returns c = record {
  along = record { width = c.max-width.ensures; wide = c.in_ok-rows.ensures.wide; places = c.in_ok-rows.ensures.places; arcs = c.in_ok-arcs.ensures.arcs; edges = c.in_ok-edges.ensures.edges };
}
