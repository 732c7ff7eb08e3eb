use Rattle.std.proofs.Common.{arith}
use Rattle.adj_interp_frame.proofs.layout.Area.zeros.Goals as goal

pub returns-clause-shape : goal.returns-clause-shape
returns-clause-shape g c = c.shape-rows.ensures

pub returns-clause-sized : goal.returns-clause-sized
returns-clause-sized g c =
    let len = c.in_ok-cells.ensures.len in
    let count = c.in_ok-count.ensures in
    let whole = c.in_ok-cells.cells.ok in
    omega (arith, len, count, whole)
