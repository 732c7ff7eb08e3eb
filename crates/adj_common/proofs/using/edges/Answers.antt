use Rattle.std.proofs.Common.{◌+◌, ◌++◌, map, drop, sym, ap, ◌∙◌, append_assoc}
use Rattle.adj_tree.specs.CommonView.{shared_of}
use Rattle.adj_common.specs.Using.{unit_edges, edges_from}
use Rattle.adj_common.proofs.Stepped.{left_here}
use Rattle.adj_common.proofs.using.edges.Goals as goal

pub loop-unit-preserved : goal.loop-unit-preserved
loop-unit-preserved c =
    let ns = c.args.numbers.now in
    let us = c.args.units.now in
    let i = c.loop-unit.unit in
    let shared = c.index-units-unit.result in
    let made = c.loop-unit.edges.items in
    let rest = map shared_of (drop (i + 1) us) in
    ap (λ l. l ++ edges_from ns (i + 1) rest) c.in_ok-add_unit.ensures.added
    ∙ append_assoc made (unit_edges ns i (shared_of shared)) (edges_from ns (i + 1) rest)
    ∙ ap (λ l. made ++ edges_from ns i l) (sym (left_here shared_of us i shared c.loop-unit-test.true c.index-units-unit.is))
    ∙ c.loop-unit.invariant
