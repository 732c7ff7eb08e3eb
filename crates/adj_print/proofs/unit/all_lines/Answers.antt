-- Each unit is taken off those that are left.
use Rattle.adj_print.proofs.Units.{unit_more}
use Rattle.adj_print.proofs.unit.all_lines.Goals as goal

pub loop-unit-preserved : goal.loop-unit-preserved
loop-unit-preserved c = unit_more _ _ _ _ _ _ c.loop-unit-test.true c.unit-item.is c.in_ok-push_unit.ensures.lines c.loop-unit.invariant
