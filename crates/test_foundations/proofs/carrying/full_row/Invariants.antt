use Rattle.std.proofs.Common.{◌≡◌, ◌<◌, ◌*◌}
use Rattle.test_foundations.proofs.carrying.full_row.Given as goal

abbrev pub invariant-loop-column : goal.invariant-loop-column
invariant-loop-column l = (l.rows.count ≡ 1) × (l.width < 64 * l.rows.words)
