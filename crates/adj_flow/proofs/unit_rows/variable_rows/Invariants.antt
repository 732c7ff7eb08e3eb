-- The places of the variables of the units passed are set.
use Rattle.std.proofs.Common.{◌≡◌, ℕ, ◌*◌, ◌<◌, take, map, length}
use Rattle.std.specs.Prelude.{◌↔◌}
use Rattle.adj_flow.specs.Rows.{row_of}
use Rattle.adj_tree.specs.Bits.{bit}
use Rattle.adj_flow.proofs.UnitSetting.{IsHeld}
use Rattle.adj_flow.proofs.unit_rows.variable_rows.Given as goal

abbrev pub invariant-loop-row : goal.invariant-loop-row
invariant-loop-row l = record {
  count : l.rows.count ≡ length l.flow.parts.items;
  wide : l.width < 64 * l.rows.words;
  bits : (n : ℕ) → (bit l.rows.bits.items n ≡ 1) ↔ IsHeld (take l.row (map row_of l.flow.parts.items)) l.rows.words n;
}
