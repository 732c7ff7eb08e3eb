-- The places of the names passed are set.
use Rattle.std.proofs.Common.{◌≡◌, ◌⊎◌, ℕ, ◌*◌, take}
use Rattle.std.specs.Prelude.{◌↔◌}
use Rattle.adj_tree.specs.Bits.{bit}
use Rattle.adj_flow.proofs.UnitSetting.{IsSet}
use Rattle.adj_flow.proofs.unit_rows.set_variables.Given as goal

abbrev pub invariant-loop-name : goal.invariant-loop-name
invariant-loop-name l = record {
  count : l.rows.count ≡ l.initial.rows.count;
  words : l.rows.words ≡ l.initial.rows.words;
  bits : (n : ℕ) → (bit l.rows.bits.items n ≡ 1) ↔ ((bit l.initial.rows.bits.items n ≡ 1) ⊎ IsSet l.part.variables.now (take l.name-index l.name-items) (l.row * l.initial.rows.words * 64) n);
}
