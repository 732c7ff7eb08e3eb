use Rattle.std.proofs.Common.{◌≡◌, ◌⊎◌, ℕ, ◌+◌, ◌*◌, ◌<◌, ◌≤◌, take, map, length, get_or, sym, ap, ◌∙◌, subst, arith}
use Rattle.std.specs.Prelude.{◌↔◌, Contains}
use Rattle.std.proofs.lemmas.List.{take_all, length-map}
use Rattle.std.proofs.lemmas.List.Elements.{All-contains}
use Rattle.std.proofs.Math.ListN.{get_or-map}
use Rattle.adj_reach.proofs.Members.{map_has}
use Rattle.adj_flow.specs.NodeView.{vars_of}
use Rattle.adj_flow.specs.Rows.{Row, row_of}
use Rattle.adj_tree.specs.Bits.{bit}
use Rattle.adj_flow.specs.UnitRows.{IsPlace}
use Rattle.adj_flow.proofs.UnitNumbers.{rows_narrow}
use Rattle.adj_flow.proofs.UnitSetting.{IsHeld, held_more, hold_places}
use Rattle.adj_flow.proofs.unit_rows.variable_rows.Goals as goal

pub set_variables-requires-clause-wide : goal.set_variables-requires-clause-wide
set_variables-requires-clause-wide c =
    let parts = c.args.flow.now.parts.items in
    let p = c.part-item.result in
    let there : Contains c.args.flow.now.parts.items c.part-item.result = subst (λ ps. Contains ps c.part-item.result) c.as_slice-part-items.ensures.value (c.loop-row.row, c.loop-row-test.true, sym c.part-item.is) in
    let l : length c.part-item.result.variables.now ≤ c.args.width = All-contains (λ vs. length vs ≤ c.args.width) (map (λ q. q.variables.now) parts) p.variables.now c.requires.flow.narrow (map_has (λ q. q.variables.now) parts p there) in
    omega (arith, l, c.loop-row.invariant.wide)

pub loop-row-preserved : goal.loop-row-preserved
loop-row-preserved c =
    let parts = c.args.flow.now.parts.items in
    let gs = map row_of c.args.flow.now.parts.items in
    let p = c.part-item.result in
    let row = c.loop-row.row in
    let inv = c.loop-row.invariant in
    let e = c.set_variables.ensures in
    let at : c.part-item.result ≡ get_or c.args.flow.now.parts.items c.loop-row.row c.part-item.result = c.part-item.is ∙ ap (λ z. get_or z row p) c.as_slice-part-items.ensures.value in
    let g : get_or (map row_of c.args.flow.now.parts.items) c.loop-row.row (row_of c.part-item.result) ≡ row_of c.part-item.result = get_or-map row_of parts row p ∙ ap row_of (sym at) in
    let n : length c.as_slice-part-items.result.now ≡ length c.args.flow.now.parts.items = ap length c.as_slice-part-items.ensures.value in
    let l : c.loop-row.row < length (map row_of c.args.flow.now.parts.items) = omega (arith, c.loop-row-test.true, n, length-map parts row_of) in
    record {
      count = e.count ∙ inv.count;
      wide = subst (λ z. c.args.width < 64 * z) (sym e.words) inv.wide;
      bits = subst (λ z. (n : ℕ) → (bit c.set_variables.new.rows.bits.items n ≡ 1) ↔ IsHeld (take (row + 1) gs) z n) (sym e.words)
          (held_more gs row c.loop-row.rows.words (row_of p) c.loop-row.rows.bits.items c.set_variables.new.rows.bits.items l inv.bits
          (subst (λ (z : Row). (n : ℕ) → (bit c.set_variables.new.rows.bits.items n ≡ 1) ↔ ((bit c.loop-row.rows.bits.items n ≡ 1) ⊎ ((j : ℕ) × IsPlace (vars_of z) j × (n ≡ row * c.loop-row.rows.words * 64 + j)))) (sym g) e.bits));
    }

pub returns-clause-places : goal.returns-clause-places
returns-clause-places c =
    let parts = c.args.flow.now.parts.items in
    let gs = map row_of c.args.flow.now.parts.items in
    let n : length c.as_slice-part-items.result.now ≡ length c.args.flow.now.parts.items = ap length c.as_slice-part-items.ensures.value in
    let l : length (map row_of c.args.flow.now.parts.items) ≤ c.loop-row.row = omega (arith, c.loop-row-test.false, n, length-map parts row_of) in
    hold_places c.loop-row.rows gs c.args.width c.loop-row.invariant.wide (λ i d k. c.requires.flow.numbers i d (omega (arith, k, length-map parts row_of))) (rows_narrow c.args.flow.now c.args.width c.requires.flow)
    (subst (λ z. (n : ℕ) → (bit c.loop-row.rows.bits.items n ≡ 1) ↔ IsHeld z c.loop-row.rows.words n) (take_all c.loop-row.row gs l) c.loop-row.invariant.bits)
