use Rattle.std.proofs.Common.{◌≡◌, ◌⊎◌, ℕ, ◌+◌, ◌*◌, ◌<◌, ◌≤◌, take, length, get_or, [], refl, sym, ap, ◌∙◌, subst, arith}
use Rattle.std.specs.Prelude.{◌↔◌, Option, Some, IfSome}
use Rattle.std.proofs.lemmas.List.{take_all, get_or_read}
use Rattle.adj_symbols_writes.specs.Graph.{place_from}
use Rattle.adj_tree.specs.Bits.{bit}
use Rattle.adj_flow.proofs.UnitSetting.{set_start, set_more, set_end, place_below}
use Rattle.adj_flow.proofs.unit_rows.set_variables.Goals as goal

pub loop-name-init : goal.loop-name-init
loop-name-init c = record { count = refl; words = refl; bits = λ n. set_start c.args.part.now.variables.now c.as_slice-name-items.result.now (c.args.row * c.args.rows.now.words * 64) c.args.rows.now.bits.items n }

pub set_place-requires-clause-place : goal.set_place-requires-clause-place
set_place-requires-clause-place c =
    let l : length c.args.part.now.variables.now ≤ 64 * c.loop-name.rows.words = omega (arith, c.requires.wide, c.loop-name.invariant.words) in
    subst (λ o. IfSome o (λ j. j < 64 * c.loop-name.rows.words)) (sym c.place.ensures.place) (place_below c.args.part.now.variables.now c.name-item.result (64 * c.loop-name.rows.words) l)

pub loop-name-preserved : goal.loop-name-preserved
loop-name-preserved c =
    let names = c.args.part.now.variables.now in
    let items = c.as_slice-name-items.result.now in
    let i = c.loop-name.name-index in
    let inv = c.loop-name.invariant in
    let e = c.set_place.ensures in
    let w : c.loop-name.rows.words ≡ c.args.rows.now.words = c.loop-name.invariant.words in
    let x : c.name-item.result ≡ get_or c.as_slice-name-items.result.now c.loop-name.name-index [] = get_or_read items i c.name-item.result c.loop-name-test.true c.name-item.is [] in
    let o : c.place.result ≡ place_from 0 c.args.part.now.variables.now (get_or c.as_slice-name-items.result.now c.loop-name.name-index []) = c.place.ensures.place ∙ ap (place_from 0 names) x in
    record {
      count = e.count ∙ inv.count;
      words = e.words ∙ inv.words;
      bits = set_more names items i (c.args.row * c.args.rows.now.words * 64) c.args.rows.now.bits.items c.loop-name.rows.bits.items c.set_place.new.rows.bits.items c.loop-name-test.true inv.bits
          (subst (λ (z : Option ℕ × ℕ). (n : ℕ) → (bit c.set_place.new.rows.bits.items n ≡ 1) ↔ ((bit c.loop-name.rows.bits.items n ≡ 1) ⊎ ((j : ℕ) × (z.0 ≡ Some j) × (n ≡ c.args.row * z.1 * 64 + j)))) (λ k. (o k, w k)) e.bits);
    }

pub returns-clause-bits : goal.returns-clause-bits
returns-clause-bits c =
    set_end c.args.part.now.variables.now (take c.loop-name.name-index c.as_slice-name-items.result.now) (c.args.row * c.args.rows.now.words * 64) c.args.rows.now.bits.items c.loop-name.rows.bits.items
    (take_all c.loop-name.name-index c.as_slice-name-items.result.now c.loop-name-test.false ∙ c.as_slice-name-items.ensures.members) c.loop-name.invariant.bits
