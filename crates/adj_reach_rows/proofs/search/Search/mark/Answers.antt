use Rattle.std.proofs.Common.{◌≡◌, ◌+◌, ◌*◌, ◌^◌, ◌<◌, ◌++◌, ◌∷◌, [], length, get_or, set, bit_and, bit_or, true, sym, ap, ◌∙◌, refl, arith, length-set}
use Rattle.std.specs.Prelude.{if◌then◌else◌}
use Rattle.std.specs.Int.{bit_not, w64}
use Rattle.std.proofs.lemmas.Nat.{mul-add-lt}
use Rattle.std.proofs.lemmas.List.{get_or_read, with_items_is}
use Rattle.adj_reach.specs.Edges.{flag}
use Rattle.adj_reach_rows.proofs.Marking.{mark_none, mark_some}
use Rattle.adj_reach_rows.proofs.search.Search.mark.Goals as goal

pub returns-in_ok-wake : goal.returns-in_ok-wake
returns-in_ok-wake c =
    let a = c.args.self.now in
    let w = c.args.row * a.words + c.args.place in
    let b = c.args.bits in
    let l : c.args.row * c.args.self.now.words + c.args.place < length c.args.self.now.seen.items = omega (arith, mul-add-lt c.args.row a.words c.args.place (length a.waits.items) c.requires.row c.requires.place, c.requires.fits.seen) in
    let m : c.args.row * c.args.self.now.words + c.args.place < length c.args.self.now.fresh.items = omega (arith, mul-add-lt c.args.row a.words c.args.place (length a.waits.items) c.requires.row c.requires.place, c.requires.fits.fresh) in
    let e : c.index-seen.result.now ≡ get_or c.args.self.now.seen.items (c.args.row * c.args.self.now.words + c.args.place) 0 = get_or_read a.seen.items w c.index-seen.result.now l c.index-seen.ensures 0 in
    let f : c.index_mut-then-new-ne0.result.now ≡ get_or c.args.self.now.fresh.items (c.args.row * c.args.self.now.words + c.args.place) 0 = get_or_read a.fresh.items w c.index_mut-then-new-ne0.result.now m c.index_mut-then-new-ne0.ensures.value 0 in
    let low : get_or c.args.self.now.seen.items (c.args.row * c.args.self.now.words + c.args.place) 0 < 2 ^ 64 = (let r : c.index-seen.result.now < 2 ^ 64 = omega arith in omega (arith, r, e)) in
    let v = c.as_mut_slice.ensures.value in
    let size : length c.wake.new.waits ≡ c.args.self.now.waits.len = ap length (c.in_ok-wake.ensures.waits ∙ ap (λ z. set z c.args.row true) v) ∙ length-set a.waits.items c.args.row true ∙ sym a.waits.ok.0 in
    record {
      grown = mark_some a c.args.row c.args.place b c.requires.fits c.requires.row c.requires.place low _ (λ z. c.if-new-ne0.true (ap (λ s. bit_and b (bit_not w64 s)) e ∙ z)) refl
          (λ i. set a.seen.items w (bit_or (e i) (bit_and b (bit_not w64 (e i)))))
          (λ i. set a.fresh.items w (bit_or (f i) (bit_and b (bit_not w64 (e i)))))
          (with_items_is a.waits c.wake.new.waits size ∙ c.in_ok-wake.ensures.waits ∙ ap (λ z. set z c.args.row true) v)
          (c.in_ok-wake.ensures.waiting ∙ ap (λ z. if flag z c.args.row then a.waiting.items else a.waiting.items ++ c.args.row ∷ []) v);
    }

pub returns-else-new-ne0 : goal.returns-else-new-ne0
returns-else-new-ne0 c =
    let a = c.args.self.now in
    let w = c.args.row * a.words + c.args.place in
    let l : c.args.row * c.args.self.now.words + c.args.place < length c.args.self.now.seen.items = omega (arith, mul-add-lt c.args.row a.words c.args.place (length a.waits.items) c.requires.row c.requires.place, c.requires.fits.seen) in
    let e : c.index-seen.result.now ≡ get_or c.args.self.now.seen.items (c.args.row * c.args.self.now.words + c.args.place) 0 = get_or_read a.seen.items w c.index-seen.result.now l c.index-seen.ensures 0 in
    let low : get_or c.args.self.now.seen.items (c.args.row * c.args.self.now.words + c.args.place) 0 < 2 ^ 64 = (let r : c.index-seen.result.now < 2 ^ 64 = omega arith in omega (arith, r, e)) in
    record { grown = mark_none a c.args.row c.args.place c.args.bits c.requires.fits c.requires.row c.requires.place low (ap (λ s. bit_and c.args.bits (bit_not w64 s)) (sym e) ∙ c.if-new-ne0.false) }
