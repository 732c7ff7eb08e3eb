use Rattle.std.proofs.Common.{◌≡◌, ℕ, List, ap, sym, refl, ◌∙◌, ◌∷◌, ◌+◌, ◌<◌, drop, length, get_or, subst}
use Rattle.std.specs.Option.{option_or}
use Rattle.std.proofs.lemmas.List.{drop_more}
use Rattle.adj_symbols_writes.specs.Graph.{place_from}
use Rattle.adj_symbols_writes.specs.Table.{value_of}
use Rattle.adj_symbols_writes.proofs.Numbers.{numbers_more, place_more}
use Rattle.adj_flow.proofs.rows.places.Goals as goal

pub loop-place-preserved : goal.loop-place-preserved
loop-place-preserved c x =
    let ns = c.args.names.now in
    let i = c.loop-place.place in
    let n = c.name-item.result in
    let m = c.as_slice-name-items.ensures.members in
    let l : c.loop-place.place < length c.args.names.now = subst (λ (z : List (List ℕ)). c.loop-place.place < length z) m c.loop-place-test.true in
    let is : c.name-item.result ≡ get_or c.args.names.now c.loop-place.place c.name-item.result = c.name-item.is ∙ ap (λ z. get_or z c.loop-place.place c.name-item.result) m in
    let first = drop_more ns i n l ∙ ap (λ z. z ∷ drop (i + 1) ns) (sym is) in
    let rest = drop (i + 1) ns in
    numbers_more x c.loop-place.places c.add.new.self (place_from (i + 1) rest x) n i c.in_ok-add.ensures.added
    ∙ ap (option_or (value_of x c.loop-place.places)) (place_more i (i + 1) n rest x refl ∙ ap (λ z. place_from i z x) (sym first))
    ∙ c.loop-place.invariant x
