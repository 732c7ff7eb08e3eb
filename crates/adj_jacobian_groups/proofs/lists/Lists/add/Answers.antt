-- One list is set to what it was and the number.
use Rattle.std.proofs.Common.{◌≡◌, ◌<◌, [], ◌∷◌, ◌++◌, length, map, slice_set, sym, ap, ◌∙◌, arith}
use Rattle.std.proofs.lemmas.List.{map-set, get_or-map, length-map}
use Rattle.adj_jacobian_groups.specs.Listed.{list_at, with_more}
use Rattle.adj_jacobian_groups.proofs.lists.Lists.add.Goals as goal

pub returns : goal.returns
returns c =
    let xs = c.self.inside.lists.items in
    let i = c.args.list in
    let v = c.index_mut.result.now in
    let seen = map (λ l. l.items) xs in
    let h : c.args.list < length c.self.inside.lists.items = omega (arith, c.requires, length-map xs (λ l. l.items), ap length c.self.view_is) in
    let at : list_at seen i ≡ v.items = get_or-map (λ l. l.items) xs i v [] h ∙ ap (λ l. l.items) (sym c.index_mut.ensures.value) in
    map-set (λ l. l.items) xs i c.push.new.self
    ∙ ap (λ l. slice_set seen i l) (c.in_ok-push.ensures.items ∙ ap (λ l. l ++ c.args.number ∷ []) (sym at))
    ∙ ap (λ s. with_more s i c.args.number) c.self.view_is
