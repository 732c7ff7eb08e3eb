use Rattle.std.proofs.Common.{◌∙◌, ap, map, nat_eq, sym}
use Rattle.std.specs.Cmp.Lexicographic.{pointwise}
use Rattle.adj_sets.specs.Sets.{with_added}
use Rattle.adj_sets.proofs.NameSets.{pointwise_name, with_added_is, added_named}
use Rattle.adj_sets.proofs.name_set.NameSet.add.Goals as goal

pub returns-clause-added : goal.returns-clause-added
returns-clause-added c =
    let x = c.args.name.now in
    let same = c.in_ok-to_vec.ensures.items_if_clones_equal (λ a b e. e) in
    let old = c.deref_mut.result.now.keys in
    ap (map (λ k. k.items)) c.in_ok-insert.ensures.keys ∙ added_named (λ k. k.items) (pointwise nat_eq) pointwise_name x c.in_ok-to_vec.field-0 old same
    ∙ sym (with_added_is x (map (λ k. k.items) old)) ∙ ap (with_added x) (ap (λ s. map (λ k. k.items) s.keys) c.deref_mut.ensures.value ∙ c.self.view_is)
