use Rattle.std.proofs.Common.{◌≡◌, ◌==◌, true, length, map, sym, ap, ◌∙◌}
use Rattle.std.proofs.lemmas.List.{length-map}
use Rattle.adj_tree.specs.View.{extent_of, declaration_of}
use Rattle.adj_common.specs.Views.{entry_of}
use Rattle.adj_common.proofs.Itemed.{item_taken}
use Rattle.adj_common.proofs.lowering.with_item.Goals as goal

pub returns-in_ok-name : goal.returns-in_ok-name
returns-in_ok-name c =
    let es = map entry_of c.args.members.now in
    let d = c.args.decl.now in
    let l = map extent_of c.in_ok-extents.extents in
    let none : (length (map extent_of d.extents) == 0) ≡ true = ap (λ n. n == 0) (length-map d.extents extent_of ∙ ap length (sym c.as_slice.ensures.members)) ∙ sym c.is_empty.ensures ∙ c.if-is_empty.true in
    record {
      declaration = λ h.
          (λ i. record { line = d.line; name = c.in_ok-name.ensures.same i; extents = l })
          ∙ item_taken es (declaration_of d) l none (c.in_ok-extents.ensures.item ∙ (λ i. h i d.name));
    }
