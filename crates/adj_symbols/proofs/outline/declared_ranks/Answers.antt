use Rattle.std.proofs.Common.{ap, sym, map, ◌∙◌, ◌∷◌, ◌+◌, drop, length}
use Rattle.std.specs.Option.{option_or}
use Rattle.std.proofs.lemmas.List.{drop_more, length-map}
use Rattle.adj_tree.specs.View.{extent_of, declaration_of}
use Rattle.adj_symbols_writes.specs.Table.{value_of, with_value}
use Rattle.adj_symbols_writes.proofs.Numbers.{numbers_more}
use Rattle.adj_symbols.specs.Outline.{declared_rank}
use Rattle.adj_symbols.proofs.outline.declared_ranks.Goals as goal

pub loop-decl-preserved : goal.loop-decl-preserved
loop-decl-preserved c x =
    let ds = c.args.decls.now in
    let i = c.loop-decl.decl-index in
    let d = c.decl-item.result in
    let old = c.loop-decl.ranks.value in
    let first = drop_more ds i d c.loop-decl-test.true ∙ ap (λ z. z ∷ drop (i + 1) ds) (sym c.decl-item.is) in
    numbers_more x old c.add.new.self (declared_rank (map declaration_of (drop (i + 1) ds)) x) d.name (length (declaration_of d).extents) (c.in_ok-add.ensures.added ∙ ap (λ r. with_value r d.name (length c.as_slice.result.now)) c.deref_mut.ensures.value ∙ ap (with_value old d.name) (ap length c.as_slice.ensures.members ∙ sym (length-map d.extents extent_of)))
    ∙ ap (λ z. option_or (value_of x old) (declared_rank (map declaration_of z) x)) (sym first)
    ∙ c.loop-decl.invariant x
