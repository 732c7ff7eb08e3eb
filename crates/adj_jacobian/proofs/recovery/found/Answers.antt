use Rattle.std.proofs.Common.{rules, map, w64, FitsSigned, sym, ap, ◌∙◌}
use Rattle.std.proofs.lemmas.Int.{to_z-of_z}
use Rattle.def_meaning.specs.Numbers.{words}
use Rattle.def_jacobian.specs.Patterns.{held}
use Rattle.adj_interp.specs.Concludes.{slot_seen}
use Rattle.adj_jacobian_groups.specs.View.{place_of}
use Rattle.adj_jacobian.specs.Products.{tangent_in}
use Rattle.adj_jacobian.proofs.Holding.{product_at, product_past}
use Rattle.adj_jacobian.proofs.recovery.found.Goals as goal

pub returns-in-Some : goal.returns-in-Some
returns-in-Some c =
    let ps = c.args.products.now in
    let at = place_of c.args.at in
    let found = c.in-Some.ensures.lookup in
    let fits : FitsSigned w64 c.word_at.result = search rules in
    to_z-of_z w64 c.word_at.result fits ∙ c.word_at.ensures ∙ ap (λ vs. held words (map slot_seen vs) c.args.at.dummy c.args.at.cell) c.as_slice.ensures.members
    ∙ sym (product_at ps c.group_of-group.result at c.in-Some.product.now found.3.0 found.1) ∙ ap (λ g. tangent_in ps g at) c.group_of-group.ensures

pub returns-in-None : goal.returns-in-None
returns-in-None c =
    let ps = c.args.products.now in
    let at = place_of c.args.at in
    sym (product_past ps c.group_of-group.result at c.in-None.ensures.lookup.3) ∙ ap (λ g. tangent_in ps g at) c.group_of-group.ensures
