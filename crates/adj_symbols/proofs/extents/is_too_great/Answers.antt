use Rattle.std.proofs.Common.{pos, ap, sym, map, ◌∙◌, ◌∷◌, ◌+◌, drop}
use Rattle.std.specs.Prelude.{◌*ℤ◌}
use Rattle.std.specs.List.{list_any}
use Rattle.std.proofs.lemmas.List.{drop_more}
use Rattle.adj_tree.specs.View.{extent_of, procedure_of}
use Rattle.def_names.specs.NameFaults.{is_bad_extent, literal_product}
use Rattle.adj_symbols.proofs.Products.{good_literal, good_rest, product_more, product_great, from_literal}
use Rattle.adj_symbols.proofs.extents.is_too_great.Goals as goal

pub literal-requires : goal.literal-requires
literal-requires c =
    let es = c.args.extents.now in
    let i = c.loop-extent.extent-index in
    let e = c.extent-item.result in
    let u = procedure_of c.args.outline.now in
    let first = drop_more es i e c.loop-extent-test.true ∙ ap (λ z. z ∷ drop (i + 1) es) (sym c.extent-item.is) in
    good_literal u (extent_of e) (map extent_of (drop (i + 1) es)) (sym (ap (λ z. list_any (is_bad_extent u) (map extent_of z)) first) ∙ c.loop-extent.invariant.good)

pub size-requires : goal.size-requires
size-requires c =
    let es = c.args.extents.now in
    let i = c.loop-extent.extent-index in
    let e = c.extent-item.result in
    let u = procedure_of c.args.outline.now in
    let first = drop_more es i e c.loop-extent-test.true ∙ ap (λ z. z ∷ drop (i + 1) es) (sym c.extent-item.is) in
    record {
      least = c.loop-extent.invariant.least;
      most = c.loop-extent.invariant.most;
      number = from_literal (extent_of e) c.literal.result (good_literal u (extent_of e) (map extent_of (drop (i + 1) es)) (sym (ap (λ z. list_any (is_bad_extent u) (map extent_of z)) first) ∙ c.loop-extent.invariant.good)) c.literal.ensures;
    }

pub returns-in-None : goal.returns-in-None
returns-in-None c =
    let es = c.args.extents.now in
    let i = c.loop-extent.extent-index in
    let e = c.extent-item.result in
    let u = procedure_of c.args.outline.now in
    let first = drop_more es i e c.loop-extent-test.true ∙ ap (λ z. z ∷ drop (i + 1) es) (sym c.extent-item.is) in
    product_great u c.loop-extent.product c.literal.result (extent_of e) (map extent_of (drop (i + 1) es)) (literal_product (map extent_of es))
    (sym (ap (λ z. list_any (is_bad_extent u) (map extent_of z)) first) ∙ c.loop-extent.invariant.good) c.literal.ensures c.in-None.ensures.size
    (sym (ap (λ z. pos c.loop-extent.product *ℤ literal_product (map extent_of z)) first) ∙ c.loop-extent.invariant.product)

pub loop-extent-preserved : goal.loop-extent-preserved
loop-extent-preserved c =
    let es = c.args.extents.now in
    let i = c.loop-extent.extent-index in
    let e = c.extent-item.result in
    let u = procedure_of c.args.outline.now in
    let first = drop_more es i e c.loop-extent-test.true ∙ ap (λ z. z ∷ drop (i + 1) es) (sym c.extent-item.is) in
    record {
      least = c.in-Some.ensures.size.1;
      most = c.in-Some.ensures.size.2;
      good = good_rest u (extent_of e) (map extent_of (drop (i + 1) es)) (sym (ap (λ z. list_any (is_bad_extent u) (map extent_of z)) first) ∙ c.loop-extent.invariant.good);
      product =
          product_more u c.loop-extent.product c.literal.result c.in-Some.next (extent_of e) (map extent_of (drop (i + 1) es)) (sym (ap (λ z. list_any (is_bad_extent u) (map extent_of z)) first) ∙ c.loop-extent.invariant.good) c.literal.ensures c.in-Some.ensures.size.0
          ∙ sym (ap (λ z. pos c.loop-extent.product *ℤ literal_product (map extent_of z)) first) ∙ c.loop-extent.invariant.product;
    }
