use Rattle.std.proofs.Common.{rules, ◌≡◌, ◌+◌, ◌++◌, ◌∷◌, [], ◌<◌, ◌≤◌, map, drop, length, get_or, w64, FitsSigned, ap, ◌∙◌, arith}
use Rattle.std.proofs.lemmas.Int.{to_z-of_z}
use Rattle.std.proofs.lemmas.List.{map_push}
use Rattle.def_jacobian.specs.Recovered.{entries_of_row, found}
use Rattle.adj_jacobian_groups.specs.View.{place_of}
use Rattle.adj_jacobian.specs.Products.{entry_of, tangent_in}
use Rattle.adj_jacobian.proofs.Walking.{one_more, nothing_left}
use Rattle.adj_jacobian.proofs.Entering.{column_turn, no_column}
use Rattle.adj_jacobian.proofs.recovery.add_row.Goals as goal

pub loop-column-preserved : goal.loop-column-preserved
loop-column-preserved c =
    let items = c.as_slice-column-items.result.now in
    let k = c.loop-column.column-index in
    let all = c.loop-column.all.items in
    let n = c.args.number in
    let a = place_of c.args.row.now.at in
    let value = found c.args.groups.now (tangent_in c.args.products.now) in
    let test = c.loop-column-test.true in
    let lt : k < length items = omega (arith, test) in
    let fits : FitsSigned w64 c.found.result = search rules in
    let new : map entry_of c.push.new.self.items ≡ map entry_of all ++ record { row = n; col = get_or items k 0; value = value a (get_or items k 0) } ∷ [] =
    ap (map entry_of) c.in_ok-push.ensures.items ∙ map_push entry_of all _
    ∙ ap (λ z. map entry_of all ++ record { row = n; col = get_or items k 0; value = z } ∷ []) (to_z-of_z w64 c.found.result fits ∙ c.found.ensures) in
    ap (λ es. es ++ entries_of_row value n a (drop (k + 1) items)) new
    ∙ one_more (map entry_of all) (record { row = n; col = get_or items k 0; value = value a (get_or items k 0) }) _ _ _ (column_turn value n a items k 0 lt) c.loop-column.invariant

pub returns : goal.returns
returns c =
    let value = found c.args.groups.now (tangent_in c.args.products.now) in
    let test = c.loop-column-test.false in
    let past : length c.as_slice-column-items.result.now ≤ c.loop-column.column-index = omega (arith, test) in
    nothing_left (map entry_of c.loop-column.all.items) _ _ (no_column value c.args.number (place_of c.args.row.now.at) c.as_slice-column-items.result.now c.loop-column.column-index past) c.loop-column.invariant
    ∙ (λ k. map entry_of c.args.all.now.items ++ entries_of_row value c.args.number (place_of c.args.row.now.at) (c.as_slice-column-items.ensures.numbers k))
