use Rattle.std.proofs.Common.{◌≡◌, ◌++◌, ◌∷◌, [], map, sym, ap, ◌∙◌, append_assoc, arith}
use Rattle.std.proofs.lemmas.List.{map_push}
use Rattle.def_jacobian.specs.Recovered.{from}
use Rattle.adj_jacobian_groups.specs.View.{place_of}
use Rattle.adj_jacobian.proofs.Placing.{cell_of, cells_more}
use Rattle.adj_jacobian.proofs.cells.add_cells.Goals as goal

pub loop-j-preserved : goal.loop-j-preserved
loop-j-preserved c =
    let d = c.args.dummy in
    let j = c.loop-j.j in
    let old = map place_of c.args.cells.now.items in
    ap (map place_of) c.in_ok-push.ensures.items ∙ map_push place_of c.loop-j.cells.items _ ∙ ap (λ zs. zs ++ cell_of d j ∷ []) c.loop-j.invariant
    ∙ append_assoc old (map (cell_of d) (from 0 j)) (cell_of d j ∷ []) ∙ ap (λ zs. old ++ zs) (sym (cells_more d j))

pub returns : goal.returns
returns c =
    let d = c.args.dummy in
    let test = c.loop-j-test.false in
    let past = c.loop-j.auto.j-end in
    let same : c.loop-j.j ≡ c.args.count = omega (arith, test, past) in
    c.loop-j.invariant ∙ ap (λ n. map place_of c.args.cells.now.items ++ map (cell_of d) (from 0 n)) same
