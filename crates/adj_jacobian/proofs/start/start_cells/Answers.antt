use Rattle.std.proofs.Common.{rules, ◌+◌, ◌++◌, ◌∷◌, [], ◌<◌, ◌≤◌, pos, drop, length, get_or, w64, FitsSigned, ap, ◌∙◌, arith}
use Rattle.std.proofs.lemmas.Int.{to_z-of_z}
use Rattle.adj_jacobian.specs.Walks.{one_by, cells_by}
use Rattle.adj_jacobian.proofs.Walking.{one_more, nothing_left, cell_turn, no_cell}
use Rattle.adj_jacobian.proofs.start.start_cells.Goals as goal

pub loop-j-preserved : goal.loop-j-preserved
loop-j-preserved g c =
    let of_word = g.N.Number.numbers.of_word in
    let own = g.S.Start.own c.args.start.now in
    let words = c.args.words.now in
    let cells = c.loop-j.cells.items in
    let j = c.loop-j.j in
    let first = c.args.first in
    let marked = c.args.marked in
    let test = c.loop-j-test.true in
    let lt : j < length words = omega (arith, test) in
    let fits : FitsSigned w64 (get_or words j (pos 0)) = search rules in
    let rest = cells_by of_word own marked (drop (j + 1) words) (first + (j + 1)) in
    ap (λ zs. zs ++ rest) (c.in_ok-push.ensures.items ∙ ap (λ z. cells ++ z ∷ []) (c.number_of.ensures ∙ ap (λ z. one_by of_word own marked z (first + j)) (to_z-of_z w64 (get_or words j (pos 0)) fits)))
    ∙ one_more cells (one_by of_word own marked (get_or words j (pos 0)) (first + j)) rest _ _ (cell_turn of_word own marked words j first (pos 0) lt) c.loop-j.invariant

pub returns : goal.returns
returns g c =
    let of_word = g.N.Number.numbers.of_word in
    let own = g.S.Start.own c.args.start.now in
    let test = c.loop-j-test.false in
    let past : length c.args.words.now ≤ c.loop-j.j = omega (arith, test) in
    nothing_left c.loop-j.cells.items _ _ (no_cell of_word own c.args.marked c.args.words.now c.loop-j.j (c.args.first + c.loop-j.j) past) c.loop-j.invariant
