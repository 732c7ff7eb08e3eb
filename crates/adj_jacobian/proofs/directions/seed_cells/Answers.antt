use Rattle.std.proofs.Common.{rules, ℕ, ◌+◌, ◌++◌, ◌∷◌, [], ◌<◌, ◌≤◌, pos, drop, length, get_or, w64, FitsSigned, ap, ◌∙◌, arith}
use Rattle.std.specs.Prelude.{ℤ}
use Rattle.std.proofs.lemmas.Int.{to_z-of_z}
use Rattle.def_jacobian.specs.Groups.{seed}
use Rattle.adj_jacobian.specs.Walks.{one_by, cells_by, still_tangent}
use Rattle.adj_jacobian.proofs.Walking.{one_more, nothing_left, cell_turn, no_cell}
use Rattle.adj_jacobian.proofs.directions.seed_cells.Goals as goal

pub loop-j-preserved : goal.loop-j-preserved
loop-j-preserved c =
    let own : ℤ → ℕ → ℤ = λ z j. seed c.args.groups.now c.args.group j in
    let words = c.args.words.now in
    let cells = c.loop-j.cells.items in
    let j = c.loop-j.j in
    let first = c.args.first in
    let marked = c.args.marked in
    let test = c.loop-j-test.true in
    let lt : j < length words = omega (arith, test) in
    let fits : FitsSigned w64 c.seed_of.result = search rules in
    let rest = cells_by still_tangent own marked (drop (j + 1) words) (first + (j + 1)) in
    let x = one_by still_tangent own marked (get_or words j (pos 0)) (first + j) in
    ap (λ zs. zs ++ rest) (c.in_ok-push.ensures.items ∙ ap (λ z. cells ++ z ∷ []) (to_z-of_z w64 c.seed_of.result fits ∙ c.seed_of.ensures (get_or words j (pos 0))))
    ∙ one_more cells x rest _ _ (cell_turn still_tangent own marked words j first (pos 0) lt) c.loop-j.invariant

pub returns : goal.returns
returns c =
    let own : ℤ → ℕ → ℤ = λ z j. seed c.args.groups.now c.args.group j in
    let test = c.loop-j-test.false in
    let past : length c.args.words.now ≤ c.loop-j.j = omega (arith, test) in
    nothing_left c.loop-j.cells.items _ _ (no_cell still_tangent own c.args.marked c.args.words.now c.loop-j.j (c.args.first + c.loop-j.j) past) c.loop-j.invariant
