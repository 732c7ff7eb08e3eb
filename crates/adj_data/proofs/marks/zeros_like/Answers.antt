use Rattle.std.proofs.Common.{◌<◌, ◌++◌, ◌∷◌, [], map, take, length, get_or, pos, ap, sym, subst, ◌∙◌, add-one}
use Rattle.std.proofs.Math.Seq.{take-suc}
use Rattle.std.proofs.lemmas.List.{map_push}
use Rattle.adj_data.proofs.marks.zeros_like.Goals as goal

pub loop-cell-preserved : goal.loop-cell-preserved
loop-cell-preserved c =
    let xs = c.args.slot.now.cells in
    let i = c.loop-cell._cell-index in
    let within : i < length xs = subst (λ l. i < length l) c.as_slice-cell-items.ensures.members c.loop-cell-test.true in
    c.in_ok-push.ensures.items ∙ ap (λ l. l ++ (pos 0 ∷ [])) c.loop-cell.invariant
    ∙ sym (ap (λ k. map (λ z. pos 0) (take k xs)) (add-one i) ∙ ap (map (λ z. pos 0)) (take-suc xs i (pos 0) within) ∙ map_push (λ z. pos 0) (take i xs) (get_or xs i (pos 0)))
