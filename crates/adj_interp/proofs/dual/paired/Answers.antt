use Rattle.std.proofs.Common.{rules, FitsSigned, ◌<◌, [], ◌∷◌, ◌++◌, pos, w64, length, take, get_or, sym, ◌∙◌, arith}
use Rattle.std.specs.List.{zip}
use Rattle.std.proofs.lemmas.Int.{to_z-of_z}
use Rattle.std.proofs.lemmas.List.{get_or_default}
use Rattle.adj_interp.proofs.Worded.{zip_next}
use Rattle.adj_interp.proofs.dual.paired.Goals as goal

pub loop-i-preserved : goal.loop-i-preserved
loop-i-preserved c =
    let ws = c.args.words.now in
    let ts = c.args.tangents.now in
    let i = c.loop-i.i in
    let test = c.loop-i-test.true in
    let same = c.requires in
    let l : i < length ws = omega (arith, test) in
    let m : i < length ts = omega (arith, test, same) in
    let fits : FitsSigned w64 (get_or ws i (pos 0)) = search rules in
    let fits_too : FitsSigned w64 (get_or ts i (pos 0)) = search rules in
    let v = to_z-of_z w64 (get_or ws i (pos 0)) fits in
    let t = to_z-of_z w64 (get_or ts i (pos 0)) fits_too in
    rw c.in_ok-push.ensures.items (rw c.loop-i.invariant
    ((λ k. zip (take i ws) (take i ts) ++ (v k, t k) ∷ []) ∙ sym (zip_next ws ts i (get_or ws i (pos 0)) (get_or ts i (pos 0)) l m (get_or_default ws i (pos 0) _ l) (get_or_default ts i (pos 0) _ m))))
