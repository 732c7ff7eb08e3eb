use Rattle.std.proofs.Common.{rules, FitsSigned, ◌≡◌, ◌*◌, min, true, pos, w64, take, get_or, ap, subst, sym, ◌∙◌, add-one}
use Rattle.std.specs.Prelude.{int_lt, int_le, ◌&&◌}
use Rattle.std.proofs.Math.IntN.{nat_abs}
use Rattle.std.proofs.Math.Seq.{take-suc}
use Rattle.std.proofs.lemmas.Int.{to_z-of_z}
use Rattle.def_meaning.specs.Units.{elements}
use Rattle.adj_data.proofs.Elements.{Multiplied, multiplied_more, from_one, extents_low}
use Rattle.adj_data.proofs.slots.elements.Goals as goal

pub returns-then-extent-lt1 : goal.returns-then-extent-lt1
returns-then-extent-lt1 c =
    let xs = c.args.extents.now in
    let i = c.loop-extent.extent-index in
    let fits : FitsSigned w64 (get_or xs i (pos 0)) = search rules in
    let low : int_lt (get_or xs i (pos 0)) (pos 1) ≡ true = ap (λ z. int_lt z (pos 1)) (sym (to_z-of_z w64 (get_or xs i (pos 0)) fits)) ∙ c.if-extent-lt1.true in
    ap (λ b. b && int_le (elements xs) (pos 1048576)) (extents_low xs i (pos 0) c.loop-extent-test.true low)

pub loop-extent-preserved : goal.loop-extent-preserved
loop-extent-preserved c =
    let xs = c.args.extents.now in
    let i = c.loop-extent.extent-index in
    let x = get_or xs i (pos 0) in
    let fits : FitsSigned w64 (get_or xs i (pos 0)) = search rules in
    let cast = to_z-of_z w64 x fits in
    let some = from_one x (ap (λ z. int_lt z (pos 1)) (sym cast) ∙ c.if-extent-lt1.false) in
    let next : c.saturating_mul-count.result ≡ min (c.loop-extent.count * some.0) 18446744073709551615 = c.saturating_mul-count.ensures ∙ ap (λ k. min (c.loop-extent.count * k) 18446744073709551615) (ap nat_abs (cast ∙ some.1)) in
    subst (λ l. Multiplied l c.saturating_mul-count.result) (sym (ap (λ k. take k xs) (add-one i) ∙ take-suc xs i (pos 0) c.loop-extent-test.true))
    (multiplied_more (take i xs) x c.loop-extent.count some.0 c.saturating_mul-count.result c.loop-extent.invariant some.1 some.2 next)
