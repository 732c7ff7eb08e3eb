-- The lists that are left lose their first members, whose product is added.
use Rattle.std.proofs.Common.{◌≡◌, ◌⊎◌, length, rules, ap, ◌∙◌, inl, inr}
use Rattle.std.specs.Slice.Iter.{iter_rest}
use Rattle.std.specs.Int.{w64, cast_signed}
use Rattle.adj_word.specs.Word.{IsWord}
use Rattle.adj_word.specs.Dot.{dot}
use Rattle.adj_word.proofs.Residues.{zero-add}
use Rattle.adj_word.proofs.DotProducts.{dot_turn, dot_end, wrap-dot}
use Rattle.adj_word.proofs.dots.dot.Goals as goal

pub loop-x-init : goal.loop-x-init
loop-x-init c =
    let pairs = c.into_iter-x-iterator.ensures.into_iter_gives in
    let first = ap (λ z. iter_rest z.a) pairs ∙ ap iter_rest c.zip-x-items.ensures.first ∙ c.iter.ensures.rest in
    let second = ap (λ z. iter_rest z.b) pairs ∙ c.zip-x-items.ensures.second.0 in
    let a = c.into_iter-x-iterator.result.a in
    let b = c.into_iter-x-iterator.result.b in
    zero-add _ ∙ wrap-dot (iter_rest a) (iter_rest b) ∙ (λ i. dot (first i) (second i))

pub loop-x-preserved : goal.loop-x-preserved
loop-x-preserved c =
    let x : IsWord c.in-Some.x.now = search rules in
    let y : IsWord c.in-Some.y.now = search rules in
    let steps = c.in-Some.ensures.steps in
    dot_turn _ _ _ _ _ (dot c.args.a.now c.args.b.now) _ _ _ _ x y c.mul.ensures c.add-sum.ensures steps.0 steps.1 c.loop-x.invariant

pub returns : goal.returns
returns c =
    let sum : IsWord (cast_signed w64 c.loop-x.sum-bits) = search rules in
    let over : (length (iter_rest c.loop-x.x-iterator.a) ≡ 0) ⊎ (length (iter_rest c.loop-x.x-iterator.b) ≡ 0) = elim c.in-None.ensures.steps [ inl e ↦ inl e.1.0 | inr e ↦ inr e.1.0 ] in
    let a = c.loop-x.x-iterator.a in
    let b = c.loop-x.x-iterator.b in
    dot_end _ (dot c.args.a.now c.args.b.now) (iter_rest a) (iter_rest b) sum over c.loop-x.invariant
