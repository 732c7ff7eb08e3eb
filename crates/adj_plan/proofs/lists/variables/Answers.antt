use Rattle.std.proofs.Common.{◌≡◌, ◌<◌, ◌≤◌, ◌++◌, ◌∷◌, [], length, map, take, ap, sym, ◌∙◌, subst, add-one}
use Rattle.std.proofs.Math.Seq.{take-suc}
use Rattle.std.proofs.lemmas.List.{map-append, take_all}
use Rattle.adj_plan.proofs.Rows.{variables_each}
use Rattle.adj_plan.proofs.lists.variables.Goals as goal

pub loop-unit-preserved : goal.loop-unit-preserved
loop-unit-preserved c =
    let rs = c.args.checked.now.variables in
    let i = c.loop-unit.unit in
    let many : length c.as_slice-count.result.now ≡ length rs = ap length c.as_slice-count.ensures.members ∙ ap (λ p. length p.units) c.program.ensures.program ∙ sym (variables_each c.args.checked.now c.program.ensures.facts) in
    let there : i < length rs = subst (λ n. i < n) many c.loop-unit-test.true in
    ap (map (λ b. b.now)) c.in_ok-push.ensures.items
    ∙ map-append (λ b. b.now) c.loop-unit.variables.items (c.variables.result ∷ [])
    ∙ (λ k. c.loop-unit.invariant k ++ (c.variables.ensures.variables k ∷ []))
    ∙ sym (take-suc rs i [] there) ∙ ap (λ k. take k rs) (sym (add-one i))

pub returns : goal.returns
returns c =
    let rs = c.args.checked.now.variables in
    let i = c.loop-unit.unit in
    let many : length c.as_slice-count.result.now ≡ length rs = ap length c.as_slice-count.ensures.members ∙ ap (λ p. length p.units) c.program.ensures.program ∙ sym (variables_each c.args.checked.now c.program.ensures.facts) in
    let past : length rs ≤ i = subst (λ n. n ≤ i) many c.loop-unit-test.false in
    record { all = c.loop-unit.invariant ∙ take_all i rs past }
