-- The unit at hand has no more variables than the greater number, and this is low.
use Rattle.std.proofs.Common.{rules, ◌≡◌, ◌<◌, ◌≤◌, ◌^◌, ◌++◌, ◌∷◌, [], All, max, map, take, length, ap, sym, subst, ◌∙◌, arith}
use Rattle.std.specs.Prelude.{Contains}
use Rattle.std.proofs.lemmas.List.{take_more, take_all}
use Rattle.std.proofs.lemmas.List.Elements.{All-push, All-weaker, All-contains, Contains-get_or}
use Rattle.adj_reach.proofs.Members.{map_has}
use Rattle.adj_flow.proofs.units.width.Goals as goal

pub loop-names-preserved : goal.loop-names-preserved
loop-names-preserved c =
    let vs = c.args.variables.now in
    let i = c.loop-names.names-index in
    let x = c.names-item.result in
    let most : c.max-width.result ≡ max c.loop-names.width (length c.as_slice.result.now) = search rules in
    let m : length c.as_slice.result.now ≡ length c.names-item.result.now = ap length c.as_slice.ensures.members in
    let low : length c.names-item.result.now < 2 ^ 30 = All-contains (λ ns. length ns < 2 ^ 30) (map (λ b. b.now) vs) x.now c.requires.narrow (map_has (λ b. b.now) vs x (subst (λ z. Contains vs z) (sym c.names-item.is) (Contains-get_or vs i x c.loop-names-test.true))) in
    let older : All (λ v. length v.now ≤ c.max-width.result) (take c.loop-names.names-index c.args.variables.now) = All-weaker (λ v. length v.now ≤ c.loop-names.width) (λ v. length v.now ≤ c.max-width.result) (λ v h. omega (arith, h, most)) (take i vs) c.loop-names.invariant.all in
    let own : length c.names-item.result.now ≤ c.max-width.result = omega (arith, most, m) in
    record {
      low = omega (arith, most, m, low, c.loop-names.invariant.low);
      all = subst (λ zs. All (λ v. length v.now ≤ c.max-width.result) zs) (sym (take_more vs i x c.loop-names-test.true ∙ ap (λ z. take i vs ++ z ∷ []) (sym c.names-item.is))) (All-push (λ v. length v.now ≤ c.max-width.result) (take i vs) x older own);
    }

pub returns-clause-width : goal.returns-clause-width
returns-clause-width c = subst (λ zs. All (λ v. length v.now ≤ c.loop-names.width) zs) (take_all c.loop-names.names-index c.args.variables.now c.loop-names-test.false) c.loop-names.invariant.all
