use Rattle.std.proofs.Common.{◌<◌, ◌≤◌, [], ◌∷◌, ◌++◌, map, length, sym, ap, ◌∙◌, arith}
use Rattle.std.proofs.lemmas.List.{take_all, map_push}
use Rattle.std.proofs.lemmas.List.Elements.{length_all_zip}
use Rattle.adj_interp.specs.Dually.{IsTangent, dual_slots}
use Rattle.adj_interp.specs.Inputs.{entry_seen}
use Rattle.adj_interp.proofs.Worded.{dual_next}
use Rattle.adj_interp.proofs.dual.slots_of.Goals as goal

pub loop-i-preserved : goal.loop-i-preserved
loop-i-preserved c =
    let vs = c.args.input.now in
    let ts = c.args.tangents.now in
    let i = c.loop-i.i in
    let test = c.loop-i-test.true in
    let same = length_all_zip IsTangent vs ts c.requires in
    let l : i < length vs = omega (arith, test) in
    let m : i < length ts = omega (arith, test, same) in
    ap (map entry_seen) c.in_ok-push.ensures.items ∙ map_push entry_seen c.loop-i.slots.items c.in_ok-slot.slot
    ∙ (λ k. c.loop-i.invariant k ++ c.in_ok-slot.ensures k ∷ []) ∙ sym (dual_next vs ts i c.index-input-i.result c.index-tangents-i.result l m c.index-input-i.is c.index-tangents-i.is)

pub returns : goal.returns
returns c =
    let vs = c.args.input.now in
    let ts = c.args.tangents.now in
    let test = c.loop-i-test.false in
    let same = length_all_zip IsTangent vs ts c.requires in
    let l : length vs ≤ c.loop-i.i = omega (arith, test) in
    let m : length ts ≤ c.loop-i.i = omega (arith, test, same) in
    c.loop-i.invariant ∙ (λ k. dual_slots (take_all c.loop-i.i vs l k) (take_all c.loop-i.i ts m k))
