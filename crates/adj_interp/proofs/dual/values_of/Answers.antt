use Rattle.std.proofs.Common.{◌≡◌, ◌+◌, ◌<◌, [], ◌∷◌, ◌++◌, map, take, length, sym, ap, subst, ◌∙◌, arith}
use Rattle.std.proofs.lemmas.List.{take_more, map_push}
use Rattle.std.proofs.lemmas.List.Elements.{AllZip-push, length_all_zip}
use Rattle.adj_interp.specs.Dually.{AreTangents, IsTangent, dual_slots}
use Rattle.adj_interp.specs.Inputs.{entry_seen}
use Rattle.adj_interp.proofs.Worded.{dual_push}
use Rattle.adj_interp.proofs.dual.values_of.Goals as goal

pub loop-slot-preserved : goal.loop-slot-preserved
loop-slot-preserved c =
    let vs = c.loop-slot.values.items in
    let ts = c.loop-slot.tangents.items in
    let v = c.in_ok-value.value in
    let t = c.in_ok-value.tangent in
    let slots = c.args.slots.now in
    let i = c.loop-slot.slot-index in
    let test = c.loop-slot-test.true in
    let l : i < length slots = omega (arith, test) in
    let first = c.in_ok-push.ensures.items in
    let second = c.in_ok-push-2.ensures.items in
    let held = c.loop-slot.invariant in
    let next : take i slots ++ c.slot-item.result ∷ [] ≡ take (i + 1) slots = ap (λ z. take i slots ++ z ∷ []) c.slot-item.is ∙ sym (take_more slots i c.slot-item.result l) in
    record {
      tangents = subst (λ xs. AreTangents xs c.push-in-loop-slot.new.self.items) (sym first) (subst (AreTangents (vs ++ v ∷ [])) (sym second) (AllZip-push IsTangent vs ts v t held.tangents c.in_ok-value.ensures.tangent));
      same = (λ k. dual_slots (first k) (second k)) ∙ dual_push vs ts v t (sym (length_all_zip IsTangent vs ts held.tangents))
          ∙ (λ k. held.same k ++ c.in_ok-value.ensures.same k ∷ []) ∙ sym (map_push entry_seen (take i slots) c.slot-item.result) ∙ ap (map entry_seen) next;
    }
