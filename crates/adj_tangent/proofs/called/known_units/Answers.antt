use Rattle.std.proofs.Common.{◌<◌, ◌≤◌, ◌+◌, ◌++◌, ◌∷◌, [], length, map, drop, append-nil, append_assoc, ap, sym, ◌∙◌, subst}
use Rattle.std.proofs.lemmas.List.{drop_all, map-append}
use Rattle.adj_tree.specs.View.{procedure_of}
use Rattle.adj_tangent.specs.Flagged.{carried_told}
use Rattle.adj_tangent.specs.Known.{said, said_of}
use Rattle.adj_tangent.proofs.Known.{said_on}
use Rattle.adj_tangent.proofs.called.known_units.Goals as goal

pub known_unit-requires : goal.known_unit-requires
known_unit-requires c = record { unit = subst (λ n. c.loop-k.k < n) (ap length c.units_of-units.ensures.units ∙ sym c.requires.units) c.loop-k-test.true }

pub bounds-tangents-k : goal.bounds-tangents-k
bounds-tangents-k c = subst (λ n. c.loop-k.k < n) (ap length c.units_of-units.ensures.units ∙ sym c.requires.named) c.loop-k-test.true

pub loop-k-init : goal.loop-k-init
loop-k-init c = λ i. map said (c.new-made.ensures.items i) ++ said_of (carried_told c.args.carried.now) 0 (map procedure_of (c.units_of-units.ensures.units i)) c.args.tangents.now

pub loop-k-preserved : goal.loop-k-preserved
loop-k-preserved c =
    let on = carried_told c.args.carried.now in
    let many = c.units_of-units.ensures.units in
    let us = c.units_of-units.result.now in
    let xs = c.args.tangents.now in
    let k = c.loop-k.k in
    let lt : k < length us = c.loop-k-test.true in
    let named : k < length xs = subst (λ n. k < n) (ap length many ∙ sym c.requires.named) lt in
    let own = c.in_ok-known.known in
    let made = map said c.loop-k.made.items in
    let rest = said_of on (k + 1) (map procedure_of (drop (k + 1) us)) (drop (k + 1) xs) in
    ap (λ z. map said z ++ rest) c.in_ok-push.ensures.items
    ∙ ap (λ z. z ++ rest) (map-append said c.loop-k.made.items (own ∷ []))
    ∙ append_assoc made (said own ∷ []) rest
    ∙ ap (λ z. made ++ z ∷ rest) c.in_ok-known.ensures.known
    ∙ ap (λ z. made ++ z) (sym (said_on on k us xs c.index-units-k.result c.index-tangents-k.result lt c.index-units-k.is named c.index-tangents-k.is))
    ∙ c.loop-k.invariant

pub returns : goal.returns
returns c =
    let on = carried_told c.args.carried.now in
    let us = c.units_of-units.result.now in
    let k = c.loop-k.k in
    let made = map said c.loop-k.made.items in
    let past : length us ≤ k = c.loop-k-test.false in
    record {
      known = sym (ap (λ z. made ++ said_of on k (map procedure_of z) (drop k c.args.tangents.now)) (drop_all k us past) ∙ append-nil made) ∙ c.loop-k.invariant;
    }
