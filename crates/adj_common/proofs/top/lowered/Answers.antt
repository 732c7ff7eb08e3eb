use Rattle.std.proofs.Common.{◌≤◌, ◌+◌, ◌++◌, ◌∷◌, [], length, map, drop, sym, ap, ◌∙◌, append-nil, append_assoc, subst, arith}
use Rattle.std.proofs.lemmas.List.{drop-map, drop_all, map_push, length-map}
use Rattle.adj_tree.specs.View.{procedure_of}
use Rattle.adj_tree.specs.CommonView.{shared_of}
use Rattle.adj_naming.proofs.Places.{from_here}
use Rattle.adj_common.specs.Lowering.{lowered_by, all_lowered}
use Rattle.adj_common.specs.Views.{own_of, known_of}
use Rattle.adj_common.proofs.Made.{no_unit}
use Rattle.adj_common.proofs.top.lowered.Goals as goal
use Rattle.adj_common.proofs.top.lowered.Goals.{in-Some+in_ok-lower_unit+in_ok-push, in_default}

pub loop-unit-preserved : goal.loop-unit-preserved
loop-unit-preserved c =
    let k = known_of c.args.text in
    let us = c.args.units.now in
    let os = c.args.text.owns.now in
    let i = c.loop-unit.unit in
    let u = c.index-units-unit.result in
    let made = map procedure_of c.loop-unit.out.items in
    let later = map shared_of (drop (i + 1) us) in
    let units = ap (map shared_of) (from_here us i u c.loop-unit-test.true c.index-units-unit.is) in
    elim c.match-get.branch [
      | in-Some+in_ok-lower_unit+in_ok-push w ↦
          let o = w.in-Some.own.now in
          let found = w.in-Some.ensures.lookup in
          let rest = drop (i + 1) (map own_of os) in
          let owns = drop-map own_of i os ∙ ap (map own_of) (from_here os i o found.3.0 found.1) ∙ ap (λ z. own_of o ∷ z) (sym (drop-map own_of (i + 1) os)) in
          let p = w.in_ok-lower_unit.field-0 in
          let pushed = ap (λ v. map procedure_of v.items) w.out-is ∙ ap (map procedure_of) w.in_ok-push.ensures.items ∙ map_push procedure_of c.loop-unit.out.items p ∙ ap (λ z. made ++ z ∷ []) w.in_ok-lower_unit.ensures.unit in
          ap (λ z. z ++ all_lowered k rest later) pushed
          ∙ append_assoc made (lowered_by k (own_of o) (shared_of u) ∷ []) (all_lowered k rest later)
          ∙ (λ j. made ++ all_lowered k (sym owns j) (sym units j))
          ∙ c.loop-unit.invariant
      | in_default w ↦
          let past : length (map own_of os) ≤ i = subst (λ n. n ≤ i) (sym (length-map os own_of)) w.in_default.ensures.lookup.3 in
          (λ j. map procedure_of (w.out-is j).items ++ all_lowered k (drop_all (i + 1) (map own_of os) (omega arith) j) later)
          ∙ (λ j. made ++ all_lowered k (sym (drop_all i (map own_of os) past) j) (map shared_of (drop i us)))
          ∙ c.loop-unit.invariant
    ]

pub returns : goal.returns
returns c =
    let k = known_of c.args.text in
    let us = c.args.units.now in
    let i = c.loop-unit.unit in
    let made = map procedure_of c.loop-unit.out.items in
    let left = drop i k.owns in
    record {
      lowered =
          sym (append-nil made)
          ∙ ap (λ z. made ++ z) (sym (no_unit k left))
          ∙ ap (λ z. made ++ all_lowered k left (map shared_of z)) (sym (drop_all i us c.loop-unit-test.false))
          ∙ c.loop-unit.invariant;
    }
