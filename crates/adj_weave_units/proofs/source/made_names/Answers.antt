use Rattle.std.proofs.Common.{◌≡◌, ◌++◌, ◌∷◌, [], ◌+◌, map, drop, append-nil, ap, sym, ◌∙◌}
use Rattle.adj_tree.specs.View.{procedure_of}
use Rattle.def_names.specs.Fresh.{fresh}
use Rattle.def_sweep.specs.Names.{named_list}
use Rattle.adj_weave_units.proofs.Walks.{walked_on}
use Rattle.adj_weave_units.proofs.source.made_names.Goals as goal

pub loop-unit-init : goal.loop-unit-init
loop-unit-init c =
    let taken = c.in_ok-taken.ensures.names ∙ append-nil c.args.source.now in
    let us = map procedure_of c.args.units.now in
    λ i. c.new-made.ensures.items i ++ named_list c.args.ending.now (taken i) us

pub loop-unit-preserved : goal.loop-unit-preserved
loop-unit-preserved c =
    let taken = c.loop-unit.taken in
    let u = c.unit-item.result in
    let name = c.in_ok-name.name in
    let rest = map procedure_of (drop (c.loop-unit.unit-index + 1) c.args.units.now) in
    let is : name ≡ fresh (u.name ++ c.args.ending.now) taken = c.in_ok-name.ensures.name ∙ ap (λ b. fresh b taken) (c.bytes-in-loop-unit.ensures.bytes ∙ c.in_ok-base.ensures.name ∙ ap (λ y. y ++ c.args.ending.now) c.bytes.ensures.bytes) in
    walked_on procedure_of (named_list c.args.ending.now taken) (named_list c.args.ending.now c.give.new.self) c.args.units.now c.loop-unit.made.items c.push.new.self.items (name ∷ []) c.loop-unit.unit-index u c.loop-unit-test.true c.unit-item.is c.in_ok-push.ensures.items
    (ap (λ z. z ∷ named_list c.args.ending.now (taken ++ (z ∷ [])) rest) (sym is) ∙ ap (λ t. name ∷ named_list c.args.ending.now t rest) (sym c.in_ok-name.ensures.taken))
    ∙ c.loop-unit.invariant
