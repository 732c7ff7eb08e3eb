use Rattle.std.proofs.Common.{ℕ, List, ◌∷◌, [], ◌++◌, map, refl, ap, ◌∙◌}
use Rattle.adj_tree.specs.View.{procedure_of}
use Rattle.def_sweep.specs.Declared.{unit_name}
use Rattle.adj_weave_units.proofs.Walks.{walked_on}
use Rattle.adj_weave_units.proofs.source.unit_names.Goals as goal

pub loop-unit-preserved : goal.loop-unit-preserved
loop-unit-preserved c =
    let u = c.unit-item.result in
    let made = c.loop-unit.made.items in
    walked_on procedure_of (map unit_name) (map unit_name) c.args.units.now made c.push.new.self.items (u.name ∷ []) c.loop-unit.unit-index u c.loop-unit-test.true c.unit-item.is
    (◌∙◌ {A = List (List ℕ)} c.in_ok-push.ensures.items (ap (λ v. made ++ (v ∷ [])) c.in_ok-copy.ensures.same)) refl
    ∙ c.loop-unit.invariant
