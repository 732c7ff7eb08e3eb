use Rattle.std.proofs.Common.{List, ℕ, [], ◌∷◌, ◌∙◌}
use Rattle.def_sweep.specs.MarkedProgram.{shadows_behind}
use Rattle.adj_naming.specs.Table.{table_of}
use Rattle.adj_sweep_assignment.specs.View.{marks_of}
use Rattle.adj_weave_units.proofs.Walks.{walked, shadows_behind-next}
use Rattle.adj_weave_units.proofs.shadows.with_shadows.Goals as goal

pub loop-x-preserved : goal.loop-x-preserved
loop-x-preserved c =
    let a = (marks_of c.args.marking.now).shadowed in
    let t = table_of c.args.n.now in
    walked (shadows_behind a t) (λ (x : List ℕ). shadows_behind a t (x ∷ [])) (shadows_behind-next a t) c.args.dummies.now c.loop-x.made.items c.push_with_shadow.new.made.items c.loop-x.x-index c.x-item.result c.loop-x-test.true c.x-item.is c.in_ok-push_with_shadow.ensures.names ∙ c.loop-x.invariant
