use Rattle.std.proofs.Common.{List, ℕ, [], ◌∷◌, ◌∙◌}
use Rattle.def_sweep.specs.Marked.{names_in}
use Rattle.adj_sweep_assignment.specs.View.{marks_of}
use Rattle.adj_weave_units.proofs.Walks.{walked, names_in-next}
use Rattle.adj_weave_units.proofs.shadows.shadowed.Goals as goal

pub loop-x-preserved : goal.loop-x-preserved
loop-x-preserved c =
    let a = (marks_of c.args.marking.now).shadowed in
    walked (names_in a) (λ (x : List ℕ). names_in a (x ∷ [])) (names_in-next a) c.args.variables.now c.loop-x.made.items c.push_shadowed.new.made.items c.loop-x.x-index c.x-item.result c.loop-x-test.true c.x-item.is c.in_ok-push_shadowed.ensures.names ∙ c.loop-x.invariant
