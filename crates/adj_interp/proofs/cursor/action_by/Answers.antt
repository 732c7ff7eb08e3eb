use Rattle.std.proofs.Common.{rules, ◌≡◌, ◌-◌, true, ap, ◌∙◌}
use Rattle.std.specs.Prelude.{◌==◌, ◌&&◌, slice_get}
use Rattle.adj_interp.specs.Tallied.{Plan, planned}
use Rattle.adj_interp.proofs.Plans.{same_plan}
use Rattle.adj_interp.proofs.cursor.action_by.Goals as goal

pub returns-in-Some : goal.returns-in-Some
returns-in-Some c =
    let yes : (c.in-Some.cursor.value.steps == c.args.steps && c.in-Some.cursor.value.snapshots == c.args.snapshots) ≡ true = search rules in
    c.action-action.ensures.action ∙ ap (λ (z : Plan). slice_get (planned z) (c.args.number - 1)) (c.deref_mut.ensures.value ∙ same_plan c.in-Some.cursor.value c.args.steps c.args.snapshots yes)
