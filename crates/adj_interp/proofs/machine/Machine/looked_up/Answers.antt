use Rattle.std.proofs.Common.{rules, ◌≡◌, ◌-◌, w64, sym, ap, ◌∙◌}
use Rattle.std.proofs.lemmas.Int.{to_z-of_z}
use Rattle.def_meaning.specs.Runtime.{steps_of, snapshots_of, action_at}
use Rattle.std.specs.Prelude.{Err}
use Rattle.adj_revolve.specs.Schedule.{schedule_of}
use Rattle.adj_interp_frame.specs.Framed.{trap_of, result_of}
use Rattle.adj_interp.proofs.Plans.{looked_up, found_within}
use Rattle.adj_interp.proofs.machine.Machine.looked_up.Goals as goal

pub returns-in_err-number-clause-action : goal.returns-in_err-number-clause-action
returns-in_err-number-clause-action g c =
    let r : c.from_residual-in_err-number.result ≡ Err c.in_err-number.field-0.0 = search rules in
    let l = c.in_ok-steps.steps in
    let k = c.in_ok-snapshots.snapshots in
    let steps = to_z-of_z w64 c.args.steps c.ranges.steps in
    let snapshots = to_z-of_z w64 c.args.snapshots c.ranges.snapshots in
    let number = to_z-of_z w64 c.args.number c.ranges.number in
    ap result_of r
    ∙ looked_up c.args.steps c.args.snapshots c.args.number l k (Err (trap_of c.in_err-number.field-0.0)) (c.in_ok-steps.ensures.steps ∙ ap steps_of steps) (c.in_ok-snapshots.ensures.snapshots ∙ ap snapshots_of snapshots)
    (sym (c.in_err-number.ensures.ordinal (schedule_of 0 l k)) ∙ ap (λ z. action_at z (schedule_of 0 l k)) number)

pub returns-clause-within : goal.returns-clause-within
returns-clause-within g c =
    let l = c.in_ok-steps.steps in
    let k = c.in_ok-snapshots.snapshots in
    let at = c.in_ok-number.number - 1 in
    found_within l k at c.action_by.result c.ok_or.result c.in_ok-snapshots.ensures.some c.in_ok-steps.ensures.within c.action_by.ensures c.ok_or.ensures.ok_part
