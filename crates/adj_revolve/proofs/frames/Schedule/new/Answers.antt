use Rattle.std.proofs.Common.{rules, subst, sym, ◌∙◌, ◌≤◌, ◌*◌, ap, length}
use Rattle.adj_revolve.specs.Machine.{Plays, total_cost, advances_over}
use Rattle.adj_revolve.proofs.ScheduleLemmas.{schedule_plays, schedule_cost, schedule_leads, length-schedule_of}
use Rattle.adj_revolve.proofs.frames.Schedule.new.Goals as goal

pub returns-clause-list : goal.returns-clause-list
returns-clause-list c = search rules

pub returns-clause-plays : goal.returns-clause-plays
returns-clause-plays c = subst (λ xs. Plays c.args.steps c.args.snapshots xs) (sym (returns-clause-list c)) (schedule_plays c.args.steps c.args.snapshots c.requires.some)

pub returns-clause-cost : goal.returns-clause-cost
returns-clause-cost c = ap total_cost (returns-clause-list c) ∙ schedule_cost 0 c.args.steps c.args.snapshots c.requires.some

pub returns-clause-short : goal.returns-clause-short
returns-clause-short c = subst (λ xs. length xs ≤ 4 * c.args.steps) (sym (returns-clause-list c)) (length-schedule_of 0 c.args.steps c.args.snapshots c.requires.some)

pub returns-clause-over : goal.returns-clause-over
returns-clause-over c step r enough =
    subst (λ xs. advances_over step xs ≤ r) (sym (returns-clause-list c)) (schedule_leads step c.args.steps c.args.snapshots c.requires.some r enough)
