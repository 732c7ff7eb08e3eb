use Rattle.std.proofs.Common.{◌-◌, ◌≤◌, ◌<◌, ◌∙◌, sym, ap, subst, arith}
use Rattle.adj_revolve.specs.Binomial.{beta}
use Rattle.adj_revolve_count.specs.Rows.{IsRow, row_steps}
use Rattle.adj_revolve_count.proofs.RowLemmas.{short_lower, full_lower, row_with, row_full, row_length}
use Rattle.adj_revolve_count.proofs.row.Row.lower.Goals as goal

pub overflow_sub-self-then-self-again : goal.overflow_sub-self-then-self-again
overflow_sub-self-then-self-again c =
    let short : c.args.self.extra < beta (c.args.self.snapshots - 1) c.args.self.repetitions = omega (arith, c.steps_up_to-again.ensures, c.if-self-again.true) in
    (short_lower c.args.self.snapshots c.args.self.repetitions c.args.self.extra c.requires.row.some c.requires.two short).pos

pub returns-then-self-again-clause-row : goal.returns-then-self-again-clause-row
returns-then-self-again-clause-row c =
    let short : c.args.self.extra < beta (c.args.self.snapshots - 1) c.args.self.repetitions = omega (arith, c.steps_up_to-again.ensures, c.if-self-again.true) in
    let lower = short_lower c.args.self.snapshots c.args.self.repetitions c.args.self.extra c.requires.row.some c.requires.two short in
    subst IsRow (sym c.with.ensures) (row_with c.args.self (c.args.self.repetitions - 1) c.requires.row (omega arith) lower.short)

pub returns-then-self-again-clause-steps : goal.returns-then-self-again-clause-steps
returns-then-self-again-clause-steps c =
    let short : c.args.self.extra < beta (c.args.self.snapshots - 1) c.args.self.repetitions = omega (arith, c.steps_up_to-again.ensures, c.if-self-again.true) in
    ap row_steps c.with.ensures ∙ (short_lower c.args.self.snapshots c.args.self.repetitions c.args.self.extra c.requires.row.some c.requires.two short).steps

pub returns-clause-row : goal.returns-clause-row
returns-clause-row c = row_full c.args.self c.requires.row

pub returns-clause-steps : goal.returns-clause-steps
returns-clause-steps c =
    let few = row_length c.args.self c.requires.row in
    let many : beta (c.args.self.snapshots - 1) c.args.self.repetitions ≤ c.args.self.extra = omega (arith, few.again, c.requires.row.within, c.steps_up_to-again.ensures, c.if-self-again.false) in
    full_lower c.args.self.snapshots c.args.self.repetitions c.args.self.extra c.requires.row.some c.requires.two c.requires.row.short many
