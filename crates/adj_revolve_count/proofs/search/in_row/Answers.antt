use Rattle.std.proofs.Common.{◌≡◌, ◌+◌, ◌-◌, ◌≤◌, length, sym, ◌∙◌, ap, arith}
use Rattle.adj_revolve.specs.Split.{split_of}
use Rattle.adj_revolve.specs.Schedule.{schedule_of}
use Rattle.adj_revolve.proofs.ScheduleLemmas.{upper_slot}
use Rattle.adj_revolve_count.specs.Rows.{from_end, returned, row_steps, row_actions}
use Rattle.adj_revolve_count.proofs.Returns.{split_parts, returned-length, at_advance, ends-lower, ends-upper}
use Rattle.adj_revolve_count.proofs.RowLemmas.{row_length, row_actions_are}
use Rattle.adj_revolve_count.proofs.search.in_row.Goals as goal
use Rattle.adj_revolve_count.proofs.search.in_row.Goals.{After-steps-first, After-actions-again}

-- the row has two steps
two : (c : After-steps-first) → 2 ≤ row_steps c.args.row
two c = let few = row_length c.args.row c.requires.row in omega (arith, few.steps, c.steps-steps.ensures, c.if-steps-eq1.false)

-- its split
split : (c : After-steps-first) → c.steps-first.result ≡ split_of (row_steps c.args.row) c.args.row.snapshots
split c = c.steps-first.ensures ∙ c.lower-lower.ensures.steps

-- the actions below it
lower_are : (c : After-steps-first) → row_actions c.lower-lower.result ≡ returned c.args.row.low c.steps-first.result c.args.row.snapshots
lower_are c = row_actions_are c.lower-lower.result c.args.row.low c.steps-first.result c.args.row.snapshots c.lower-lower.ensures.low (sym c.steps-first.ensures) c.lower-lower.ensures.snapshots

pub returns-then-left-actions-clause-less : goal.returns-then-left-actions-clause-less
returns-then-left-actions-clause-less c = (row_length c.args.row c.requires.row).steps

pub lower-lower-requires-clause-two : goal.lower-lower-requires-clause-two
lower-lower-requires-clause-two c = let few = row_length c.args.row c.requires.row in omega (arith, few.steps, c.steps-steps.ensures, c.if-steps-eq1.false)

pub returns-then-left-actions-2-clause-sought : goal.returns-then-left-actions-2-clause-sought
returns-then-left-actions-2-clause-sought c =
    at_advance c.args.row.low (row_steps c.args.row) c.args.row.snapshots c.steps-first.result c.args.left c.requires.row.some
    (two (goal.at.returns-then-left-actions-2-clause-sought c).After-steps-first) (split (goal.at.returns-then-left-actions-2-clause-sought c).After-steps-first) (omega arith)

pub returns-then-left-actions-2-clause-less : goal.returns-then-left-actions-2-clause-less
returns-then-left-actions-2-clause-less c = (row_length c.args.row c.requires.row).steps

pub returns-then-left-again-clause-sought : goal.returns-then-left-again-clause-sought
returns-then-left-again-clause-sought c =
    let at = (goal.at.returns-then-left-again-clause-sought c).After-steps-first in
    let enough : c.args.left ≤ length (returned c.args.row.low c.steps-first.result c.args.row.snapshots) = omega (arith, c.if-left-again.true, c.actions-again.ensures, ap length (lower_are at)) in
    ap (λ xs. from_end xs c.args.left) (lower_are at)
    ∙ sym (ends-lower c.args.row.low (row_steps c.args.row) c.args.row.snapshots c.steps-first.result c.args.left c.requires.row.some (two at) (split at) enough).same

pub returns-then-left-again-clause-less : goal.returns-then-left-again-clause-less
returns-then-left-again-clause-less c =
    let at = (goal.at.returns-then-left-again-clause-less c).After-steps-first in
    let parts = split_parts (row_steps c.args.row) c.args.row.snapshots c.requires.row.some (two at) in
    omega (arith, parts.1, c.lower-lower.ensures.steps)

pub overflow_sub-steps : goal.overflow_sub-steps
overflow_sub-steps c =
    let at = (goal.at.overflow_sub-steps c).After-steps-first in
    let parts = split_parts (row_steps c.args.row) c.args.row.snapshots c.requires.row.some (two at) in
    omega (arith, parts.1, split at, c.steps-steps.ensures)

pub in_part-requires-clause-one : goal.in_part-requires-clause-one
in_part-requires-clause-one c =
    let at = (goal.at.in_part-requires-clause-one c).After-steps-first in
    let parts = split_parts (row_steps c.args.row) c.args.row.snapshots c.requires.row.some (two at) in
    omega (arith, parts.1, split at, c.steps-steps.ensures)

pub in_part-requires-clause-slot : goal.in_part-requires-clause-slot
in_part-requires-clause-slot c more =
    let at = (goal.at.in_part-requires-clause-slot c).After-steps-first in
    upper_slot (row_steps c.args.row) c.args.row.snapshots c.requires.row.some (two at) (omega (arith, more, split at, c.steps-steps.ensures))

pub in_part-requires-clause-actions : goal.in_part-requires-clause-actions
in_part-requires-clause-actions c =
    let at = (goal.at.in_part-requires-clause-actions c).After-steps-first in
    omega (
      arith,
      returned-length c.args.row.low (row_steps c.args.row) c.args.row.snapshots c.steps-first.result c.requires.row.some (two at) (split at),
      c.actions-actions.ensures,
      c.actions-again.ensures,
      ap length (lower_are at),
      ap (λ z. length (schedule_of (c.args.row.low + c.steps-first.result) (z - c.steps-first.result) (c.args.row.snapshots - 1))) c.steps-steps.ensures,
    )

pub returns-clause-sought : goal.returns-clause-sought
returns-clause-sought c =
    let at = (goal.at.returns-clause-sought c).After-steps-first in
    let again : c.actions-again.result ≡ length (returned c.args.row.low c.steps-first.result c.args.row.snapshots) = c.actions-again.ensures ∙ ap length (lower_are at) in
    let steps : c.steps-steps.result ≡ row_steps c.args.row = c.steps-steps.ensures in
    c.in_part.ensures.sought
    ∙ ((λ i. from_end (schedule_of (c.args.row.low + c.steps-first.result) (steps i - c.steps-first.result) (c.args.row.snapshots - 1)) (c.args.left - again i))
    ∙ sym (ends-upper c.args.row.low (row_steps c.args.row) c.args.row.snapshots c.steps-first.result c.args.left c.requires.row.some (two at) (split at) (omega arith) (omega arith)))

pub returns-clause-less : goal.returns-clause-less
returns-clause-less c =
    let at = (goal.at.returns-clause-less c).After-steps-first in
    let parts = split_parts (row_steps c.args.row) c.args.row.snapshots c.requires.row.some (two at) in
    omega (arith, parts.0, parts.1, split at, c.steps-steps.ensures, c.in_part.ensures.steps)
