use Rattle.std.proofs.Common.{◌≡◌, ◌+◌, ◌-◌, ◌≤◌, ◌<◌, length, sym, ap, subst, arith}
use Rattle.std.proofs.lemmas.Bool.Decides.{nat_tests}
use Rattle.adj_revolve.specs.Binomial.{beta}
use Rattle.adj_revolve.proofs.BinomialLemmas.{beta-above}
use Rattle.adj_revolve_count.specs.declared.row.Row.{Row}
use Rattle.adj_revolve_count.specs.Rows.{IsRow, row_actions}
use Rattle.adj_revolve_count.proofs.RowLemmas.{row_with, row_ends}
use Rattle.adj_revolve_count.proofs.row.Row.ends_with.Goals as goal

pub overflow_add-repetitions : goal.overflow_add-repetitions
overflow_add-repetitions c =
    omega (arith, beta-above c.args.self.snapshots c.args.self.repetitions c.requires.row.some, c.requires.row.within, c.requires.fewer)

pub actions-requires : goal.actions-requires
actions-requires c =
    let short : c.args.self.extra < beta (c.args.self.snapshots - 1) (c.args.repetitions + 1) = omega (arith, c.steps_up_to-next.ensures, c.if-self-next.false) in
    subst IsRow (sym c.with.ensures) (row_with c.args.self c.args.repetitions c.requires.row c.requires.fewer short)

pub returns : goal.returns
returns c h =
    let short : c.args.self.extra < beta (c.args.self.snapshots - 1) (c.args.repetitions + 1) = omega (arith, c.steps_up_to-next.ensures, c.if-self-next.false) in
    let enough : c.args.left ≤ c.actions.result = grind (arith, nat_tests) in
    let same : length (row_actions c.with.result) ≡ length (row_actions (record c.args.self { repetitions = c.args.repetitions })) = ap (λ (z : Row). length (row_actions z)) c.with.ensures in
    row_ends c.args.self c.args.repetitions c.args.left c.requires.row c.requires.fewer short (omega (arith, enough, same, c.actions.ensures))
