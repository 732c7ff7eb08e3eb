use Rattle.std.proofs.Common.{arith}
use Rattle.adj_revolve_count.proofs.RowLemmas.{row_length}
use Rattle.adj_revolve_count.proofs.row.Row.actions.Goals as goal

pub overflow_sub-result : goal.overflow_sub-result
overflow_sub-result c = let few = row_length c.args.self c.requires in omega (arith, few.steps, c.steps.ensures)

pub overflow_add-result-2 : goal.overflow_add-result-2
overflow_add-result-2 c =
    let few = row_length c.args.self c.requires in
    omega (arith, few.again, few.taken, c.requires.taken, c.requires.within, c.steps.ensures, c.steps_up_to-again.ensures)

pub returns : goal.returns
returns c =
    let few = row_length c.args.self c.requires in
    omega (arith, few.steps, few.count, few.again, c.requires.taken, c.requires.within, c.steps.ensures, c.steps_up_to-again.ensures)
