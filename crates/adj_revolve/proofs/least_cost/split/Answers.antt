use Rattle.std.proofs.Common.{arith, ◌∙◌, sym}
use Rattle.adj_revolve.proofs.SplitLemmas.{repetitions_from}
use Rattle.adj_revolve.proofs.CodeLemmas.{split_code}
use Rattle.adj_revolve.proofs.least_cost.split.Goals as goal

pub overflow_sub-repetitions : goal.overflow_sub-repetitions
overflow_sub-repetitions c = (split_code c.args.steps c.args.snapshots c.repetitions-repetitions.result c.requires.some c.requires.two c.repetitions-repetitions.ensures.value).pos

pub overflow_sub-repetitions-2 : goal.overflow_sub-repetitions-2
overflow_sub-repetitions-2 c = (split_code c.args.steps c.args.snapshots c.repetitions-repetitions.result c.requires.some c.requires.two c.repetitions-repetitions.ensures.value).pos

pub returns-clause-value : goal.returns-clause-value
returns-clause-value c =
    let f = split_code c.args.steps c.args.snapshots c.repetitions-repetitions.result c.requires.some c.requires.two c.repetitions-repetitions.ensures.value in
    omega (arith, f.value, f.most, f.above, c.min.ensures, c.beta_up_to-most.ensures, c.beta_up_to-above.ensures)

pub returns-clause-some : goal.returns-clause-some
returns-clause-some c = omega (arith, returns-clause-value c, (split_code c.args.steps c.args.snapshots c.repetitions-repetitions.result c.requires.some c.requires.two c.repetitions-repetitions.ensures.value).some)

pub returns-clause-less : goal.returns-clause-less
returns-clause-less c = omega (arith, returns-clause-value c, (split_code c.args.steps c.args.snapshots c.repetitions-repetitions.result c.requires.some c.requires.two c.repetitions-repetitions.ensures.value).less)

pub returns-clause-closed : goal.returns-clause-closed
returns-clause-closed c r is =
    returns-clause-value c ∙ sym (split_code c.args.steps c.args.snapshots r c.requires.some c.requires.two (repetitions_from c.args.steps c.args.snapshots r c.requires.some is)).value
