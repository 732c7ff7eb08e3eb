-- No line is given, so no call is to be split.
use Rattle.std.proofs.Common.{[], refl, ◌∙◌}
use Rattle.adj_tree.specs.View.{procedures_of}
use Rattle.def_flow.proofs.Unmarked.{none_split}
use Rattle.adj_plan.proofs.carriers.carrying.Goals as goal

pub returns-clause-split : goal.returns-clause-split
returns-clause-split c = λ n. c.in_ok-flow.ensures.split n ∙ none_split [] refl (procedures_of c.args.checked.now.program) n
