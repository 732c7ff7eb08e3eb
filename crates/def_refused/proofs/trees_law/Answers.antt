use Rattle.def_refused.proofs.TreeTests.{Laws}
use Rattle.def_refused.proofs.TreeWalk.{trees_answer, trees_refused, trees_accepted}
use Rattle.def_refused.proofs.UpTo.{trees_read_up_to}
use Rattle.def_refused.proofs.trees_law.Goals as goal

pub returns : goal.returns
returns c =
    let said = c.statements_are_said.ensures in
    let laws : Laws = record { complete = said.complete; sound = said.sound } in
    record { answer = trees_answer laws; refused = trees_refused laws; accepted = trees_accepted laws; up_to = trees_read_up_to laws said.phrases }
