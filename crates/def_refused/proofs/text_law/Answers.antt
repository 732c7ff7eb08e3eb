use Rattle.def_refused.proofs.TreeTests.{Laws}
use Rattle.def_refused.proofs.WholeText.{text_refused, text_first, text_accepted}
use Rattle.def_refused.proofs.text_law.Goals as goal

pub returns : goal.returns
returns c =
    let said = c.statements_are_said.ensures in
    let laws : Laws = record { complete = said.complete; sound = said.sound } in
    record { refused = text_refused laws; first = text_first laws; accepted = text_accepted laws }
