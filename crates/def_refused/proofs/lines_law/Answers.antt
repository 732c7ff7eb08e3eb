use Rattle.def_refused.proofs.LineTests.{lines_answer, lines_refused, lines_accepted}
use Rattle.def_refused.proofs.lines_law.Goals as goal

pub returns : goal.returns
returns c = record { answer = lines_answer; refused = lines_refused; accepted = lines_accepted }
