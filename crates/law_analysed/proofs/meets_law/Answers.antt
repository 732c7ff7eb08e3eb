use Rattle.law_analysed.proofs.Meets.{analysed_meets, marked_calls_unsplit}
use Rattle.law_analysed.proofs.meets_law.Goals as goal

pub returns : goal.returns
returns c = record { meets = analysed_meets; unsplit = marked_calls_unsplit }
