use Rattle.law_limits.proofs.KeptReads.{kept_reads}
use Rattle.law_limits.proofs.readable.kept_law.Goals as goal

pub returns : goal.returns
returns c = let said = c.statements_are_said.ensures in kept_reads (record { complete = said.complete; sound = said.sound; phrases = said.phrases })
