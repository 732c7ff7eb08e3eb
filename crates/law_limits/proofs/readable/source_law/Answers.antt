use Rattle.law_limits.proofs.SourceKept.{source_kept}
use Rattle.law_limits.proofs.readable.source_law.Goals as goal

pub returns : goal.returns
returns c = let said = c.statements_are_said.ensures in source_kept (record { complete = said.complete; sound = said.sound; phrases = said.phrases })
