use Rattle.law_common.proofs.Accepted.{accepted_keeps, source_keeps}
use Rattle.law_common.proofs.lowering_keeps_law.Goals as goal

pub returns : goal.returns
returns c = record { keeps = accepted_keeps; source = source_keeps }
