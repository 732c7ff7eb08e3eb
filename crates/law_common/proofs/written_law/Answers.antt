use Rattle.law_common.proofs.LoweredWritten.{lowered_written}
use Rattle.law_common.proofs.written_law.Goals as goal

pub returns : goal.returns
returns c = lowered_written
