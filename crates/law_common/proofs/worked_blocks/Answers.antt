use Rattle.law_common.proofs.Worked.{lowering, run, lowered_run, passing}
use Rattle.law_common.proofs.worked_blocks.Goals as goal

pub returns-clause-lowering : goal.returns-clause-lowering
returns-clause-lowering c = lowering

pub returns-clause-run : goal.returns-clause-run
returns-clause-run c = run

pub returns-clause-lowered_run : goal.returns-clause-lowered_run
returns-clause-lowered_run c = lowered_run

pub returns-clause-passing : goal.returns-clause-passing
returns-clause-passing c = passing
