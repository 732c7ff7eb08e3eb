use Rattle.law_emitted.proofs.Programs.{marked_written, emitted_written}
use Rattle.law_emitted.proofs.emitted.written_law.Goals as goal

pub returns-clause-marked : goal.returns-clause-marked
returns-clause-marked c = marked_written

pub returns-clause-full : goal.returns-clause-full
returns-clause-full c = emitted_written
