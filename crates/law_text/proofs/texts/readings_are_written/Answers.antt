-- The names among the tokens of a text are names, and no directive gives more than 64 snapshots.
use Rattle.def_text.proofs.ReadingWritten.{shared_reading_written, reading_written}
use Rattle.def_text.proofs.WrittenBack.{written_reads_back}
use Rattle.law_text.proofs.texts.readings_are_written.Goals as goal

pub returns : goal.returns
returns c = record { written = reading_written; shared = shared_reading_written; rewritten = λ bytes program r f. written_reads_back program (reading_written bytes program r f) }
