-- The text of each statement says it.
use Rattle.def_text.proofs.WrittenBack.{written_reads_back}
use Rattle.law_text.proofs.texts.text_reads_back.Goals as goal

pub returns : goal.returns
returns c = record { reads = written_reads_back }
