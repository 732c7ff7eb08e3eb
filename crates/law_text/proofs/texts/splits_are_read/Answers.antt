-- The lines form statements in one way, and none that is printed is split.
use Rattle.def_text.proofs.WrittenBack.{written_splits_back, one_splitting}
use Rattle.law_text.proofs.texts.splits_are_read.Goals as goal

pub returns : goal.returns
returns c = record { one = one_splitting; none = written_splits_back }
