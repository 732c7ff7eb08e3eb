-- What statements may write grows with what is known of called units.
use Rattle.def_meaning.specs.Written.{write_rule}
use Rattle.law_meaning.specs.Laws.{LeastWritten, HandsBackWritten}
use Rattle.def_meaning.proofs.LeastSets.{is_least, least_row}
use Rattle.def_meaning.proofs.WritesMore.{write_rises}

-- the dummies that units write are the least set by their rule
pub least_written : LeastWritten
least_written units = is_least write_rule write_rises units

-- what a unit hands back are the dummies that it writes
pub handed_written : HandsBackWritten
handed_written units name u e = least_row write_rule write_rises units name u e
