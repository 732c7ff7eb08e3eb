-- Each law is a lemma, over words and over words with tangents.
use Rattle.std.specs.Prelude.{ℤ}
use Rattle.law_meaning.proofs.Renamed.{run_renamed}
use Rattle.law_meaning.proofs.WriteSets.{least_written, handed_written}
use Rattle.law_meaning.proofs.Frames.{keeps_others, keeps_dummies}
use Rattle.law_meaning.proofs.ReadSets.{least_read}
use Rattle.law_meaning.proofs.Dependence.{depends_on_reads}
use Rattle.law_meaning.proofs.laws.variable_laws.Goals as goal

pub returns-clause-renamed : goal.returns-clause-renamed
returns-clause-renamed c = (run_renamed {C = ℤ}, run_renamed {C = ℤ × ℤ})

pub returns-clause-written : goal.returns-clause-written
returns-clause-written c = least_written

pub returns-clause-others : goal.returns-clause-others
returns-clause-others c = (keeps_others {C = ℤ}, keeps_others {C = ℤ × ℤ})

pub returns-clause-handed_back : goal.returns-clause-handed_back
returns-clause-handed_back c = handed_written

pub returns-clause-dummies : goal.returns-clause-dummies
returns-clause-dummies c = (keeps_dummies {C = ℤ}, keeps_dummies {C = ℤ × ℤ})

pub returns-clause-read : goal.returns-clause-read
returns-clause-read c = least_read

pub returns-clause-depends : goal.returns-clause-depends
returns-clause-depends c = (depends_on_reads {C = ℤ}, depends_on_reads {C = ℤ × ℤ})
