-- Each law is a lemma, over words and over words with tangents.
use Rattle.std.specs.Prelude.{ℤ}
use Rattle.law_meaning.proofs.Extensions.{extends_programs, extends_written}
use Rattle.law_meaning.proofs.ReadSets.{extends_read}
use Rattle.law_meaning.proofs.laws.program_laws.Goals as goal

pub returns-clause-runs : goal.returns-clause-runs
returns-clause-runs c = (extends_programs {C = ℤ}, extends_programs {C = ℤ × ℤ})

pub returns-clause-written : goal.returns-clause-written
returns-clause-written c = extends_written

pub returns-clause-read : goal.returns-clause-read
returns-clause-read c = extends_read
