-- Each clause is a lemma.
use Rattle.adj_io.proofs.Reading.{read_whole, read_part}
use Rattle.adj_io.proofs.laws.reading_laws.Goals as goal

pub returns : goal.returns
returns c = record { all = read_whole; some = read_part }
