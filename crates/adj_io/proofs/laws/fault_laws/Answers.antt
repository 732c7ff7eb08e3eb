-- Each clause is a lemma.
use Rattle.adj_io.proofs.Reading.{rose_earlier, rose_later}
use Rattle.adj_io.proofs.laws.fault_laws.Goals as goal

pub returns : goal.returns
returns c = record { earlier = rose_earlier; later = rose_later }
