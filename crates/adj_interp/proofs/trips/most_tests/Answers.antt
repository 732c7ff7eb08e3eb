use Rattle.std.proofs.Common.{refl}
use Rattle.def_meaning.specs.Run.{most_tests}
use Rattle.adj_interp.proofs.trips.most_tests.Goals as goal

pub returns : goal.returns
unfolding most_tests
returns c = refl
