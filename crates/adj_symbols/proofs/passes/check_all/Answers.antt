use Rattle.std.proofs.Common.{sym}
use Rattle.adj_symbols.proofs.passes.check_all.Goals as goal

pub check_known-requires : goal.check_known-requires
check_known-requires c = record { units = sym c.in_ok-scope.ensures.units }
