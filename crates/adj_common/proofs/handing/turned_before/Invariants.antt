-- The names passed, and those that are left.
use Rattle.std.proofs.Common.{◌≡◌, drop}
use Rattle.adj_tree.specs.View.{terms_of}
use Rattle.adj_common.specs.Handing.{turned_before}
use Rattle.adj_common.proofs.handing.turned_before.Given as goal

abbrev pub invariant-loop-name : goal.invariant-loop-name
invariant-loop-name l = turned_before (drop l.name-index l.names) (terms_of l.made) ≡ turned_before l.names (terms_of l.fn.actuals)
