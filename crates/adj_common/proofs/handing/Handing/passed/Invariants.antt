-- The blocks passed, and those that are left.
use Rattle.std.proofs.Common.{◌≡◌, drop}
use Rattle.adj_tree.specs.Code.{none}
use Rattle.adj_tree.specs.View.{terms_of}
use Rattle.adj_tree.specs.Listed.{terms_turned}
use Rattle.adj_common.specs.Handing.{turned_rows}
use Rattle.adj_common.specs.Views.{tables_of}
use Rattle.adj_common.proofs.handing.Handing.passed.Given as goal

abbrev pub invariant-loop-block : goal.invariant-loop-block
invariant-loop-block l = turned_rows (tables_of l.self) (drop l.block-index l.block-items) (terms_of l.made) ≡ turned_rows (tables_of l.self) l.block-items (terms_turned (terms_of l.actuals) none)
