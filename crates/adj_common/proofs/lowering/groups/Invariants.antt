-- The blocks passed, and those that are left.
use Rattle.std.proofs.Common.{◌≡◌, ◌++◌, map, drop}
use Rattle.adj_tree.specs.CommonView.{shared_of}
use Rattle.adj_common.specs.Views.{entry_of, own_of, known_of}
use Rattle.adj_common.specs.Members.{groups_from}
use Rattle.adj_common.specs.Lowering.{groups_by}
use Rattle.adj_common.proofs.lowering.groups.Given as goal

abbrev pub invariant-loop-block : goal.invariant-loop-block
invariant-loop-block l = map (λ g. map entry_of g.items) l.out.items ++ groups_from (known_of l.text).owns (known_of l.text).text (own_of l.own) l.shared.unit.line l.taken (drop l.block-index l.row) ≡ groups_by (known_of l.text) (own_of l.own) (shared_of l.shared) l.row
