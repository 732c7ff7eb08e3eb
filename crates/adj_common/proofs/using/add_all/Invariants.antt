-- The statements passed, and those that are left.
use Rattle.std.proofs.Common.{◌≡◌, ◌++◌, drop}
use Rattle.std.specs.List.{flat_map}
use Rattle.adj_symbols_writes.specs.View.{seen}
use Rattle.adj_common.specs.Using.{act_edges}
use Rattle.adj_common.proofs.using.add_all.Given as goal

abbrev pub invariant-loop-stmt : goal.invariant-loop-stmt
invariant-loop-stmt l = l.edges.items ++ flat_map (λ t. act_edges l.numbers l.unit t.1) (seen (drop l.stmt-index l.stmts)) ≡ l.initial.edges.items ++ flat_map (λ t. act_edges l.numbers l.unit t.1) (seen l.stmts)
