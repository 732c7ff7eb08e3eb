-- The variables of the statements passed, and of those that are left.
use Rattle.std.proofs.Common.{◌≡◌, ◌++◌, drop}
use Rattle.std.specs.List.{flat_map}
use Rattle.adj_symbols_writes.specs.View.{seen, vars_seen}
use Rattle.adj_common.specs.Naming.{vars_in_act}
use Rattle.adj_common.proofs.naming.add_acts.Given as goal

abbrev pub invariant-loop-stmt : goal.invariant-loop-stmt
invariant-loop-stmt l = vars_seen l.out.items ++ flat_map (λ t. vars_in_act t.1) (seen (drop l.stmt-index l.stmts)) ≡ vars_seen l.initial.out.items ++ flat_map (λ t. vars_in_act t.1) (seen l.stmts)
