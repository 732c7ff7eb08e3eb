-- What was added and what is left are the actuals of flagged dummies.
use Rattle.std.proofs.Common.{◌≡◌, ◌++◌, drop}
use Rattle.adj_tree.specs.View.{terms_of}
use Rattle.adj_symbols_writes.specs.View.{vars_seen}
use Rattle.adj_flow.specs.Passed.{passed_in}
use Rattle.adj_flow.proofs.variables.add_passed.Given as goal

abbrev pub invariant-loop-is_flagged : goal.invariant-loop-is_flagged
invariant-loop-is_flagged l = vars_seen l.out.items ++ passed_in (drop l.is_flagged-index l.flags) (terms_of l.rest) ≡ vars_seen l.initial.out.items ++ passed_in l.flags (terms_of l.actuals)
