-- The names passed are actuals.
use Rattle.std.proofs.Common.{◌≡◌, map, take}
use Rattle.adj_tree.specs.Code.{var, plain}
use Rattle.adj_tree.specs.View.{term_of}
use Rattle.adj_norm.proofs.source.as_actuals.Given as goal

abbrev pub invariant-loop-name : goal.invariant-loop-name
invariant-loop-name l = map term_of l.actuals.items ≡ map (λ x. var (plain x)) (take l.name-index l.names)
