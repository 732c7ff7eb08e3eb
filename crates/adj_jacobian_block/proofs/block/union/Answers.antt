-- All words.
use Rattle.std.proofs.Common.{rules, get_or, bit_or}
use Rattle.std.proofs.lemmas.List.FromFn.{fill_by_all}
use Rattle.adj_jacobian_block.proofs.block.union.Goals as goal

pub returns : goal.returns
returns c = fill_by_all (λ k. bit_or (get_or c.args.first k 0) (get_or c.args.second k 0)) c.loop-i.all 4 0 c.loop-i.invariant.0 (search rules)
