use Rattle.std.proofs.Common.{ap, ◌∙◌, arith}
use Rattle.std.specs.Prelude.{◌==◌}
use Rattle.adj_tree.proofs.BitWords.{values_at, values_count}
use Rattle.adj_tree.proofs.bits.BitFlags.new.Goals as goal

pub returns-clause-count : goal.returns-clause-count
returns-clause-count c = omega (arith, values_count c.in_ok-words.words.items, c.in_ok-words.ensures.count, c.in_ok-words.words.ok.0)

pub returns-clause-none : goal.returns-clause-none
returns-clause-none c = λ n. values_at c.in_ok-words.words.items n ∙ ap (λ k. k == 1) (c.in_ok-words.ensures.none n)
