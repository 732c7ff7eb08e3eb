use Rattle.std.proofs.Common.{◌/◌, ◌%◌, ◌*◌, ◌^◌, ap, ◌∙◌, length-set, bit_or, get_or, Bool, true, false, refl, ◌≡◌, ℕ}
use Rattle.std.specs.Prelude.{◌==◌, ◌||◌, if◌then◌else◌}
use Rattle.adj_tree.specs.Bits.{bit}
use Rattle.adj_tree.proofs.BitWords.{bit_put}
use Rattle.adj_tree.proofs.bits.set_bit.Goals as goal

bit_or_set : (b : Bool) (k : ℕ) → ((if b then 1 else k) == 1) ≡ (b || (k == 1))
bit_or_set true k = refl
bit_or_set false k = refl

pub returns-clause-count : goal.returns-clause-count
returns-clause-count c = length-set c.args.words.now (c.args.n / 64) (bit_or (get_or c.args.words.now (c.args.n / 64) 0) (1 * 2 ^ (c.args.n % 64) % 2 ^ 64))

pub returns-clause-set : goal.returns-clause-set
returns-clause-set c = λ x. ap (λ k. k == 1) (bit_put c.args.words.now c.args.n x c.requires.within) ∙ bit_or_set (x == c.args.n) (bit c.args.words.now x)
