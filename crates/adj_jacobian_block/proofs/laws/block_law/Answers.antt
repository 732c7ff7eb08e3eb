-- Masks do as columns, and a column starts with its bit.
use Rattle.adj_jacobian_block.specs.Blocks.{BlockRunIsPattern, blocks, marked_by, own_in, inside_block}
use Rattle.adj_jacobian_block.proofs.Seen.{blocks_do, own_is}
use Rattle.law_jacobian.proofs.Runs.{parts_tell}
use Rattle.adj_jacobian_block.proofs.laws.block_law.Goals as goal

blocks_tell : BlockRunIsPattern
blocks_tell k p = parts_tell (inside_block k) (marked_by k) blocks (blocks_do k) (own_in k) (λ z c. own_is k c z) p

pub returns : goal.returns
returns c = record { tells = blocks_tell }
