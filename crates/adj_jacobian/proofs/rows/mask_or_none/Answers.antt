use Rattle.std.proofs.Common.{sym, ap, ◌∙◌}
use Rattle.adj_jacobian_block.specs.declared.block.Block.{Block}
use Rattle.adj_jacobian_block.specs.Blocks.{blocks}
use Rattle.adj_jacobian.proofs.Holding.{nth_at, nth_past}
use Rattle.adj_jacobian.proofs.rows.mask_or_none.Goals as goal

pub returns-in-Some : goal.returns-in-Some
returns-in-Some c =
    let found = c.in-Some.ensures.lookup in
    ap (λ (b : Block). b.columns) (found.1 ∙ sym (nth_at blocks c.args.numbers.now c.args.place c.in-Some.number.now found.3.0))

pub returns-in-None : goal.returns-in-None
returns-in-None c = ap (λ (b : Block). b.columns) (sym (nth_past blocks c.args.numbers.now c.args.place c.in-None.ensures.lookup.3))
