use Rattle.std.proofs.Common.{sym, ◌∙◌}
use Rattle.adj_parse.specs.NestView.{is_shape}
use Rattle.adj_parse.proofs.Stacks.{innermost_last}
use Rattle.adj_parse.proofs.nest.last_is.Goals as goal

pub returns-in-Some : goal.returns-in-Some
returns-in-Some c = c.is.ensures ∙ sym (innermost_last (is_shape c.args.shape) c.args.blocks.now c.in-Some.block.now c.in-Some.ensures.value)
