-- NestView: what clauses see of open blocks.
use Rattle.std.specs.Prelude.{Bool, List, map, reverse, option_map}
use Rattle.adj_tree.specs.Code.{Test, Code}
use Rattle.adj_tree.specs.Listed.{statement_of}
use Rattle.adj_tree.specs.View.{test_of, mark_of, code_of}
use Rattle.adj_parse_statement.specs.View.{label_of, range_of}
use Rattle.adj_parse.specs.Blocks as blocks
use Rattle.adj_parse.specs.Blocks.{of_loop, of_while, of_if, of_else, of_chain, is_labelled, is_chain}
use Rattle.adj_parse.specs.Order.{has_label, has_no_label, is_first, is_if}
use Rattle.adj_parse.specs.declared.block.Block.{Block}
use Rattle.adj_parse.specs.declared.nest.Nest.{Nest}
use Rattle.adj_parse.specs.declared.block.Part.{Part}
use Rattle.adj_parse.specs.declared.block.Part.TheVariants as parts
use Rattle.adj_parse.specs.declared.block.Shape.{Shape}
use Rattle.adj_parse.specs.declared.block.Shape.TheVariants as shapes
use Rattle.adj_parse.specs.declared.block.Turn.{Turn}
use Rattle.adj_parse.specs.declared.block.Turn.TheVariants as turns

abbrev pub part_of : Part → blocks.Part
part_of (parts.Loop l r m) = of_loop (option_map label_of l) (range_of r) (mark_of m.value)
part_of (parts.While c) = of_while (test_of c)
part_of (parts.If c) = of_if (test_of c)
part_of (parts.Else c first) = of_else (test_of c) (code_of first)
part_of (parts.Chain c first) = of_chain (test_of c) (code_of first)

-- whether a part is of a shape
abbrev pub is_shape : Shape → blocks.Part → Bool
is_shape shapes.Labelled part = has_label part
is_shape shapes.Unlabelled part = has_no_label part
is_shape (shapes.LoopOf l) part = is_labelled l part
is_shape shapes.First part = is_first part
is_shape shapes.Either part = is_if part
is_shape shapes.Chain part = is_chain part

-- which part of an IF begins
abbrev pub turn_of : Turn → Test → Code → blocks.Part
turn_of turns.Else = of_else
turn_of turns.ElseIf = of_chain

abbrev pub other_part : Turn → blocks.Part → Code → blocks.Part
other_part turn (of_if c) first = turn_of turn c first
other_part turn part first = part

abbrev pub block_of : Block → blocks.Block
block_of b = record { line = b.line; before = map statement_of b.before.items; part = part_of b.part }

-- the innermost block, which is the last, comes first
unfoldable pub blocks_of : List Block → List blocks.Block
blocks_of items = reverse (map block_of items)

abbrev pub nest_of : Nest → blocks.Nest
nest_of n = record { blocks = blocks_of n.blocks.items; acts = map statement_of n.acts.items }
