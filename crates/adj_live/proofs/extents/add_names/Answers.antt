use Rattle.std.proofs.Common.{◌∙◌}
use Rattle.std.specs.Prelude.{is_some, ◌||◌, map}
use Rattle.adj_tree.specs.View.{extent_of}
use Rattle.def_meaning.specs.Read.{names_extent}
use Rattle.adj_symbols_writes.specs.Table.{value_of}
use Rattle.adj_live.proofs.Naming.{extents_more, extents_end}
use Rattle.adj_live.proofs.extents.add_names.Goals as goal

pub loop-extent-preserved : goal.loop-extent-preserved
loop-extent-preserved c x =
    extents_more extent_of x c.args.extents.now c.loop-extent.extent-index c.extent-item.result (is_some (value_of x c.loop-extent.names)) (is_some (value_of x c.add_name.new.names)) c.loop-extent-test.true c.extent-item.is (c.in_ok-add_name.ensures.added x)
    ∙ c.loop-extent.invariant x

pub returns : goal.returns
returns c = record {
  added = λ x. extents_end extent_of x c.args.extents.now c.loop-extent.extent-index (is_some (value_of x c.loop-extent.names)) (is_some (value_of x c.args.names.now) || names_extent x (map extent_of c.args.extents.now)) c.loop-extent-test.false (c.loop-extent.invariant x);
}
