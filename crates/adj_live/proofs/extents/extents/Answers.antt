use Rattle.std.proofs.Common.{ap, ◌∙◌}
use Rattle.std.specs.Prelude.{is_some, ◌||◌, map}
use Rattle.adj_tree.specs.View.{extent_of, declaration_of}
use Rattle.def_meaning.specs.Read.{names_extent, is_extent}
use Rattle.adj_symbols_writes.specs.Table.{value_of}
use Rattle.adj_live.proofs.Naming.{declared_more, declared_end}
use Rattle.adj_live.proofs.extents.extents.Goals as goal

pub loop-decl-preserved : goal.loop-decl-preserved
loop-decl-preserved c x =
    declared_more declaration_of x c.args.decls.now c.loop-decl.decl-index c.decl-item.result (is_some (value_of x c.loop-decl.names)) (is_some (value_of x c.add_names.new.names)) c.loop-decl-test.true c.decl-item.is
    (c.in_ok-add_names.ensures.added x ∙ ap (λ es. is_some (value_of x c.loop-decl.names) || names_extent x (map extent_of es)) c.as_slice.ensures.members)
    ∙ c.loop-decl.invariant x

pub returns : goal.returns
returns c = record {
  extents = λ x. declared_end declaration_of x c.args.decls.now c.loop-decl.decl-index (is_some (value_of x c.loop-decl.names)) (is_extent x (map declaration_of c.args.decls.now)) c.loop-decl-test.false (c.loop-decl.invariant x);
}
