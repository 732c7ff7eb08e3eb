use Rattle.std.proofs.Common.{ℕ, List, ap, ◌∙◌, ◌++◌, map}
use Rattle.adj_tree.specs.View.{declaration_of}
use Rattle.def_meaning.specs.Read.{is_extent}
use Rattle.def_flow.specs.Rules.{list_of}
use Rattle.def_names.specs.VariableLists.{list_if}
use Rattle.adj_flow.specs.Rows.{row_of}
use Rattle.adj_flow.specs.NodeView.{vars_of}
use Rattle.adj_symbols_writes.proofs.Stepping.{flat_more}
use Rattle.adj_live.specs.Numbers.{wanted_at}
use Rattle.adj_live.proofs.begins.add_extents.Goals as goal

pub loop-dummy-preserved : goal.loop-dummy-preserved
loop-dummy-preserved c =
    let r = row_of c.args.site.part.now in
    let f = λ (d : List ℕ). list_if (is_extent d r.part.unit.declarations) (list_of (wanted_at c.args.site.known.width (vars_of r) r.part.number d)) in
    let x = c.dummy-item.result in
    flat_more (λ d. d) f c.as_slice-dummy-items.result.now c.loop-dummy.dummy-index c.dummy-item.result c.loop-dummy.nodes.items c.add_extent.new.nodes.items c.loop-dummy-test.true c.dummy-item.is
    (c.in_ok-add_extent.ensures.added
    ∙ ap (λ b. c.loop-dummy.nodes.items ++ list_if b (list_of (wanted_at c.args.site.known.width (vars_of r) r.part.number x)))
    (c.is_among-is_extent.ensures.is ∙ c.in_ok-extents.ensures.extents x ∙ ap (λ ds. is_extent x (map declaration_of ds)) c.as_slice.ensures.members))
    ∙ c.loop-dummy.invariant
