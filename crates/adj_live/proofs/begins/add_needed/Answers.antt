use Rattle.std.proofs.Common.{ap, ◌∙◌, ◌++◌}
use Rattle.std.specs.Prelude.{not}
use Rattle.adj_tree.specs.Code.{Var, plain}
use Rattle.def_flow.specs.Rules.{list_of}
use Rattle.def_flow.specs.Uses.{turned_by}
use Rattle.def_names.specs.VariableLists.{list_if}
use Rattle.adj_flow.specs.View.{place_of}
use Rattle.adj_symbols_writes.proofs.Stepping.{flat_more}
use Rattle.adj_live.specs.Listed.{needed_here}
use Rattle.adj_live.specs.View.{here_at}
use Rattle.adj_live.proofs.begins.add_needed.Goals as goal

pub loop-name-preserved : goal.loop-name-preserved
loop-name-preserved c =
    let h = here_at c.args.site in
    let f = λ (v : Var). list_if (not (turned_by (place_of c.args.place) v)) (list_of (needed_here h c.args.point v)) in
    let x = c.name-item.result in
    flat_more (λ b. plain b.now) f c.args.names.now c.loop-name.name-index c.name-item.result c.loop-name.nodes.items c.add_variable.new.nodes.items c.loop-name-test.true c.name-item.is
    (c.in_ok-add_variable.ensures.added ∙ ap (λ b. c.loop-name.nodes.items ++ list_if (not b) (list_of (needed_here h c.args.point (plain x.now)))) c.turns-is_wanted.ensures.is)
    ∙ c.loop-name.invariant
