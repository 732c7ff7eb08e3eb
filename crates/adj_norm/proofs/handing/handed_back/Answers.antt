use Rattle.std.proofs.Common.{map, ap, ◌∙◌}
use Rattle.adj_tree.specs.View.{procedure_of}
use Rattle.def_meaning.specs.LeastSet.{row_of}
use Rattle.adj_norm.proofs.handing.handed_back.Goals as goal

pub returns : goal.returns
returns c =
    let us = map procedure_of c.args.units.now in
    record { handed = λ i x. (c.in_ok-table.ensures.table x ∙ ap (λ rows. row_of us rows x) (c.as_slice.ensures.value ∙ c.in_ok-rows.ensures.written)) i }
