use Rattle.std.proofs.Common.{ap, ◌∙◌}
use Rattle.std.specs.Prelude.{unwrap_or}
use Rattle.adj_tree.specs.View.{procedure_of}
use Rattle.def_names.specs.Variables.{rank}
use Rattle.adj_symbols_writes.specs.Table.{value_of}
use Rattle.adj_symbols.proofs.Outlines.{rank_is}
use Rattle.adj_symbols.proofs.outline.Outline.rank.Goals as goal

pub returns : goal.returns
returns c =
    let x = c.args.name.now in
    record {
      rank = c.unwrap_or.ensures ∙ ap (λ r. unwrap_or r 0) (c.get.ensures.number ∙ ap (value_of x) c.deref.ensures ∙ c.self.invariant.ranks_known x) ∙ rank_is (procedure_of c.self.inside.unit.now) x ∙ ap (λ u. rank (procedure_of u) x) c.self.view_is;
    }
