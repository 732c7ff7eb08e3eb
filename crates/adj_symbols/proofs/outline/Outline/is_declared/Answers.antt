use Rattle.std.proofs.Common.{ap, ◌∙◌}
use Rattle.std.specs.Prelude.{is_some}
use Rattle.adj_tree.specs.View.{procedure_of}
use Rattle.def_meaning.specs.Apart.{has_name}
use Rattle.def_names.specs.Variables.{declared_names}
use Rattle.adj_symbols_writes.specs.Table.{value_of}
use Rattle.adj_symbols.proofs.Outlines.{declared_is}
use Rattle.adj_symbols.proofs.outline.Outline.is_declared.Goals as goal

pub returns : goal.returns
returns c =
    let x = c.args.name.now in
    record {
      declared = c.is_some.ensures ∙ ap is_some (c.get.ensures.number ∙ ap (value_of x) c.deref.ensures ∙ c.self.invariant.ranks_known x) ∙ declared_is (procedure_of c.self.inside.unit.now) x ∙ ap (λ u. has_name x (declared_names (procedure_of u))) c.self.view_is;
    }
