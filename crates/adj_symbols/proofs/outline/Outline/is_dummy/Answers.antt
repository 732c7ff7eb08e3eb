use Rattle.std.proofs.Common.{ap, ◌∙◌}
use Rattle.adj_tree.specs.View.{procedure_of}
use Rattle.def_meaning.specs.Apart.{has_name}
use Rattle.def_names.specs.Variables.{is_dummy}
use Rattle.adj_symbols.proofs.Outlines.{once-has}
use Rattle.adj_symbols.proofs.outline.Outline.is_dummy.Goals as goal

pub returns : goal.returns
returns c =
    let x = c.args.name.now in
    record {
      dummy = c.contains.ensures.contains ∙ ap (has_name x) c.self.invariant.dummies_known ∙ once-has x c.self.inside.unit.now.dummies ∙ ap (λ u. is_dummy (procedure_of u) x) c.self.view_is;
    }
