use Rattle.std.proofs.Common.{map, ap, ◌∙◌}
use Rattle.adj_tree.specs.View.{declaration_of, procedure_of, code_of}
use Rattle.adj_norm.proofs.program.with_body.Goals as goal

pub returns : goal.returns
returns c =
    let u = procedure_of c.args.unit.now in
    record {
      unit = λ i.
          record {
            line = u.line;
            name = c.in_ok-name.ensures.same i;
            dummies = (c.new.ensures.members ∙ c.in_ok-dummies.ensures.same ∙ c.as_slice.ensures.members) i;
            is_none = u.is_none;
            declarations = (ap (map declaration_of) (c.new-2.ensures.members) ∙ c.in_ok-decls.ensures.equal ∙ ap (map declaration_of) c.as_slice-2.ensures.members) i;
            body = code_of c.args.body;
          };
    }
