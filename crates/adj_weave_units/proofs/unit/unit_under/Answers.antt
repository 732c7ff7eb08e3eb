use Rattle.std.proofs.Common.{false, map, ap, ◌∙◌}
use Rattle.adj_tree.specs.View.{declaration_of, procedure_of, code_of}
use Rattle.def_sweep.specs.MarkedProgram.{shadows_behind}
use Rattle.adj_naming.specs.Table.{table_of}
use Rattle.adj_sweep_assignment.specs.View.{marks_of}
use Rattle.adj_weave_units.proofs.unit.unit_under.Goals as goal

pub returns : goal.returns
returns c =
    let u = procedure_of c.args.unit.now in
    let t = table_of c.args.all.now in
    let dummies = c.new.ensures.members ∙ c.in_ok-dummies.ensures.names ∙ ap (shadows_behind (marks_of c.args.shadows.now).shadowed t) c.as_slice.ensures.members in
    let declarations = ap (map declaration_of) c.new-2.ensures.members ∙ c.in_ok-decls.ensures.declarations in
    record {
      unit = λ i. record {
        line = u.line;
        name = c.in_ok-copy.ensures.same i;
        dummies = dummies i;
        is_none = false;
        declarations = declarations i;
        body = code_of c.args.body;
      };
    }
