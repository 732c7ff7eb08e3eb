use Rattle.std.proofs.Common.{◌++◌, map, ap, ◌∙◌}
use Rattle.adj_tree.specs.View.{declaration_of, procedure_of}
use Rattle.def_sweep.specs.Declared.{declaration, declared_helpers}
use Rattle.adj_naming.specs.Roles.{variable_of}
use Rattle.adj_naming.specs.Table.{table_of}
use Rattle.adj_sweep_assignment.specs.View.{marks_of}
use Rattle.adj_weave_units.specs.Parts.{declared_among}
use Rattle.adj_weave_units.proofs.Walks.{declared_same}
use Rattle.adj_weave_units.proofs.declarations.declarations.Goals as goal

pub returns : goal.returns
returns c =
    let t = table_of c.args.n.now in
    let u = procedure_of c.args.unit.now in
    let a = (marks_of c.args.marking.now).shadowed in
    let find = declaration u.line (map declaration_of c.in_ok-declared.declared.firsts.items) in
    let first = c.in_ok-declare_variables.ensures.declarations
    ∙ ap (λ ds. map declaration_of ds ++ declared_among a find t c.args.variables.now) c.new-made.ensures.items
    ∙ declared_same a find t u c.args.variables.now (c.in_ok-declared.ensures.same u.line) in
    record { declarations = c.in_ok-declare_helpers.ensures.declarations ∙ ap (λ ds. ds ++ declared_helpers t u.line (map variable_of c.args.helpers.now)) first }
