use Rattle.std.proofs.Common.{◌++◌, List, ℕ, [], ◌∷◌, map, ap, ◌∙◌}
use Rattle.adj_tree.specs.View.{declaration_of}
use Rattle.def_sweep.specs.Declared.{declaration}
use Rattle.adj_naming.specs.Table.{table_of}
use Rattle.adj_sweep_assignment.specs.View.{marks_of}
use Rattle.adj_weave_units.specs.Parts.{declared_among}
use Rattle.adj_weave_units.proofs.Walks.{walked, declared-next}
use Rattle.adj_weave_units.proofs.declarations.declare_variables.Goals as goal

pub loop-x-preserved : goal.loop-x-preserved
loop-x-preserved c =
    let a = (marks_of c.args.marking.now).shadowed in
    let t = table_of c.args.n.now in
    let find = declaration c.args.line (map declaration_of c.args.declared.now.firsts.items) in
    let made = map declaration_of c.loop-x.made.items in
    walked (declared_among a find t) (λ (y : List ℕ). declared_among a find t (y ∷ [])) (declared-next a find t) c.args.names.now made (map declaration_of c.declare_variable.new.made.items) c.loop-x.x-index c.x-item.result c.loop-x-test.true c.x-item.is
    (c.in_ok-declare_variable.ensures.declarations ∙ ap (λ d. made ++ declared_among a (λ y. d) t (c.x-item.result ∷ [])) c.in_ok-own.ensures.declaration)
    ∙ c.loop-x.invariant
