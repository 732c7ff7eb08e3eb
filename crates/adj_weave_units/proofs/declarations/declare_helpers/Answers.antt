use Rattle.std.proofs.Common.{◌++◌, List, [], ◌∷◌, map, get_or, refl, ap, ◌∙◌}
use Rattle.std.proofs.lemmas.List.{map_push}
use Rattle.adj_tree.specs.View.{declaration_of}
use Rattle.def_sweep.specs.Naming.{name_in}
use Rattle.def_sweep.specs.Declared.{scalar, declared_helpers}
use Rattle.adj_naming.specs.declared.role.Role.TheVariants.{Work}
use Rattle.adj_naming.specs.declared.role.Helper.{Helper}
use Rattle.adj_naming.specs.Roles.{variable_of}
use Rattle.adj_naming.specs.Table.{table_of}
use Rattle.adj_naming.proofs.Places.{get_or_any}
use Rattle.adj_weave_units.proofs.Walks.{walked}
use Rattle.adj_weave_units.proofs.declarations.declare_helpers.Goals as goal

pub loop-helper-preserved : goal.loop-helper-preserved
loop-helper-preserved c =
    let t = table_of c.args.n.now in
    let line = c.args.line in
    let hs = c.args.helpers.now in
    let i = c.loop-helper.helper-index in
    let missing : Helper = record { role = Work; number = 0 } in
    let h = get_or hs i missing in
    let made = c.loop-helper.made.items in
    walked (λ (gs : List Helper). declared_helpers t line (map variable_of gs)) (λ (g : Helper). scalar line (name_in t (variable_of g)) ∷ []) (λ g gs. refl) hs (map declaration_of made) (map declaration_of c.push.new.self.items) i h c.loop-helper-test.true (get_or_any hs i missing h c.loop-helper-test.true)
    (ap (map declaration_of) c.in_ok-push.ensures.items ∙ map_push declaration_of made c.scalar.result ∙ ap (λ d. map declaration_of made ++ (d ∷ [])) (c.scalar.ensures.declaration ∙ ap (scalar line) c.in_ok-name.ensures.name))
    ∙ c.loop-helper.invariant
