use Rattle.std.proofs.Common.{ap, ◌∙◌, ◌++◌, map, append_assoc, true}
use Rattle.adj_tree.specs.View.{procedure_of, code_of}
use Rattle.def_names.specs.Statements.{statements}
use Rattle.def_names.specs.Variables.{dummy_places, declared_places, statement_places}
use Rattle.adj_symbols.specs.View.{places_of, uses_of, used_place, taken_at}
use Rattle.adj_symbols.proofs.Names.{used_listed}
use Rattle.adj_symbols.proofs.unit_names.unit_places.Goals as goal

pub returns : goal.returns
returns c =
    let u = procedure_of c.args.outline.now in
    let same = c.unit-unit.ensures.unit in
    let dummies = c.in_ok-add_dummies.ensures ∙ ap (λ xs. places_of xs ++ dummy_places (procedure_of c.unit-unit.result.now)) c.new-found.ensures.items ∙ ap (λ v. dummy_places (procedure_of v)) same in
    let declared = c.in_ok-add_declared.ensures ∙ ap (λ ps. ps ++ declared_places (procedure_of c.unit-unit.result.now)) dummies ∙ ap (λ v. dummy_places u ++ declared_places (procedure_of v)) same in
    let used = ap (map used_place) (c.as_slice.ensures.uses ∙ c.in_ok-uses.ensures ∙ ap (taken_at true) c.statements.ensures.statements) ∙ used_listed (statements (code_of c.args.outline.now.body)) in
    c.in_ok-add_used.ensures
    ∙ ap (λ ps. ps ++ map used_place (uses_of c.as_slice.result.now)) declared
    ∙ ap (λ ps. (dummy_places u ++ declared_places u) ++ ps) used
    ∙ append_assoc (dummy_places u) (declared_places u) (statement_places u)
