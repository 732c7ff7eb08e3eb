use Rattle.std.proofs.Common.{ap, ◌∙◌, ◌++◌, []}
use Rattle.adj_tree.specs.View.{procedure_of}
use Rattle.def_names.specs.Variables.{dummy_places, declared_places}
use Rattle.def_names.specs.Fault.{again, first_of, sooner}
use Rattle.def_names.proofs.Order.{sooner_then}
use Rattle.adj_symbols.specs.View.{places_of}
use Rattle.adj_symbols.proofs.unit_names.add_declared_twice.Goals as goal

pub returns : goal.returns
returns c =
    let u = procedure_of c.args.unit.now in
    let dummies = ap places_of c.as_slice.ensures.value ∙ c.in_ok-add_dummies.ensures ∙ ap (λ xs. places_of xs ++ dummy_places u) c.new-dummies.ensures.items in
    let declared = ap places_of c.as_slice-2.ensures.value ∙ c.in_ok-add_declared.ensures ∙ ap (λ xs. places_of xs ++ declared_places u) c.new-declared.ensures.items in
    sooner_then (again 8 [] (dummy_places u)) (again 8 [] (declared_places u)) c.args.first.now c.add_again.new.first c.add_again-2.new.first
    (c.in_ok-add_again.ensures.first ∙ ap (λ ps. sooner c.args.first.now (first_of (again 8 [] ps))) dummies)
    (c.in_ok-add_again-2.ensures.first ∙ ap (λ ps. sooner c.add_again.new.first (first_of (again 8 [] ps))) declared)
