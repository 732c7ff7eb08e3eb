use Rattle.std.proofs.Common.{List, map, ap, sym, ◌∙◌, ◌++◌}
use Rattle.std.specs.Prelude.{not}
use Rattle.std.specs.List.{flat_map}
use Rattle.std.proofs.lemmas.Grind.{flat_map-append}
use Rattle.adj_tree.specs.View.{procedure_of, declaration_of}
use Rattle.def_names.specs.Statements.{At}
use Rattle.def_names.specs.Variables.{Name, is_integer, places}
use Rattle.def_names.specs.NameFaults.{extent_names, extent_places}
use Rattle.def_names.specs.Fault.{fault, faults_if, first_of, sooner}
use Rattle.def_names.proofs.Order.{sooner_then}
use Rattle.adj_symbols.specs.View.{places_of}
use Rattle.adj_symbols.proofs.unit_names.add_all_undeclared.Goals as goal

pub returns : goal.returns
returns c =
    let u = procedure_of c.args.outline.now in
    let f = λ (ps : List (At Name)). flat_map (λ p. faults_if (not (is_integer u p.1)) (fault 7 p.0)) ps in
    let extents = ap places_of c.as_slice-2.ensures.value ∙ c.in_ok-add_extent_places.ensures
    ∙ ap (λ xs. places_of xs ++ flat_map (λ d. map (λ x. (d.line, x)) (extent_names d.extents)) (map declaration_of c.as_slice.result.now)) c.new-extents.ensures.items
    ∙ ap (λ ds. flat_map (λ d. map (λ x. (d.line, x)) (extent_names d.extents)) (map declaration_of ds)) (c.as_slice.ensures.members ∙ ap (λ v. v.decls) c.unit.ensures.unit) in
    sooner_then (f (places u)) (f (extent_places u)) c.args.first.now c.add_undeclared_variables.new.first c.add_undeclared.new.first
    (c.add_undeclared_variables.ensures ∙ ap (λ ps. sooner c.args.first.now (first_of (f ps))) c.requires.found)
    (c.add_undeclared.ensures ∙ ap (λ ps. sooner c.add_undeclared_variables.new.first (first_of (f ps))) extents)
    ∙ ap (λ z. sooner c.args.first.now (first_of z)) (sym (flat_map-append (λ p. faults_if (not (is_integer u p.1)) (fault 7 p.0)) (places u) (extent_places u)))
