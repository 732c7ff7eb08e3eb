use Rattle.std.proofs.Common.{ap, sym, ◌∙◌}
use Rattle.std.specs.Prelude.{◌||◌, is_some, map}
use Rattle.adj_tree.specs.View.{procedure_of}
use Rattle.def_meaning.specs.Written.{find_unit}
use Rattle.def_names.specs.Reserved.{is_reserved}
use Rattle.def_names.specs.Variables.{Name}
use Rattle.std.specs.List.{list_any}
use Rattle.def_names.specs.Fault.{first_of, sooner}
use Rattle.def_names.proofs.Order.{sooner_none}
use Rattle.adj_symbols.specs.View.{places_of}
use Rattle.adj_symbols.proofs.FirstPlaces.{none_at_first}
use Rattle.adj_symbols.proofs.name_faults.add_reserved_variables.Goals as goal

pub returns-else-has_taken : goal.returns-else-has_taken
returns-else-has_taken c =
    let f = λ (x : Name). is_reserved x || is_some (find_unit (map procedure_of c.args.scope.now) x) in
    let none = ap (list_any (λ p. f p.1)) (sym c.requires) ∙ sym c.has_taken.ensures ∙ c.if-has_taken.false in
    sym (ap (λ rs. sooner c.args.first.now (first_of rs)) (none_at_first f 18 (places_of c.args.places.now) none) ∙ sooner_none c.args.first.now)
