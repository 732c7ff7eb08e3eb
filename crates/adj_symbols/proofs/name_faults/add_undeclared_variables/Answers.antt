use Rattle.std.proofs.Common.{ap, sym, ◌∙◌}
use Rattle.std.specs.Prelude.{not}
use Rattle.adj_tree.specs.View.{procedure_of}
use Rattle.def_names.specs.Variables.{Name, is_integer}
use Rattle.std.specs.List.{list_any}
use Rattle.def_names.specs.Fault.{first_of, sooner}
use Rattle.def_names.proofs.Order.{sooner_none}
use Rattle.adj_symbols.specs.View.{places_of}
use Rattle.adj_symbols.proofs.FirstPlaces.{none_at_first}
use Rattle.adj_symbols.proofs.name_faults.add_undeclared_variables.Goals as goal

pub returns-else-has_undeclared : goal.returns-else-has_undeclared
returns-else-has_undeclared c =
    let f = λ (x : Name). not (is_integer (procedure_of c.args.outline.now) x) in
    let none = ap (list_any (λ p. f p.1)) (sym c.requires) ∙ sym c.has_undeclared.ensures ∙ c.if-has_undeclared.false in
    sym (ap (λ rs. sooner c.args.first.now (first_of rs)) (none_at_first f 7 (places_of c.args.places.now) none) ∙ sooner_none c.args.first.now)
