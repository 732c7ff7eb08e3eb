use Rattle.std.proofs.Common.{ap, map, ◌∙◌, []}
use Rattle.std.specs.Prelude.{flat_map}
use Rattle.adj_tree.specs.View.{procedure_of}
use Rattle.def_names.specs.Fault.{fault, faults_if, again, first_of, sooner}
use Rattle.def_names.specs.Reserved.{is_reserved}
use Rattle.def_names.specs.UnitFaults.{reserved_units, repeated_units}
use Rattle.def_names.proofs.Order.{sooner_then}
use Rattle.adj_symbols.specs.View.{places_of}
use Rattle.adj_symbols.proofs.places.add_unit_faults.Goals as goal

pub returns-clause-first : goal.returns-clause-first
returns-clause-first c =
    let ps = map procedure_of c.args.units.now in
    let same = ap places_of c.as_slice-places.ensures.value ∙ c.in_ok-found.ensures in
    sooner_then (reserved_units ps) (repeated_units ps) c.args.first.now c.add_reserved.new.first c.add_again.new.first
    (c.add_reserved.ensures ∙ ap (λ qs. sooner c.args.first.now (first_of (flat_map (λ p. faults_if (is_reserved p.1) (fault 18 p.0)) qs))) same)
    (c.in_ok-names.ensures.first ∙ ap (λ qs. sooner c.add_reserved.new.first (first_of (again 19 [] qs))) same)
