use Rattle.std.proofs.Common.{ap, ◌∙◌, map, []}
use Rattle.std.specs.Prelude.{not}
use Rattle.std.specs.List.{flat_map}
use Rattle.std.proofs.lemmas.List.Folds.{flat_map-map}
use Rattle.adj_tree.specs.View.{procedure_of}
use Rattle.def_names.specs.Fault.{fault, faults_if, again, first_of, sooner}
use Rattle.def_meaning.specs.Apart.{has_name}
use Rattle.def_names.specs.Variables.{is_dummy}
use Rattle.def_names.proofs.Order.{sooner_then}
use Rattle.adj_symbols.specs.Table.{once}
use Rattle.adj_symbols.specs.View.{places_of, names_at}
use Rattle.adj_symbols.proofs.Meeting.{listed_names}
use Rattle.adj_symbols.proofs.Outlines.{once-has}
use Rattle.adj_symbols.proofs.heads.add_listed.Goals as goal

pub returns-clause-faults : goal.returns-clause-faults
returns-clause-faults c =
    let u = procedure_of c.args.outline.now in
    let xs = c.args.names.now in
    let f0 = c.args.first.now in
    let f1 = c.add_strange.new.first in
    let same = ap places_of c.as_slice-places.ensures.value ∙ c.in_ok-found.ensures in
    sooner_then (flat_map (λ x. faults_if (not (is_dummy u x)) (fault 23 0)) xs) (again 23 [] (map (λ x. (0, x)) xs)) f0 f1 c.add_again.new.first
    (c.add_strange.ensures
    ∙ ap (λ qs. sooner f0 (first_of (flat_map (λ p. faults_if (not (is_dummy u p.1)) (fault 23 p.0)) qs))) same
    ∙ ap (λ z. sooner f0 (first_of z)) (flat_map-map (λ p. faults_if (not (is_dummy u p.1)) (fault 23 p.0)) (λ x. (0, x)) xs))
    (c.in_ok-set.ensures.first ∙ ap (λ qs. sooner f1 (first_of (again 23 [] qs))) same)

pub returns-clause-flags : goal.returns-clause-flags
returns-clause-flags c =
    let xs = c.args.names.now in
    let same = ap places_of c.as_slice-places.ensures.value ∙ c.in_ok-found.ensures in
    c.in_ok-flags.ensures
    ∙ ap (λ s. map (λ d. has_name d s) c.as_slice-dummies.result.now) (c.in_ok-set.ensures.names ∙ ap (λ qs. once (names_at qs)) same ∙ ap once (listed_names xs))
    ∙ ap (map (λ d. has_name d (once xs))) (c.as_slice-dummies.ensures.members ∙ ap (λ o. o.dummies) c.unit.ensures.unit)
    ∙ (λ i. map (λ d. once-has d xs i) c.args.outline.now.dummies)
