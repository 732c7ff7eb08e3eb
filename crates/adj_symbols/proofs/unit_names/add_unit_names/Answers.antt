use Rattle.std.proofs.Common.{◌≡◌, ap, ◌∙◌, ◌++◌, map}
use Rattle.std.specs.Prelude.{is_some, ◌||◌, ◌&&◌, not}
use Rattle.std.specs.List.{flat_map}
use Rattle.adj_tree.specs.View.{procedure_of, declaration_of}
use Rattle.def_meaning.specs.Written.{find_unit}
use Rattle.def_names.specs.Reserved.{is_reserved}
use Rattle.def_names.specs.Variables.{first_places}
use Rattle.def_names.specs.NameFaults.{undeclared, declared_twice, misused, bad_extents, has_bad_extents, reserved_variables, runtime_calls, calls_runtime, too_many_variables, passed_in}
use Rattle.def_names.specs.Fault.{fault, faults_if, first_of, sooner}
use Rattle.def_names.proofs.Order.{sooner_then}
use Rattle.adj_symbols.specs.Rules.{rules_of}
use Rattle.adj_symbols.specs.View.{places_of}
use Rattle.adj_symbols.proofs.unit_names.add_unit_names.Goals as goal

pub returns-clause-faults : goal.returns-clause-faults
returns-clause-faults c =
    let u = procedure_of c.args.outline.now in
    let ps = map procedure_of c.args.scope.now in
    let m = rules_of c.args.rules in
    let f0 = c.args.first.now in
    let f1 = c.add_all_undeclared.new.first in
    let f2 = c.add_declared_twice.new.first in
    let f3 = c.add_all_misused.new.first in
    let f4 = c.add_bad_extents.new.first in
    let f5 = c.add_reserved_variables.new.first in
    let f6 = c.add_runtime_calls.new.first in
    let f7 = c.add_too_many.new.first in
    let found = ap places_of c.as_slice-places.ensures.value ∙ c.in_ok-found.ensures in
    let chosen = ap places_of c.as_slice-variables.ensures.value ∙ c.in_ok-chosen.ensures ∙ ap first_places found in
    let twice : f2 ≡ sooner f1 (first_of (declared_twice u)) = c.in_ok-add_declared_twice.ensures ∙ ap (λ v. sooner f1 (first_of (declared_twice (procedure_of v)))) c.unit-unit.ensures.unit in
    let bad : f4 ≡ sooner f3 (first_of (bad_extents u)) =
    c.add_bad_extents.ensures
    ∙ ap (λ ds. sooner f3 (first_of (flat_map (λ d. faults_if (has_bad_extents u d) (fault 12 d.line)) (map declaration_of ds)))) (c.as_slice.ensures.members ∙ ap (λ v. v.decls) c.unit-unit.ensures.unit) in
    let reserved : f5 ≡ sooner f4 (first_of (reserved_variables ps u)) =
    c.add_reserved_variables.ensures ∙ ap (λ qs. sooner f4 (first_of (flat_map (λ p. faults_if (is_reserved p.1 || is_some (find_unit ps p.1)) (fault 18 p.0)) qs))) found in
    let calls : f6 ≡ sooner f5 (first_of (runtime_calls m u)) =
    c.add_runtime_calls.ensures
    ∙ ap (λ ss. sooner f5 (first_of (flat_map (λ s. faults_if (not c.args.rules.takes_runtime && calls_runtime s.1) (fault 18 s.0)) ss))) c.statements.ensures.statements in
    let many : f7 ≡ sooner f6 (first_of (too_many_variables m u)) = c.add_too_many.ensures ∙ ap (λ qs. sooner f6 (first_of (passed_in c.args.rules.variables qs))) chosen in
    let l6 = runtime_calls m u ++ too_many_variables m u in
    let l5 = reserved_variables ps u ++ l6 in
    let l4 = bad_extents u ++ l5 in
    let l3 = misused m u ++ l4 in
    let l2 = declared_twice u ++ l3 in
    let e6 = sooner_then (runtime_calls m u) (too_many_variables m u) f5 f6 f7 calls many in
    let e5 = sooner_then (reserved_variables ps u) l6 f4 f5 f7 reserved e6 in
    let e4 = sooner_then (bad_extents u) l5 f3 f4 f7 bad e5 in
    let e3 = sooner_then (misused m u) l4 f2 f3 f7 c.in_ok-add_all_misused.ensures e4 in
    let e2 = sooner_then (declared_twice u) l3 f1 f2 f7 twice e3 in
    sooner_then (undeclared u) l2 f0 f1 f7 c.in_ok-add_all_undeclared.ensures e2
