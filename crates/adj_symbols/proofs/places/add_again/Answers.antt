use Rattle.std.proofs.Common.{ap, sym, ◌∙◌}
use Rattle.std.specs.Prelude.{fold}
use Rattle.std.proofs.lemmas.List.{drop_all}
use Rattle.adj_tree.specs.Codes.{code_number}
use Rattle.def_names.specs.Fault.{again, first_of, sooner}
use Rattle.def_names.proofs.Order.{sooner_none}
use Rattle.adj_sets.specs.Sets.{with_name}
use Rattle.adj_symbols.specs.View.{places_of, names_at}
use Rattle.adj_symbols.proofs.Repeats.{again_more, once_more}
use Rattle.adj_symbols.proofs.places.add_again.Goals as goal

pub loop-place-preserved : goal.loop-place-preserved
loop-place-preserved c =
    let ps = c.args.places.now in
    let i = c.loop-place.place-index in
    let p = c.place-item.result in
    let names = c.loop-place.names in
    let made = c.in_ok-added.ensures.names in
    record {
      faults =
          again_more (code_number c.args.code) names c.insert.new.self ps i p c.in_ok-added.added c.loop-place.first c.add_if.new.self c.loop-place-test.true c.place-item.is c.in_ok-added.ensures.added made c.add_if.ensures.added
          ∙ c.loop-place.invariant.faults;
      passed = once_more names c.insert.new.self ps i p c.loop-place-test.true c.place-item.is made ∙ c.loop-place.invariant.passed;
    }

pub returns-clause-first : goal.returns-clause-first
returns-clause-first c =
    let a = c.loop-place.first in
    let past = drop_all c.loop-place.place-index c.args.places.now c.loop-place-test.false in
    sym (sooner_none a) ∙ ap (λ z. sooner a (first_of (again (code_number c.args.code) c.loop-place.names (places_of z)))) (sym past) ∙ c.loop-place.invariant.faults

pub returns-clause-names : goal.returns-clause-names
returns-clause-names c =
    ap (λ z. fold with_name c.loop-place.names (names_at (places_of z))) (sym (drop_all c.loop-place.place-index c.args.places.now c.loop-place-test.false)) ∙ c.loop-place.invariant.passed
