use Rattle.std.proofs.Common.{ap, ◌∙◌}
use Rattle.std.specs.Prelude.{not}
use Rattle.adj_tree.specs.View.{procedure_of}
use Rattle.def_names.specs.Fault.{fault, faults_if, first_of, sooner}
use Rattle.def_names.specs.Variables.{is_dummy}
use Rattle.def_names.proofs.Order.{sooner_mapped}
use Rattle.adj_symbols.specs.View.{place_of}
use Rattle.adj_symbols.proofs.heads.add_strange.Goals as goal

pub loop-place-preserved : goal.loop-place-preserved
loop-place-preserved c =
    let p = c.place-item.result in
    let u = procedure_of c.args.outline.now in
    sooner_mapped place_of (λ q. faults_if (not (is_dummy u q.1)) (fault 23 q.0)) c.args.places.now c.loop-place.place-index p c.loop-place.first c.add_if.new.self c.loop-place-test.true c.place-item.is
    (c.add_if.ensures.added ∙ ap (λ b. sooner c.loop-place.first (first_of (faults_if (not b) (fault 23 p.line)))) c.is_dummy.ensures.dummy)
    ∙ c.loop-place.invariant
