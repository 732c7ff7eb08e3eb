use Rattle.std.proofs.Common.{ap, ◌∙◌}
use Rattle.def_names.specs.Fault.{fault, faults_if, first_of, sooner}
use Rattle.def_names.specs.Reserved.{is_reserved}
use Rattle.def_names.proofs.Order.{sooner_mapped}
use Rattle.adj_symbols.specs.View.{place_of}
use Rattle.adj_symbols.proofs.places.add_reserved.Goals as goal

pub loop-place-preserved : goal.loop-place-preserved
loop-place-preserved c =
    let p = c.place-item.result in
    sooner_mapped place_of (λ q. faults_if (is_reserved q.1) (fault 18 q.0)) c.args.places.now c.loop-place.place-index p c.loop-place.first c.add_if.new.self c.loop-place-test.true c.place-item.is
    (c.add_if.ensures.added ∙ ap (λ b. sooner c.loop-place.first (first_of (faults_if b (fault 18 p.line)))) c.is_reserved.ensures.reserved)
    ∙ c.loop-place.invariant
