use Rattle.std.proofs.Common.{ap, ◌∙◌}
use Rattle.std.specs.Prelude.{◌||◌, is_some, map}
use Rattle.def_names.specs.Fault.{fault, faults_if, first_of, sooner}
use Rattle.def_names.proofs.Order.{sooner_mapped}
use Rattle.adj_tree.specs.View.{procedure_of}
use Rattle.def_meaning.specs.Written.{find_unit}
use Rattle.def_names.specs.Reserved.{is_reserved}
use Rattle.adj_symbols.specs.View.{place_of}
use Rattle.adj_symbols.proofs.name_faults.add_taken.Goals as goal

pub loop-place-preserved : goal.loop-place-preserved
loop-place-preserved c =
    let p = c.place-item.result in
    sooner_mapped place_of (λ q. faults_if (is_reserved q.1 || is_some (find_unit (map procedure_of c.args.scope.now) q.1)) (fault 18 q.0)) c.args.places.now c.loop-place.place-index p c.loop-place.first c.add_if.new.self c.loop-place-test.true c.place-item.is
    (c.add_if.ensures.added ∙ ap (λ b. sooner c.loop-place.first (first_of (faults_if (b) (fault 18 p.line)))) c.is_taken.ensures)
    ∙ c.loop-place.invariant
