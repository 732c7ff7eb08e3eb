use Rattle.std.proofs.Common.{map, ap, ◌∙◌}
use Rattle.std.specs.List.{flat_map}
use Rattle.adj_tree.specs.View.{procedure_of}
use Rattle.def_names.specs.CallFaults.{faults_of_call}
use Rattle.def_names.specs.Statements.{statements}
use Rattle.adj_tree.specs.Code.{Procedure}
use Rattle.def_names.specs.Fault.{first_of, sooner}
use Rattle.def_names.proofs.Order.{sooner_mapped}
use Rattle.adj_symbols.proofs.Ends.{sooner_end}
use Rattle.adj_symbols.proofs.calls.add_calls.Goals as goal

pub loop-caller-preserved : goal.loop-caller-preserved
loop-caller-preserved c =
    let ps = map procedure_of c.args.scope.now in
    sooner_mapped procedure_of (λ u. flat_map (λ s. faults_of_call ps u s.0 s.1) (statements u.body)) c.outlines-caller-items.result.now c.loop-caller.caller-index c.caller-item.result c.loop-caller.first c.add_unit_calls.new.first c.loop-caller-test.true c.caller-item.is c.add_unit_calls.ensures
    ∙ c.loop-caller.invariant

pub returns : goal.returns
returns c =
    let ps = map procedure_of c.args.scope.now in
    let f = λ (u : Procedure). flat_map (λ s. faults_of_call ps u s.0 s.1) (statements u.body) in
    let us = c.outlines-caller-items.result.now in
    sooner_end procedure_of f us c.loop-caller.caller-index c.loop-caller.first (sooner c.args.first.now (first_of (flat_map f (map procedure_of us)))) c.loop-caller-test.false c.loop-caller.invariant
    ∙ ap (λ z. sooner c.args.first.now (first_of (flat_map f (map procedure_of z)))) c.outlines-caller-items.ensures.outlines
