use Rattle.std.proofs.Common.{ap, map, ◌∙◌}
use Rattle.std.specs.List.{flat_map}
use Rattle.adj_tree.specs.Listed.{statement_of}
use Rattle.adj_tree.specs.View.{procedure_of}
use Rattle.def_names.specs.CallFaults.{faults_of_call}
use Rattle.def_names.specs.Fault.{first_of, sooner}
use Rattle.adj_tree.specs.Code.{Act}
use Rattle.def_names.specs.Statements.{At}
use Rattle.def_names.proofs.Order.{sooner_mapped}
use Rattle.adj_symbols_writes.specs.View.{seen}
use Rattle.adj_symbols.proofs.Ends.{sooner_end}
use Rattle.adj_symbols.proofs.calls.add_unit_calls.Goals as goal

pub loop-stmt-preserved : goal.loop-stmt-preserved
loop-stmt-preserved c =
    let p = c.stmt-item.result in
    sooner_mapped (λ t. statement_of t.now) (λ s. faults_of_call (map procedure_of c.args.scope.now) (procedure_of c.args.caller.now) s.0 s.1) c.statements-stmt-items.result.now c.loop-stmt.stmt-index p c.loop-stmt.first c.add_some.new.self c.loop-stmt-test.true c.stmt-item.is
    (c.add_some.ensures.added ∙ ap (λ rs. sooner c.loop-stmt.first (first_of rs)) (c.call_fault.ensures p.now.line))
    ∙ c.loop-stmt.invariant

pub returns : goal.returns
returns c =
    let f = λ (s : At Act). faults_of_call (map procedure_of c.args.scope.now) (procedure_of c.args.caller.now) s.0 s.1 in
    let ss = c.statements-stmt-items.result.now in
    sooner_end (λ t. statement_of t.now) f ss c.loop-stmt.stmt-index c.loop-stmt.first (sooner c.args.first.now (first_of (flat_map f (seen ss)))) c.loop-stmt-test.false c.loop-stmt.invariant
    ∙ ap (λ z. sooner c.args.first.now (first_of (flat_map f z))) c.statements-stmt-items.ensures.statements
