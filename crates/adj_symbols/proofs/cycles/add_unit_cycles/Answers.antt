use Rattle.std.proofs.Common.{ap, ◌∙◌, map}
use Rattle.std.specs.List.{flat_map}
use Rattle.adj_tree.specs.Code.{Act}
use Rattle.adj_tree.specs.Listed.{statement_of}
use Rattle.adj_tree.specs.View.{procedure_of, code_of, act_of}
use Rattle.def_names.specs.Statements.{At, statements}
use Rattle.def_names.specs.Calls.{call_in, calls_lead}
use Rattle.def_names.specs.Fault.{fault, faults_if, first_of, sooner}
use Rattle.def_names.proofs.Order.{sooner_mapped}
use Rattle.adj_symbols_writes.specs.View.{seen}
use Rattle.adj_symbols.proofs.CallsListed.{calls_listed}
use Rattle.adj_symbols.proofs.Ends.{sooner_end}
use Rattle.adj_symbols.proofs.cycles.add_unit_cycles.Goals as goal

pub loop-stmt-preserved : goal.loop-stmt-preserved
loop-stmt-preserved c =
    let ps = map procedure_of c.args.scope.now in
    let p = c.stmt-item.result in
    let f0 = c.loop-stmt.first in
    sooner_mapped (λ t. statement_of t.now) (λ s. flat_map (λ b. faults_if (calls_lead ps b.0 c.args.outline.now.name) (fault 16 s.0)) (call_in s.1)) c.statements-stmt-items.result.now c.loop-stmt.stmt-index p f0 c.add_if.new.self c.loop-stmt-test.true c.stmt-item.is
    (c.add_if.ensures.added ∙ ap (λ rs. sooner f0 (first_of rs)) (c.in_ok-is_cyclic.ensures p.now.line)
    ∙ ap (λ u. sooner f0 (first_of (flat_map (λ b. faults_if (calls_lead ps b.0 u.name) (fault 16 p.now.line)) (call_in (act_of p.now.act))))) c.unit.ensures.unit)
    ∙ c.loop-stmt.invariant

pub returns : goal.returns
returns c =
    let ps = map procedure_of c.args.scope.now in
    let x = c.args.outline.now.name in
    let f = λ (s : At Act). flat_map (λ b. faults_if (calls_lead ps b.0 x) (fault 16 s.0)) (call_in s.1) in
    let ss = c.statements-stmt-items.result.now in
    sooner_end (λ t. statement_of t.now) f ss c.loop-stmt.stmt-index c.loop-stmt.first (sooner c.args.first.now (first_of (flat_map f (seen ss)))) c.loop-stmt-test.false c.loop-stmt.invariant
    ∙ ap (λ z. sooner c.args.first.now (first_of (flat_map f z))) c.statements-stmt-items.ensures.statements
    ∙ ap (λ z. sooner c.args.first.now (first_of z)) (calls_listed (λ b. faults_if (calls_lead ps (b.1).0 x) (fault 16 b.0)) (statements (code_of c.args.outline.now.body)))
