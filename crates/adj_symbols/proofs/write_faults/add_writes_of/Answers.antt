use Rattle.std.proofs.Common.{ap, ◌∙◌, map}
use Rattle.std.specs.List.{flat_map}
use Rattle.adj_tree.specs.Code.{Act}
use Rattle.adj_tree.specs.Listed.{statement_of}
use Rattle.adj_tree.specs.View.{procedure_of}
use Rattle.def_meaning.specs.LeastSet.{row_of}
use Rattle.def_names.specs.Statements.{At}
use Rattle.def_names.specs.Fault.{fault, faults_if, first_of, sooner}
use Rattle.def_names.proofs.Order.{sooner_mapped}
use Rattle.adj_symbols_writes.specs.View.{seen}
use Rattle.adj_symbols.specs.Writes.{writes_one}
use Rattle.adj_symbols.proofs.Ends.{sooner_end}
use Rattle.adj_symbols.proofs.write_faults.add_writes_of.Goals as goal

pub loop-stmt-preserved : goal.loop-stmt-preserved
loop-stmt-preserved c =
    let h = row_of (map procedure_of c.args.scope.now) c.args.written.now in
    let p = c.stmt-item.result in
    let f0 = c.loop-stmt.first in
    sooner_mapped (λ t. statement_of t.now) (λ s. faults_if (writes_one h c.args.extents.now s.1) (fault 13 s.0)) c.args.stmts.now c.loop-stmt.stmt-index p f0 c.add_if.new.self c.loop-stmt-test.true c.stmt-item.is
    (c.add_if.ensures.added ∙ ap (λ b. sooner f0 (first_of (faults_if b (fault 13 p.now.line)))) c.in_ok-is_hit.ensures)
    ∙ c.loop-stmt.invariant

pub returns : goal.returns
returns c =
    let h = row_of (map procedure_of c.args.scope.now) c.args.written.now in
    let f = λ (s : At Act). faults_if (writes_one h c.args.extents.now s.1) (fault 13 s.0) in
    let ss = c.args.stmts.now in
    sooner_end (λ t. statement_of t.now) f ss c.loop-stmt.stmt-index c.loop-stmt.first (sooner c.args.first.now (first_of (flat_map f (seen ss)))) c.loop-stmt-test.false c.loop-stmt.invariant
