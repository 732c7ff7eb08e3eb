use Rattle.std.proofs.Common.{ap, ◌∙◌}
use Rattle.std.specs.Prelude.{not, ◌&&◌}
use Rattle.def_names.specs.Fault.{fault, faults_if, first_of, sooner}
use Rattle.def_names.proofs.Order.{sooner_mapped}
use Rattle.adj_tree.specs.Listed.{statement_of}
use Rattle.def_names.specs.NameFaults.{calls_runtime}
use Rattle.adj_symbols.proofs.name_faults.add_runtime_calls.Goals as goal

pub loop-stmt-preserved : goal.loop-stmt-preserved
loop-stmt-preserved c =
    let p = c.stmt-item.result in
    sooner_mapped (λ t. statement_of t.now) (λ s. faults_if (not c.args.takes_runtime && calls_runtime s.1) (fault 18 s.0)) c.args.stmts.now c.loop-stmt.stmt-index p c.loop-stmt.first c.add_if.new.self c.loop-stmt-test.true c.stmt-item.is
    (c.add_if.ensures.added ∙ ap (λ b. sooner c.loop-stmt.first (first_of (faults_if (b) (fault 18 p.now.line)))) c.is_stray.ensures)
    ∙ c.loop-stmt.invariant
