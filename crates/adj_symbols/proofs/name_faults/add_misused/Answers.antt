use Rattle.std.proofs.Common.{ap, ◌∙◌}
use Rattle.std.specs.Prelude.{not}
use Rattle.def_names.specs.Fault.{fault, faults_if, first_of, sooner}
use Rattle.def_names.proofs.Order.{sooner_mapped}
use Rattle.def_names.specs.NameFaults.{has_rank}
use Rattle.adj_tree.specs.View.{procedure_of}
use Rattle.adj_symbols.specs.View.{use_of}
use Rattle.adj_symbols.proofs.name_faults.add_misused.Goals as goal

pub loop-used-preserved : goal.loop-used-preserved
loop-used-preserved c =
    let p = c.used-item.result in
    sooner_mapped use_of (λ q. faults_if (not (has_rank (procedure_of c.args.outline.now) q.1)) (fault 9 q.0)) c.args.uses.now c.loop-used.used-index p c.loop-used.first c.add_if.new.self c.loop-used-test.true c.used-item.is
    (c.add_if.ensures.added ∙ ap (λ b. sooner c.loop-used.first (first_of (faults_if (not b) (fault 9 p.line)))) c.has_rank.ensures)
    ∙ c.loop-used.invariant
