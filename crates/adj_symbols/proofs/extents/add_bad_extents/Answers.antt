use Rattle.std.proofs.Common.{ap, ◌∙◌}
use Rattle.def_names.specs.Fault.{fault, faults_if, first_of, sooner}
use Rattle.def_names.proofs.Order.{sooner_mapped}
use Rattle.adj_tree.specs.View.{declaration_of, procedure_of}
use Rattle.def_names.specs.NameFaults.{has_bad_extents}
use Rattle.adj_symbols.proofs.extents.add_bad_extents.Goals as goal

pub loop-decl-preserved : goal.loop-decl-preserved
loop-decl-preserved c =
    let d = c.decl-item.result in
    sooner_mapped declaration_of (λ e. faults_if (has_bad_extents (procedure_of c.args.outline.now) e) (fault 12 e.line)) c.args.decls.now c.loop-decl.decl-index d c.loop-decl.first c.add_if.new.self c.loop-decl-test.true c.decl-item.is
    (c.add_if.ensures.added ∙ ap (λ b. sooner c.loop-decl.first (first_of (faults_if b (fault 12 d.line)))) c.has_bad_extents.ensures)
    ∙ c.loop-decl.invariant
