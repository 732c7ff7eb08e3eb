use Rattle.std.proofs.Common.{ap, ◌∙◌}
use Rattle.std.specs.Prelude.{not}
use Rattle.std.specs.List.{flat_map}
use Rattle.adj_tree.specs.View.{procedure_of, code_of}
use Rattle.def_names.specs.NameFaults.{has_rank}
use Rattle.def_names.specs.Statements.{statements}
use Rattle.def_names.specs.Fault.{fault, faults_if, first_of, sooner}
use Rattle.adj_symbols.specs.View.{taken_at}
use Rattle.adj_symbols.proofs.Names.{misused_listed}
use Rattle.adj_symbols.proofs.unit_names.add_all_misused.Goals as goal

pub returns : goal.returns
returns c =
    let u = procedure_of c.args.outline.now in
    let b = c.args.rules.takes_runtime in
    let same = c.as_slice.ensures.uses ∙ c.in_ok-uses.ensures ∙ ap (taken_at b) c.statements.ensures.statements in
    c.add_misused.ensures
    ∙ ap (λ ns. sooner c.args.first.now (first_of (flat_map (λ n. faults_if (not (has_rank u n.1)) (fault 9 n.0)) ns))) same
    ∙ ap (λ z. sooner c.args.first.now (first_of z)) (misused_listed u b (statements (code_of c.args.outline.now.body)))
