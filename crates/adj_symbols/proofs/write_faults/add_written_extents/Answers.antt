use Rattle.std.proofs.Common.{ap, ◌∙◌, map}
use Rattle.std.specs.List.{flat_map}
use Rattle.adj_tree.specs.View.{procedure_of}
use Rattle.def_meaning.specs.LeastSet.{row_of}
use Rattle.def_names.specs.Statements.{statements}
use Rattle.def_names.specs.Fault.{fault, faults_if, first_of, sooner}
use Rattle.adj_symbols.specs.Writes.{writes_one}
use Rattle.adj_symbols.proofs.Meeting.{met_extents}
use Rattle.adj_symbols.proofs.write_faults.add_written_extents.Goals as goal

pub returns : goal.returns
returns c =
    let h = row_of (map procedure_of c.args.scope.now) c.args.written.now in
    let u = procedure_of c.args.outline.now in
    let xs = c.in_ok-extents.extents in
    let f0 = c.args.first.now in
    c.in_ok-add_writes_of.ensures
    ∙ ap (λ ss. sooner f0 (first_of (flat_map (λ s. faults_if (writes_one h xs s.1) (fault 13 s.0)) ss))) c.statements-stmts.ensures.statements
    ∙ (λ i. sooner f0 (first_of (flat_map (λ s. faults_if (met_extents h u xs s.1 c.in_ok-extents.ensures i) (fault 13 s.0)) (statements u.body))))
