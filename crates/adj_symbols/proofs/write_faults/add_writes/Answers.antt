use Rattle.std.proofs.Common.{ap, ◌∙◌, map}
use Rattle.std.specs.List.{flat_map}
use Rattle.adj_tree.specs.View.{procedure_of}
use Rattle.def_meaning.specs.LeastSet.{row_of}
use Rattle.def_names.specs.Fault.{first_of, sooner}
use Rattle.def_names.specs.WriteFaults.{faults_of_writes}
use Rattle.def_names.proofs.Order.{sooner_mapped}
use Rattle.adj_symbols.proofs.Ends.{sooner_end}
use Rattle.adj_symbols.proofs.write_faults.add_writes.Goals as goal

pub loop-outline-preserved : goal.loop-outline-preserved
loop-outline-preserved c =
    let h = row_of (map procedure_of c.args.scope.now) c.args.written.now in
    sooner_mapped procedure_of (faults_of_writes h) c.outlines-outline-items.result.now c.loop-outline.outline-index c.outline-item.result c.loop-outline.first c.add_unit_writes.new.first c.loop-outline-test.true c.outline-item.is c.in_ok-add_unit_writes.ensures
    ∙ c.loop-outline.invariant

pub returns : goal.returns
returns c =
    let h = row_of (map procedure_of c.args.scope.now) c.args.written.now in
    let us = c.outlines-outline-items.result.now in
    sooner_end procedure_of (faults_of_writes h) us c.loop-outline.outline-index c.loop-outline.first (sooner c.args.first.now (first_of (flat_map (faults_of_writes h) (map procedure_of us)))) c.loop-outline-test.false c.loop-outline.invariant
    ∙ ap (λ z. sooner c.args.first.now (first_of (flat_map (faults_of_writes h) (map procedure_of z)))) c.outlines-outline-items.ensures.outlines
    ∙ ap (λ w. sooner c.args.first.now (first_of (flat_map (faults_of_writes (row_of (map procedure_of c.args.scope.now) w)) (map procedure_of c.args.scope.now)))) c.requires
