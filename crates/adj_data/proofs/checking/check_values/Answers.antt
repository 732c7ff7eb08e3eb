use Rattle.std.proofs.lemmas.Result.{err_from_is_err_and}
use Rattle.std.proofs.Common.{map}
use Rattle.adj_tree.specs.View.{procedure_of}
use Rattle.adj_data.specs.Given.{slot_seen}
use Rattle.adj_data.proofs.Checked as checked
use Rattle.adj_data.proofs.checking.check_values.Goals as goal

pub returns-in_err-entries-clause-fault : goal.returns-in_err-entries-clause-fault
returns-in_err-entries-clause-fault c =
    let u = procedure_of c.args.unit.now in
    let h = c.args.head.now in
    let p = err_from_is_err_and c.from_residual-in_err-entries.result c.from_residual-in_err-entries.ensures.1 in
    rw (p.1, p.2) (checked.at_items c.args.line c.args.bytes.now u h.vars h.outvars c.in_ok-names.names c.in_ok-names.ensures.same c.in_err-entries.field-0.0 c.in_err-entries.ensures.fault)

pub returns-in_err-inputs-clause-fault : goal.returns-in_err-inputs-clause-fault
returns-in_err-inputs-clause-fault c =
    let u = procedure_of c.args.unit.now in
    let h = c.args.head.now in
    let p = err_from_is_err_and c.from_residual-in_err-inputs.result c.from_residual-in_err-inputs.ensures.1 in
    rw (p.1, p.2) (checked.at_dummies c.args.line c.args.bytes.now u h.vars h.outvars c.in_ok-names.names c.in_ok-names.ensures.same c.in_ok-entries.entries c.in_ok-entries.ensures.entries c.in_ok-entries.ensures.ok c.in_err-inputs.field-0.0 c.in_err-inputs.ensures.fault)

pub returns-in_err-tangents-clause-fault : goal.returns-in_err-tangents-clause-fault
returns-in_err-tangents-clause-fault c =
    let u = procedure_of c.args.unit.now in
    let h = c.args.head.now in
    let p = err_from_is_err_and c.from_residual-in_err-tangents.result c.from_residual-in_err-tangents.ensures.1 in
    rw (p.1, p.2) (checked.at_tangents c.args.line c.args.bytes.now u h.vars h.outvars c.in_ok-names.names c.in_ok-names.ensures.same c.in_ok-entries.entries c.in_ok-entries.ensures.entries c.in_ok-entries.ensures.ok
    c.in_ok-inputs.ensures.ok (map slot_seen c.in_ok-inputs.inputs) c.in_ok-inputs.ensures.slots c.in_err-tangents.field-0.0 c.in_err-tangents.ensures.fault)

pub returns-in_err-adjoints-clause-fault : goal.returns-in_err-adjoints-clause-fault
returns-in_err-adjoints-clause-fault c =
    let u = procedure_of c.args.unit.now in
    let h = c.args.head.now in
    let p = err_from_is_err_and c.from_residual-in_err-adjoints.result c.from_residual-in_err-adjoints.ensures.1 in
    rw (p.1, p.2) (checked.at_adjoints c.args.line c.args.bytes.now u h.vars h.outvars c.in_ok-names.names c.in_ok-names.ensures.same c.in_ok-entries.entries c.in_ok-entries.ensures.entries c.in_ok-entries.ensures.ok
    c.in_ok-inputs.ensures.ok (map slot_seen c.in_ok-inputs.inputs) c.in_ok-inputs.ensures.slots c.in_ok-tangents.ensures.ok c.in_err-adjoints.field-0.0 c.in_err-adjoints.ensures.fault)

pub returns-clause-accepted : goal.returns-clause-accepted
returns-clause-accepted c =
    let u = procedure_of c.args.unit.now in
    let h = c.args.head.now in
    checked.all_given c.args.line c.args.bytes.now u h.vars h.outvars c.in_ok-names.names c.in_ok-names.ensures.same c.in_ok-entries.entries c.in_ok-entries.ensures.entries c.in_ok-entries.ensures.ok
    c.in_ok-inputs.ensures.ok (map slot_seen c.in_ok-inputs.inputs) c.in_ok-inputs.ensures.slots c.in_ok-tangents.ensures.ok c.in_ok-adjoints.ensures.ok

pub returns-clause-inputs : goal.returns-clause-inputs
returns-clause-inputs c =
    let u = procedure_of c.args.unit.now in
    let h = c.args.head.now in
    checked.inputs_are c.args.line c.args.bytes.now u h.vars h.outvars c.in_ok-names.names c.in_ok-names.ensures.same c.in_ok-entries.entries c.in_ok-entries.ensures.entries c.in_ok-entries.ensures.ok
    c.in_ok-inputs.ensures.ok (map slot_seen c.in_ok-inputs.inputs) c.in_ok-inputs.ensures.slots

pub returns-clause-tangents : goal.returns-clause-tangents
returns-clause-tangents c =
    let u = procedure_of c.args.unit.now in
    let h = c.args.head.now in
    checked.tangents_are c.args.line c.args.bytes.now u h.vars h.outvars c.in_ok-names.names c.in_ok-names.ensures.same c.in_ok-entries.entries c.in_ok-entries.ensures.entries c.in_ok-entries.ensures.ok
    c.in_ok-inputs.ensures.ok (map slot_seen c.in_ok-inputs.inputs) c.in_ok-inputs.ensures.slots (map slot_seen c.in_ok-tangents.tangents) c.in_ok-tangents.ensures.slots

pub returns-clause-adjoints : goal.returns-clause-adjoints
returns-clause-adjoints c =
    let u = procedure_of c.args.unit.now in
    let h = c.args.head.now in
    checked.adjoints_are c.args.line c.args.bytes.now u h.vars h.outvars c.in_ok-names.names c.in_ok-names.ensures.same c.in_ok-entries.entries c.in_ok-entries.ensures.entries c.in_ok-entries.ensures.ok
    c.in_ok-inputs.ensures.ok (map slot_seen c.in_ok-inputs.inputs) c.in_ok-inputs.ensures.slots (map slot_seen c.in_ok-adjoints.adjoints) c.in_ok-adjoints.ensures.slots
