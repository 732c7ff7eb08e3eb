use Rattle.std.proofs.Common.{length, ap, subst, sym, ◌∙◌}
use Rattle.std.proofs.lemmas.Bool.{eqb-true}
use Rattle.std.proofs.lemmas.Result.{err_from_is_err_and}
use Rattle.def_text.specs.Line.{cut_lines}
use Rattle.adj_data.specs.Entries.{with_items}
use Rattle.adj_data.specs.Faults.{entries_fault}
use Rattle.adj_data.specs.Given.{IsFirstFault}
use Rattle.adj_data.specs.Titles.{takes_marks}
use Rattle.adj_data.proofs.Entering.{line_passed, line_fault, nothing_left}
use Rattle.adj_data.proofs.entries.read.Goals as goal

pub returns-in_err-read_line-clause-fault : goal.returns-in_err-read_line-clause-fault
returns-in_err-read_line-clause-fault c =
    let e = c.in_err-read_line.field-0.0 in
    let p = err_from_is_err_and c.from_residual-in_err-read_line.result c.from_residual-in_err-read_line.ensures.1 in
    rw (p.1, p.2)
    (subst (IsFirstFault e) c.loop-rest.invariant.0
    (line_fault (takes_marks c.args.reading.now.titles) e c.args.reading.now.names c.loop-rest.entries c.loop-rest.number c.next_number-number.result c.split_line.result.0.now c.without_cr.result.now (cut_lines c.split_line.result.1.now) (cut_lines c.loop-rest.rest.now) c.split_line.ensures.lines c.next_number-number.ensures c.without_cr.ensures c.in_err-read_line.ensures.fault))

pub loop-rest-preserved : goal.loop-rest-preserved
loop-rest-preserved c =
    let r = line_passed (takes_marks c.args.reading.now.titles) c.args.reading.now.names c.loop-rest.entries c.read_line.new.self c.loop-rest.number c.next_number-number.result c.split_line.result.0.now c.without_cr.result.now (cut_lines c.split_line.result.1.now) (cut_lines c.loop-rest.rest.now) c.split_line.ensures.lines c.next_number-number.ensures c.without_cr.ensures c.in_ok-read_line.ensures.ok c.in_ok-read_line.ensures.entries in
    (r.0 ∙ c.loop-rest.invariant.0, r.1 ∙ c.loop-rest.invariant.1)

pub returns-clause-ok : goal.returns-clause-ok
returns-clause-ok c =
    let none = eqb-true (length c.loop-rest.rest.now) 0 (sym c.loop-rest-test.ensures) in
    sym c.loop-rest.invariant.0 ∙ ap (entries_fault c.args.reading.now.names c.loop-rest.entries) (nothing_left (takes_marks c.args.reading.now.titles) c.loop-rest.number c.loop-rest.rest.now none)

pub returns-clause-entries : goal.returns-clause-entries
returns-clause-entries c =
    let none = eqb-true (length c.loop-rest.rest.now) 0 (sym c.loop-rest-test.ensures) in
    ap (with_items c.loop-rest.entries) (sym (nothing_left (takes_marks c.args.reading.now.titles) c.loop-rest.number c.loop-rest.rest.now none)) ∙ c.loop-rest.invariant.1
