use Rattle.std.proofs.Common.{Ok, Err, sym, ap, subst, ◌∙◌}
use Rattle.std.proofs.lemmas.Result.{err_from_is_err_and}
use Rattle.adj_tree.specs.View.{procedures_of}
use Rattle.def_refused.specs.TextFaults.{program_of}
use Rattle.adj_tool_answer.specs.Programs.{AreUnits, IsProgram, Tells}
use Rattle.adj_tool_answer.proofs.Telling.{program_in, early, late, gives}
use Rattle.adj_tool_answer.proofs.reading.read_marked.Goals as goal

pub returns-in_err-stated-clause-is : goal.returns-in_err-stated-clause-is
returns-in_err-stated-clause-is c =
    let p = err_from_is_err_and c.from_residual.result c.from_residual.ensures.1 in
    rw (p.1, p.2) (early c.args.mode c.args.bytes.now c.in_err-stated.field-0.0 c.in_err-stated.ensures)

pub returns-in_err-stated-clause-exact : goal.returns-in_err-stated-clause-exact
returns-in_err-stated-clause-exact c =
    gives program_in c.from_residual.result (program_of c.args.mode c.args.bytes.now) (IsProgram c.args.mode c.args.bytes.now) (returns-in_err-stated-clause-is c) (c.reading_law.ensures.only_program c.args.mode c.args.bytes.now)

pub returns-in_err-program-clause-is : goal.returns-in_err-program-clause-is
returns-in_err-program-clause-is c =
    let p = err_from_is_err_and c.from_residual-in_err-program.result c.from_residual-in_err-program.ensures.1 in
    rw (p.1, p.2)
    (late c.reading_law.ensures.only_statements c.args.mode c.args.bytes.now c.in_ok-stated.stated.items c.in_ok-stated.ensures (Err c.in_err-program.field-0.0)
    (subst (λ ts. Tells procedures_of (Err c.in_err-program.field-0.0) (AreUnits c.args.mode ts)) c.as_slice-2.ensures.value c.in_err-program.ensures.units))

pub returns-in_err-program-clause-exact : goal.returns-in_err-program-clause-exact
returns-in_err-program-clause-exact c =
    gives program_in c.from_residual-in_err-program.result (program_of c.args.mode c.args.bytes.now) (IsProgram c.args.mode c.args.bytes.now) (returns-in_err-program-clause-is c) (c.reading_law.ensures.only_program c.args.mode c.args.bytes.now)

pub returns-clause-is : goal.returns-clause-is
returns-clause-is c =
    late c.reading_law.ensures.only_statements c.args.mode c.args.bytes.now c.in_ok-stated.stated.items c.in_ok-stated.ensures (Ok c.in_ok-program.program)
    (subst (λ ts. AreUnits c.args.mode ts (Ok (procedures_of c.in_ok-program.program))) c.as_slice-2.ensures.value c.in_ok-program.ensures.units)

pub returns-clause-exact : goal.returns-clause-exact
returns-clause-exact c = c.reading_law.ensures.only_program c.args.mode c.args.bytes.now (Ok (procedures_of c.in_ok-program.program)) (returns-clause-is c)

pub returns-clause-reads : goal.returns-clause-reads
returns-clause-reads c = (returns-clause-is c).1

pub returns-clause-splits : goal.returns-clause-splits
returns-clause-splits c = c.in_ok-splits.ensures.reads c.args.bytes.now (c.in_ok-stated.ensures.1 ∙ ap Ok (sym c.as_slice.ensures.value))
