use Rattle.std.proofs.Common.{Ok}
use Rattle.std.proofs.lemmas.Result.{err_from_is_err_and}
use Rattle.adj_tree.specs.CommonView.{shared_units_of}
use Rattle.adj_tool_answer.proofs.Telling.{fails_units, gives_units, lowered_named}
use Rattle.adj_tool_answer.proofs.reading.program.Goals as goal

pub program-requires : goal.program-requires
program-requires c = record { text = (c.requires.text.0, c.reading_law.ensures.only_statements c.args.mode c.requires.text.0 (Ok c.args.stated.now) c.requires.text.1) }

pub returns-in_err-shared-clause-units : goal.returns-in_err-shared-clause-units
returns-in_err-shared-clause-units c =
    let p = err_from_is_err_and c.from_residual.result c.from_residual.ensures.1 in
    rw (p.1, p.2) (fails_units c.args.mode c.args.stated.now c.in_err-shared.field-0.0 c.reading_law.ensures.units c.in_err-shared.ensures.exact)

pub returns-clause-units : goal.returns-clause-units
returns-clause-units c =
    gives_units c.args.mode c.args.stated.now (shared_units_of c.in_ok-shared.shared) c.lower_common.result c.reading_law.ensures.units c.in_ok-shared.ensures.exact c.lower_common.ensures.lowered

pub returns-clause-written : goal.returns-clause-written
returns-clause-written c = lowered_named c.written_law.ensures (shared_units_of c.in_ok-shared.shared) c.in_ok-shared.ensures.written c.lower_common.result c.lower_common.ensures.lowered
