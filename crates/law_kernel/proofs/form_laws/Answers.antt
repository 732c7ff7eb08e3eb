-- Each law is a lemma.
use Rattle.law_kernel.proofs.SameWritten.{same_written, statements_same}
use Rattle.law_kernel.proofs.Forms.{is_kernel}
use Rattle.law_kernel.proofs.form_laws.Goals as goal

pub returns-clause-units_write_the_same : goal.returns-clause-units_write_the_same
returns-clause-units_write_the_same c = same_written

pub returns-clause-statements_write_the_same : goal.returns-clause-statements_write_the_same
returns-clause-statements_write_the_same c = statements_same

pub returns-clause-form : goal.returns-clause-form
returns-clause-form c = is_kernel
