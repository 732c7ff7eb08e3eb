use Rattle.adj_parse_statement.proofs.FormsFit.{said_fits}
use Rattle.adj_parse_statement.proofs.SaidForms.{said_reads, said_answers, one_form}
use Rattle.adj_parse_statement.proofs.laws.forms_are_said.Goals as goal

pub returns-clause-reads : goal.returns-clause-reads
returns-clause-reads c = said_reads

pub returns-clause-fits : goal.returns-clause-fits
returns-clause-fits c = said_fits

pub returns-clause-answers : goal.returns-clause-answers
returns-clause-answers c = said_answers

pub returns-clause-one : goal.returns-clause-one
returns-clause-one c = one_form
