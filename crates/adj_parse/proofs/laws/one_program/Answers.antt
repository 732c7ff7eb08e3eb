use Rattle.adj_parse.proofs.TextReads.{one_program}
use Rattle.adj_parse.proofs.laws.one_program.Goals as goal

pub returns : goal.returns
returns c = record { one = one_program }
