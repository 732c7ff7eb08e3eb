use Rattle.adj_norm_statement.proofs.Equal.{name_test}
use Rattle.adj_norm_statement.proofs.form.same_name.Goals as goal

pub returns : goal.returns
returns c = record { same = name_test c.equals.result c.args.name.now c.args.other.now c.equals.ensures.equal }
