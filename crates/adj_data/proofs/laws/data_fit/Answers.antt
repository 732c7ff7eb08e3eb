use Rattle.adj_data.proofs.Fitted.{data_fit, check_fit}
use Rattle.adj_data.proofs.laws.data_fit.Goals as goal

pub returns : goal.returns
returns c = record { run = data_fit; check = check_fit }
