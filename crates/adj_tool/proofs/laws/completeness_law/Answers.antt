use Rattle.adj_tool.proofs.Complete.{wanted_is_done, run_is_done, check_is_done, jacobian_is_done}
use Rattle.adj_tool.proofs.laws.completeness_law.Goals as goal

pub returns : goal.returns
returns c =
    let only = c.reading_law.ensures.only_program in
    record { wanted = wanted_is_done only; run = run_is_done only; check = check_is_done only; jacobian = jacobian_is_done only }
