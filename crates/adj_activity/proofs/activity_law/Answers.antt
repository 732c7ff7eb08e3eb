-- Each thing has a number, the edges are the steps between them, and the flags tell what they reach.
use Rattle.adj_activity.proofs.Told.{is_activity, is_carrying}
use Rattle.adj_activity.proofs.activity_law.Goals as goal

pub returns : goal.returns
returns c = record { told = is_activity; carried = is_carrying }
