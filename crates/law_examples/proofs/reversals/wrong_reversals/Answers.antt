use Rattle.std.proofs.Common.{refl}
use Rattle.std.specs.Int.{int_wrap}
use Rattle.adj_revolve.specs.Binomial.{choose}
use Rattle.adj_revolve.specs.Schedule.{body}
use Rattle.adj_revolve.specs.Split.{first_repetition, repetitions, split_of}
use Rattle.def_meaning.specs.Run.{most_tests}
use Rattle.law_examples.proofs.ReversalTrials.{unpopped_fails, unkept_fails, farther_fails, unended_fails, plain_fails, enclosed_fails, unread_fails, unheld_fails, late_fails, unbounded_fails, enlarged_fails}
use Rattle.law_examples.proofs.reversals.wrong_reversals.Goals as goal

pub returns-clause-unpopped : goal.returns-clause-unpopped
returns-clause-unpopped c = unpopped_fails

pub returns-clause-unkept : goal.returns-clause-unkept
returns-clause-unkept c = unkept_fails

pub returns-clause-farther : goal.returns-clause-farther
returns-clause-farther c = farther_fails

pub returns-clause-unended : goal.returns-clause-unended
returns-clause-unended c = unended_fails

pub returns-clause-plain : goal.returns-clause-plain
returns-clause-plain c = plain_fails

pub returns-clause-enclosed : goal.returns-clause-enclosed
returns-clause-enclosed c = enclosed_fails

pub returns-clause-unread : goal.returns-clause-unread
returns-clause-unread c = unread_fails

pub returns-clause-unheld : goal.returns-clause-unheld
returns-clause-unheld c = unheld_fails

pub returns-clause-late : goal.returns-clause-late
returns-clause-late c = late_fails

pub returns-clause-unbounded : goal.returns-clause-unbounded
returns-clause-unbounded c = unbounded_fails

pub returns-clause-enlarged : goal.returns-clause-enlarged
returns-clause-enlarged c = enlarged_fails

pub returns-clause-enlarged_leaves : goal.returns-clause-enlarged_leaves
unfolding int_wrap most_tests body split_of repetitions first_repetition choose
returns-clause-enlarged_leaves c = refl
