use Rattle.law_examples.proofs.Unchanged.{without_fault}
use Rattle.law_examples.proofs.Trials.{pushed_after_fails, unreversed_fails, assigned_fails, unsigned_fails, uncleared_fails, unpopped_fails, replayed_fails, untold_fails, unturned_fails, unrestored_fails, unreset_fails, uncounted_fails, unsnapped_fails, popped_before_fails, unguarded_fails}
use Rattle.law_examples.proofs.worked.wrong_adjoints.Goals as goal

pub returns-clause-without_fault : goal.returns-clause-without_fault
returns-clause-without_fault c = without_fault

pub returns-clause-untold : goal.returns-clause-untold
returns-clause-untold c = untold_fails

pub returns-clause-unturned : goal.returns-clause-unturned
returns-clause-unturned c = unturned_fails

pub returns-clause-unrestored : goal.returns-clause-unrestored
returns-clause-unrestored c = unrestored_fails

pub returns-clause-unreset : goal.returns-clause-unreset
returns-clause-unreset c = unreset_fails

pub returns-clause-uncounted : goal.returns-clause-uncounted
returns-clause-uncounted c = uncounted_fails

pub returns-clause-unsnapped : goal.returns-clause-unsnapped
returns-clause-unsnapped c = unsnapped_fails

pub returns-clause-popped_before : goal.returns-clause-popped_before
returns-clause-popped_before c = popped_before_fails

pub returns-clause-unguarded : goal.returns-clause-unguarded
returns-clause-unguarded c = unguarded_fails

pub returns-clause-pushed_after : goal.returns-clause-pushed_after
returns-clause-pushed_after c = pushed_after_fails

pub returns-clause-unreversed : goal.returns-clause-unreversed
returns-clause-unreversed c = unreversed_fails

pub returns-clause-assigned : goal.returns-clause-assigned
returns-clause-assigned c = assigned_fails

pub returns-clause-unsigned : goal.returns-clause-unsigned
returns-clause-unsigned c = unsigned_fails

pub returns-clause-uncleared : goal.returns-clause-uncleared
returns-clause-uncleared c = uncleared_fails

pub returns-clause-unpopped : goal.returns-clause-unpopped
returns-clause-unpopped c = unpopped_fails

pub returns-clause-replayed : goal.returns-clause-replayed
returns-clause-replayed c = replayed_fails
