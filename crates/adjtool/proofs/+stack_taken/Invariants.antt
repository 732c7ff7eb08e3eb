-- Each call has one call fewer left.
use Rattle.adjtool.proofs.+stack_taken.Given as goal

abbrev pub decreases-stack_taken : goal.decreases-stack_taken
decreases-stack_taken l = l.calls
