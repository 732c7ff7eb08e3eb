-- Runs are computed.
use Rattle.std.proofs.Common.{◌≡◌, ◌≤◌, ℕ, zero, suc, refl, codes, arith}
use Rattle.std.specs.Int.{int_wrap}
use Rattle.adj_revolve.specs.Binomial.{choose}
use Rattle.adj_revolve.specs.Schedule.{body}
use Rattle.adj_revolve.specs.Split.{first_repetition, repetitions, split_of}
use Rattle.def_meaning.specs.Run.{most_tests}
use Rattle.def_adjoint.specs.Calls.{units_within}
use Rattle.law_examples.specs.ReversalSources.{repeating}
use Rattle.law_examples.proofs.reversals.worked_costs.Goals as goal

pub returns-clause-chains : goal.returns-clause-chains
returns-clause-chains c = by
  where
    by : (k : ℕ) → units_within (repeating 5 2) k (codes "P") ≤ 2
    by zero = omega arith
    by (suc zero) = let e : units_within (repeating 5 2) 1 (codes "P") ≡ 1 = refl in omega (arith, e)
    by (suc (suc k)) = let e : units_within (repeating 5 2) (suc (suc k)) (codes "P") ≡ 2 = refl in omega (arith, e)

pub returns-clause-weights : goal.returns-clause-weights
returns-clause-weights c = ((omega arith, tt), (((omega arith, (omega arith, tt)), tt), tt))

pub returns-clause-run : goal.returns-clause-run
unfolding int_wrap most_tests
returns-clause-run c = refl

pub returns-clause-serve : goal.returns-clause-serve
unfolding choose
returns-clause-serve c = refl

pub returns-clause-least : goal.returns-clause-least
unfolding choose
returns-clause-least c = refl

pub returns-clause-spent : goal.returns-clause-spent
unfolding int_wrap most_tests body split_of repetitions first_repetition choose
returns-clause-spent c = refl

pub returns-clause-bound : goal.returns-clause-bound
returns-clause-bound c = refl
