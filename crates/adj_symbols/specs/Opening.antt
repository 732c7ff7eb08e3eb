-- Statements in the bodies of DOs, where it is known which of them may write a variable of a DO around them.
use Rattle.std.specs.Prelude.{List, [], ◌++◌, Bool, ◌||◌}
use Rattle.adj_tree.specs.Code.{Act, assign, choose, loop, during, call, runtime, Code, stop, step}
use Rattle.adj_tree.specs.declared.fault.Refusal.{Refusal}
use Rattle.def_meaning.specs.LeastSet.{Dummies}
use Rattle.def_names.specs.Fault.{fault, faults_if}
use Rattle.def_names.specs.WriteFaults.{may_write}

abbrev mutual
  -- the faults in a statement, where it is said which statements write a variable of a DO that is open
  pub open_inner : Dummies → (Act → Bool) → Act → List Refusal
  open_inner handed hits (assign x subs e) = []
  open_inner handed hits (choose c a b) = open_faults handed hits a ++ open_faults handed hits b
  open_inner handed hits (loop x first last by body m) = open_faults handed (λ s. may_write handed x s || hits s) body
  open_inner handed hits (during c body) = open_faults handed hits body
  open_inner handed hits (call name args) = []
  open_inner handed hits (runtime r) = []

  -- and in a list
  pub open_faults : Dummies → (Act → Bool) → Code → List Refusal
  open_faults handed hits stop = []
  open_faults handed hits (step line a rest) = faults_if (hits a) (fault 11 line) ++ (open_inner handed hits a ++ open_faults handed hits rest)
