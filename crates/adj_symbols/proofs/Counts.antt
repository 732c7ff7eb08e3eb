-- How many numbers statements take, whatever number is the first.
use Rattle.std.proofs.Common.{◌≡◌, ℕ, suc, ◌+◌, List, [], ◌∷◌, length, length-append, arith}
use Rattle.adj_tree.specs.Code.{Act, assign, choose, loop, during, call, runtime, Code, stop, step, Procedure}
use Rattle.def_names.specs.Statements.{inner, statements}
use Rattle.def_names.specs.Numbers.{next, behind}
use Rattle.def_names.specs.StatementsIn.{statements_in}

-- a number for each statement
mutual
  next_is : (i : ℕ) (a : Act) → next i a ≡ i + 1 + length (inner a)
  next_is i (assign x subs e) = omega arith
  next_is i (choose c a b) = omega (arith, behind_is (behind (suc i) a) b, behind_is (suc i) a, length-append (statements a) (statements b))
  next_is i (loop x first last by body m) = omega (arith, behind_is (suc i) body)
  next_is i (during c body) = omega (arith, behind_is (suc i) body)
  next_is i (call name args) = omega arith
  next_is i (runtime r) = omega arith

  behind_is : (i : ℕ) (c : Code) → behind i c ≡ i + length (statements c)
  behind_is i stop = omega arith
  behind_is i (step line a rest) = omega (arith, behind_is (next i a) rest, next_is i a, length-append (inner a) (statements rest))

statements_from : (i : ℕ) (ps : List Procedure) → statements_in i ps ≡ i + statements_in 0 ps
statements_from i [] = omega arith
statements_from i (p ∷ ps) = omega (arith, statements_from (behind i p.body) ps, statements_from (behind 0 p.body) ps, behind_is i p.body, behind_is 0 p.body)

-- those of units are the first one's and those of the rest
pub statements_first : (p : Procedure) (ps : List Procedure) → statements_in 0 (p ∷ ps) ≡ length (statements p.body) + statements_in 0 ps
statements_first p ps = omega (arith, statements_from (behind 0 p.body) ps, behind_is 0 p.body)
