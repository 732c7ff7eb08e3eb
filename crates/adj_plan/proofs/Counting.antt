-- How many numbers the statements of a list take.
use Rattle.std.proofs.Common.{◌≡◌, ℕ, suc, ◌+◌, length, length-append, arith}
use Rattle.adj_tree.specs.Code.{Act, assign, choose, loop, during, call, runtime, Code, stop, step}
use Rattle.def_names.specs.Statements.{inner, statements}
use Rattle.def_names.specs.Numbers.{next, behind}

mutual
  next_is : (i : ℕ) (a : Act) → next i a ≡ i + 1 + length (inner a)
  next_is i (assign x subs e) = omega arith
  next_is i (choose c a b) = omega (arith, behind_is (behind (suc i) a) b, behind_is (suc i) a, length-append (statements a) (statements b))
  next_is i (loop x first last by body m) = omega (arith, behind_is (suc i) body)
  next_is i (during c body) = omega (arith, behind_is (suc i) body)
  next_is i (call name args) = omega arith
  next_is i (runtime r) = omega arith

  pub behind_is : (i : ℕ) (c : Code) → behind i c ≡ i + length (statements c)
  behind_is i stop = omega arith
  behind_is i (step line a rest) = omega (arith, behind_is (next i a) rest, next_is i a, length-append (inner a) (statements rest))
