-- The values of expressions and conditions in a store. (docs/RUNNING.md, "Expressions")
use Rattle.std.specs.Prelude.{ℕ, ℤ, List, [], ◌∷◌, Bool, ◌&&◌, ◌||◌, not, Result, Ok, Option}
use Rattle.adj_tree.specs.Code.{Var, Term, lit, var, elem, neg, bin, pow, power_of, abs, Terms, none, more, Test, compare, negation, conjunction, disjunction}
use Rattle.def_meaning.specs.Trap.{Trap, index, power_trap, then_ok, or_trap, number_in}
use Rattle.def_meaning.specs.Numbers.{Numbers, operation, absolute, compares}
use Rattle.def_meaning.specs.Store.{Shape, Store, cell_of}

-- what stays the same while a unit runs
pub record Setting (C : Type 0) : Type 0 where
  pub numbers : Numbers C
  -- the rows and columns of the unit's variables
  pub shape : Var → Shape
  -- how many words the tape can hold, where that is limited
  pub room : Option ℕ
  -- how many units are open
  pub level : ℕ

-- the cell that evaluated subscripts of a variable name
abbrev pub cell_at : {C : Type 0} → Setting C → Var → List ℤ → Result ℕ Trap
cell_at n x is = or_trap index (cell_of (n.shape x) is)

-- an exponent that was evaluated
abbrev pub exponent_of : ℤ → Result ℕ Trap
exponent_of z = or_trap power_trap (number_in 0 4294967295 z)

abbrev mutual
  -- the value of an expression: operands from left to right, and then the operation
  pub value : {C : Type 0} → Setting C → Term → Store C → Result C Trap
  value n (lit z) s = Ok (n.numbers.of_word z)
  value n (var x) s = Ok (s x 0)
  value n (elem x subs) s = then_ok (values n subs s) (λ is. then_ok (cell_at n x is) (λ i. Ok (s x i)))
  value n (neg a) s = then_ok (value n a s) (λ u. Ok (n.numbers.negation u))
  value n (bin op a b) s = then_ok (value n a s) (λ u. then_ok (value n b s) (λ v. operation n.numbers op u v))
  value n (pow a k) s = then_ok (value n a s) (λ u. Ok (n.numbers.raised_to u k))
  value n (power_of a b) s = then_ok (value n a s) (λ u. then_ok (value n b s) (λ v. then_ok (exponent_of (n.numbers.shown v)) (λ k. Ok (n.numbers.raised_to u k))))
  value n (abs a) s = then_ok (value n a s) (λ u. Ok (absolute n.numbers u))

  -- the words of some expressions, in order
  pub values : {C : Type 0} → Setting C → Terms → Store C → Result (List ℤ) Trap
  values n none s = Ok []
  values n (more e es) s = then_ok (value n e s) (λ u. then_ok (values n es s) (λ us. Ok (n.numbers.shown u ∷ us)))

-- the cell of a target: that of a scalar where there are no subscripts
abbrev pub target : {C : Type 0} → Setting C → Var → Terms → Store C → Result ℕ Trap
target n x none s = Ok 0
target n x (more e es) s = then_ok (values n (more e es) s) (λ is. cell_at n x is)

-- whether a condition holds; both operands are always evaluated
abbrev pub holds : {C : Type 0} → Setting C → Test → Store C → Result Bool Trap
holds n (compare r a b) s = then_ok (value n a s) (λ u. then_ok (value n b s) (λ v. Ok (compares r (n.numbers.shown u) (n.numbers.shown v))))
holds n (negation c) s = then_ok (holds n c s) (λ p. Ok (not p))
holds n (conjunction c d) s = then_ok (holds n c s) (λ p. then_ok (holds n d s) (λ q. Ok (p && q)))
holds n (disjunction c d) s = then_ok (holds n c s) (λ p. then_ok (holds n d s) (λ q. Ok (p || q)))
