-- Operations on two operands that were reduced.
use Rattle.std.specs.Prelude.{ℕ, suc, Bool, true, false}
use Rattle.adj_tree.specs.Code.{Var, Op, plus, minus, times, quot, modulo, greater, lesser, Term, var, bin, Test, compare, is_less, Code, stop}
use Rattle.def_kernel.specs.Lowered.{picked}

-- how many locals the operation itself takes
abbrev pub locals_by : Op → ℕ
locals_by plus = 0
locals_by minus = 0
locals_by times = 0
locals_by quot = 0
locals_by modulo = 0
locals_by greater = 2
locals_by lesser = 2

-- the operation, or its first local, of this number
abbrev pub combined : (ℕ → Var) → Op → ℕ → Term → Term → Term
combined local plus i a b = bin plus a b
combined local minus i a b = bin minus a b
combined local times i a b = bin times a b
combined local quot i a b = bin quot a b
combined local modulo i a b = bin modulo a b
combined local greater i a b = var (local i)
combined local lesser i a b = var (local i)

-- the test by which the second of two values is taken: for the larger that the first is less, for the smaller that the second is
abbrev pub test_between : Bool → Var → Var → Test
test_between true x y = compare is_less (var x) (var y)
test_between false x y = compare is_less (var y) (var x)

-- the statements that set its locals
abbrev pub before_combined : (ℕ → Var) → ℕ → Op → ℕ → Term → Term → Code
before_combined local line plus i a b = stop
before_combined local line minus i a b = stop
before_combined local line times i a b = stop
before_combined local line quot i a b = stop
before_combined local line modulo i a b = stop
before_combined local line greater i a b = picked local line (compare is_less (var (local i)) (var (local (suc i)))) i a b
before_combined local line lesser i a b = picked local line (compare is_less (var (local (suc i))) (var (local i))) i a b
