-- A program with a unit that is called with tangents and one that is called without, for which all that the laws on tangents ask is met.
use Rattle.std.specs.Prelude.{◌≡◌, ℕ, pos, [], ◌∷◌, length, true, false, codes}
use Rattle.adj_tree.specs.Code.{plain, times, lit, var, bin, none, with_count, assign, loop, step, stop, Procedure}
use Rattle.def_names.specs.Numbers.{Vars}
use Rattle.def_flow.specs.Problem.{Problem}
use Rattle.law_flow.specs.Computed.{by_point}
use Rattle.law_tangent.specs.Examples.{caller, scales, counts, caller_tangent, scales_tangent}
use Rattle.def_tangent.specs.Program.{Carried, tangent_program}
use Rattle.law_tangent.specs.IsTangent.{IsTangent}
use Rattle.def_flow.specs.Carried.{IsCarrying, carried_by}
use Rattle.law_tangent_carried.specs.Computed.{carrying}
use Rattle.law_tangent_carried.specs.Source.{IsTangentFor}
use Rattle.def_planned.specs.Planned.{kernel_problem}

-- Q(A,B,K) calls S(A,K), which scales A, and T(K), which counts, and sets B to A; A is independent, and B dependent
abbrev pub caller_problem : Problem
caller_problem = record { units = caller ∷ scales ∷ counts ∷ []; head = 0; vars = true ∷ false ∷ false ∷ []; outvars = false ∷ true ∷ false ∷ []; split = λ n. false }

-- what is varied and what carries a tangent, computed
abbrev pub caller_varied : ℕ → Vars
caller_varied = by_point (carrying caller_problem 12).varied

abbrev pub caller_on : ℕ → Vars
caller_on = by_point (carrying caller_problem 12).carried

abbrev pub caller_carries : Carried
caller_carries = carried_by caller_problem.units caller_on

-- that is exact; no assignment has 4 nodes or more; so what is emitted is the tangent, which is this
pub record CallerIsTangent : Type 0 where
  pub exact : IsCarrying caller_problem caller_varied caller_on
  pub tangent : IsTangent 8 caller_carries caller_problem.units 0 caller_problem.vars (tangent_program caller_carries caller_problem.units 0 caller_problem.vars)
  pub program : tangent_program caller_carries caller_problem.units 0 caller_problem.vars ≡ (caller_tangent ∷ scales_tangent ∷ counts ∷ [])

-- ---- a program that isn't in kernel form: R(N,X) squares X in a marked DO, whose body becomes a step unit

abbrev pub squaring_loop : Procedure
squaring_loop = record {
  line = 1;
  name = codes "R";
  dummies = codes "N" ∷ codes "X" ∷ [];
  is_none = false;
  declarations = record { line = 2; name = codes "N"; extents = [] } ∷ record { line = 2; name = codes "X"; extents = [] } ∷ record { line = 2; name = codes "I"; extents = [] } ∷ [];
  body =
      step 3 (loop (plain (codes "I")) (lit (pos 1)) (var (plain (codes "N"))) (lit (pos 1))
      (step 4 (assign (plain (codes "X")) none (bin times (var (plain (codes "X"))) (var (plain (codes "X"))))) stop) (with_count 2)) stop;
}

abbrev pub loop_problem : Problem
loop_problem = kernel_problem (squaring_loop ∷ []) (codes "R") (false ∷ true ∷ []) (false ∷ true ∷ [])

abbrev pub loop_carries : Carried
loop_carries = carried_by loop_problem.units (by_point (carrying loop_problem 12).carried)

-- what is emitted for its kernel is its tangent: of two units
pub record LoopIsTangent : Type 0 where
  pub exact : IsCarrying loop_problem (by_point (carrying loop_problem 12).varied) (by_point (carrying loop_problem 12).carried)
  pub tangent : IsTangentFor 8 loop_carries (squaring_loop ∷ []) (codes "R") (false ∷ true ∷ []) (tangent_program loop_carries loop_problem.units loop_problem.head loop_problem.vars)
  pub units : length (tangent_program loop_carries loop_problem.units loop_problem.head loop_problem.vars) ≡ 2
