-- Kernel form: what the analyses and the sweeps may rely on. (docs/KERNEL.md)
use Rattle.std.specs.Prelude.{◌≡◌, zero, suc, List, false}
use Rattle.adj_tree.specs.Code.{plus, minus, times, quot, modulo, greater, lesser, Term, lit, var, elem, neg, bin, pow, power_of, abs, Terms, none, more, Mark, unmarked, with_count, count_from, Act, assign, choose, loop, during, call, runtime, Code, stop, step, Procedure}
use Rattle.def_meaning.specs.Read.{reads_terms}
use Rattle.def_kernel.specs.Calls.{stands_whole}
use Rattle.def_kernel.specs.Kernel.{EachUnit}

-- no MAX, MIN or ABS stands at a differentiable occurrence
abbrev pub IsReduced : Term → Type 0
IsReduced (lit z) = Unit {0}
IsReduced (var x) = Unit {0}
IsReduced (elem x subs) = Unit {0}
IsReduced (neg a) = IsReduced a
IsReduced (bin plus a b) = IsReduced a × IsReduced b
IsReduced (bin minus a b) = IsReduced a × IsReduced b
IsReduced (bin times a b) = IsReduced a × IsReduced b
IsReduced (bin quot a b) = Unit {0}
IsReduced (bin modulo a b) = Unit {0}
IsReduced (bin greater a b) = ⊥
IsReduced (bin lesser a b) = ⊥
IsReduced (pow a zero) = Unit {0}
IsReduced (pow a (suc k)) = IsReduced a
IsReduced (power_of a b) = IsReduced a
IsReduced (abs a) = ⊥

-- the actuals are names, no two of them the same
abbrev pub AreDistinctNames : Terms → Type 0
AreDistinctNames none = Unit {0}
AreDistinctNames (more (var x) es) = (stands_whole x es ≡ false) × AreDistinctNames es
AreDistinctNames (more (lit z) es) = ⊥
AreDistinctNames (more (elem x subs) es) = ⊥
AreDistinctNames (more (neg a) es) = ⊥
AreDistinctNames (more (bin op a b) es) = ⊥
AreDistinctNames (more (pow a k) es) = ⊥
AreDistinctNames (more (power_of a b) es) = ⊥
AreDistinctNames (more (abs a) es) = ⊥

-- the list is one CALL of a unit
abbrev pub IsOneCall : Code → Type 0
IsOneCall (step line (call name args) stop) = Unit {0}
IsOneCall _ = ⊥

-- where the loop is marked
abbrev pub WhereMarked : Mark → Type 0 → Type 0
WhereMarked unmarked P = Unit {0}
WhereMarked (with_count m) P = P
WhereMarked (count_from x) P = P

abbrev mutual
  pub IsKernelAct : Act → Type 0
  IsKernelAct (assign x subs e) = (reads_terms x subs ≡ false) × IsReduced e
  IsKernelAct (choose c a b) = IsKernelCode a × IsKernelCode b
  IsKernelAct (loop x first last by body m) = WhereMarked m (IsOneCall body) × IsKernelCode body
  IsKernelAct (during c body) = IsKernelCode body
  IsKernelAct (call name args) = AreDistinctNames args
  IsKernelAct (runtime r) = ⊥

  pub IsKernelCode : Code → Type 0
  IsKernelCode stop = Unit {0}
  IsKernelCode (step line a rest) = IsKernelAct a × IsKernelCode rest

-- a program in kernel form
abbrev pub IsKernel : List Procedure → Type 0
IsKernel units = EachUnit (λ u. IsKernelCode u.body) units

-- ---- what the first step gives: the body of each marked loop is one CALL, of distinct names

abbrev mutual
  pub IsSteppedAct : Act → Type 0
  IsSteppedAct (assign x subs e) = Unit {0}
  IsSteppedAct (choose c a b) = IsStepped a × IsStepped b
  IsSteppedAct (loop x first last by body m) = WhereMarked m (IsOneCall body × IsKernelCode body) × IsStepped body
  IsSteppedAct (during c body) = IsStepped body
  IsSteppedAct (call name args) = Unit {0}
  IsSteppedAct (runtime r) = Unit {0}

  pub IsStepped : Code → Type 0
  IsStepped stop = Unit {0}
  IsStepped (step line a rest) = IsSteppedAct a × IsStepped rest
