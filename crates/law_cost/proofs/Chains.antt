-- Chains where a marked DO counts for nothing are no longer than those where it counts as one call more.
use Rattle.std.proofs.Common.{◌≤◌, ℕ, zero, suc, List, arith}
use Rattle.std.specs.Prelude.{Option, Some, None}
use Rattle.adj_tree.specs.Code.{Mark, unmarked, with_count, count_from, Act, assign, choose, loop, during, call, runtime, Code, stop, step, Procedure}
use Rattle.def_meaning.specs.Written.{find_unit}
use Rattle.def_names.specs.Calls as whole
use Rattle.def_adjoint.specs.Calls as own
use Rattle.def_adjoint.specs.CallsAtMost.{CallsAtMost}

module _ (f g : List ℕ → ℕ) (less : (name : List ℕ) → f name ≤ g name) where
  marked : (m : Mark) (a b : ℕ) → a ≤ b → a ≤ whole.with_mark m b
  marked unmarked a b h = h
  marked (with_count x) a b h = omega (arith, h)
  marked (count_from x) a b h = omega (arith, h)

  mutual
    act_less : (a : Act) → own.act_chain f a ≤ whole.act_chain g a
    act_less (assign x subs e) = omega arith
    act_less (choose c a b) = let l = code_less a in let m = code_less b in omega (arith, l, m)
    act_less (loop x first last by body m) = marked m (own.code_chain f body) (whole.chain g body) (code_less body)
    act_less (during c body) = code_less body
    act_less (call name args) = less name
    act_less (runtime r) = omega arith

    code_less : (c : Code) → own.code_chain f c ≤ whole.chain g c
    code_less stop = omega arith
    code_less (step line a rest) = let l = act_less a in let m = code_less rest in omega (arith, l, m)

  found_less : (o : Option Procedure) → own.chain_of f o ≤ whole.chain_found g o
  found_less None = omega arith
  found_less (Some u) = let l = code_less u.body in omega (arith, l)

within_less : (ps : List Procedure) (k : ℕ) (name : List ℕ) → own.units_within ps k name ≤ whole.chain_within ps k name
within_less ps zero name = omega arith
within_less ps (suc k) name = found_less (own.units_within ps k) (whole.chain_within ps k) (within_less ps k) (find_unit ps name)

pub calls_within : (ps : List Procedure) (name : List ℕ) (calls : ℕ) → CallsAtMost ps name calls → own.CallsWithin ps name calls
calls_within ps name calls h k = let l = within_less ps k name in let m = h k in omega (arith, l, m)
