-- Loops that are reversed by a schedule: their bodies are a call, which uses nothing.
use Rattle.std.proofs.Common.{◌≡◌, ℕ, suc, Bool, true, false, List, refl, ap, if◌then◌else◌}
use Rattle.std.specs.Prelude.{Some, None}
use Rattle.adj_tree.specs.Code.{Terms, Mark, unmarked, with_count, count_from, Act, assign, choose, loop, during, call, runtime, Code, stop, step}
use Rattle.def_names.specs.Numbers.{Vars}
use Rattle.def_sweep.specs.Plan.{Plan, Schedules, Step, step_in, reversed_by}
use Rattle.def_sweep.specs.Program.{goes_back_with, reverses_by}

-- a list is one call
pub record IsCall (c : Code) : Type 0 where
  pub line : ℕ
  pub name : List ℕ
  pub args : Terms
  pub is : c ≡ step line (call name args) stop

step_is : (reads : List ℕ → Vars) (mark : Mark) (body : Code) (s : Step) → step_in reads mark body ≡ Some s → IsCall body
step_is reads mark stop s e = absurd cc
step_is reads mark (step line (assign x subs a) rest) s e = absurd cc
step_is reads mark (step line (choose c a b) rest) s e = absurd cc
step_is reads mark (step line (loop x a b c body m) rest) s e = absurd cc
step_is reads mark (step line (during c body) rest) s e = absurd cc
step_is reads mark (step line (runtime r) rest) s e = absurd cc
step_is reads mark (step line (call name args) (step l a rest)) s e = absurd cc
step_is reads mark (step line (call name args) stop) s e = record { line = line; name = name; args = args; is = refl }

body_called : (reads : List ℕ → Vars) (mark : Mark) (body : Code) (s : Step) (b : Bool) → (if b then step_in reads mark body else None) ≡ Some s → IsCall body
body_called reads mark body s true e = step_is reads mark body s e
body_called reads mark body s false e = absurd cc

-- the body of a loop that is reversed is
pub body_is : (r : Schedules) (adjointed : ℕ → Bool) (i : ℕ) (body : Code) (mark : Mark) (s : Step) → reversed_by r adjointed i body mark ≡ Some s → IsCall body
body_is None adjointed i body mark s e = absurd cc
body_is (Some reads) adjointed i body unmarked s e = absurd cc
body_is (Some reads) adjointed i body (with_count n) s e = body_called reads (with_count n) body s (adjointed (suc i)) e
body_is (Some reads) adjointed i body (count_from x) s e = body_called reads (count_from x) body s (adjointed (suc i)) e

-- no loop in it goes back
pub none_back : (r : Schedules) (adjointed : ℕ → Bool) (i : ℕ) (body : Code) (mark : Mark) (s : Step) → reversed_by r adjointed i body mark ≡ Some s → (sort : Act → Bool) (k : ℕ) (p : Plan) (j d : ℕ) → goes_back_with r sort k p j d body ≡ false
none_back r adjointed i body mark s e sort k p j d = ap (goes_back_with r sort k p j d) (body_is r adjointed i body mark s e).is

-- and none is reversed
pub none_reversed : (r : Schedules) (adjointed : ℕ → Bool) (i : ℕ) (body : Code) (mark : Mark) (s : Step) → reversed_by r adjointed i body mark ≡ Some s → (sort : Step → Bool) (k : ℕ) (p : Plan) (j d : ℕ) → reverses_by r sort k p j d body ≡ false
none_reversed r adjointed i body mark s e sort k p j d = ap (reverses_by r sort k p j d) (body_is r adjointed i body mark s e).is
