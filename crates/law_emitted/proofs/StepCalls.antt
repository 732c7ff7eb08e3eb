-- A marked loop that is reversed by a schedule: its body is one call of its step unit, which is adjointed.
use Rattle.std.proofs.Common.{◌≡◌, ℕ, suc, Bool, true, false, List, subst, if◌then◌else◌}
use Rattle.std.specs.Prelude.{Some, None}
use Rattle.adj_tree.specs.Code.{Var, lower, Terms, Mark, unmarked, with_count, count_from, assign, choose, loop, during, call, runtime, Code, stop, step}
use Rattle.def_meaning.specs.Append.{◌+++◌}
use Rattle.def_names.specs.Numbers.{Vars}
use Rattle.def_sweep.specs.Plan.{names_of, Schedules, Step, step_in, reversed_by}
use Rattle.def_sweep.specs.ReversalCode.{at_turn, arm, advance}
use Rattle.law_sweep.proofs.ByStep.{reversed_is}

-- what holds of each code that is one call, and its step
module _ (P : Code → Step → Type 0) (each : (line : ℕ) (name : List ℕ) (args : Terms) (read : Vars) (m : Mark) → P (step line (call name args) stop) (record { name = name; given = names_of args; read = read; mark = m })) where
  in_body : (reads : List ℕ → Vars) (m : Mark) (body : Code) (s : Step) → step_in reads m body ≡ Some s → P body s
  in_body reads m stop s e = absurd cc
  in_body reads m (step l (assign x subs a) rest) s e = absurd cc
  in_body reads m (step l (choose c a b) rest) s e = absurd cc
  in_body reads m (step l (loop x a b c body k) rest) s e = absurd cc
  in_body reads m (step l (during c body) rest) s e = absurd cc
  in_body reads m (step l (runtime r) rest) s e = absurd cc
  in_body reads m (step l (call name args) (step k a rest)) s e = absurd cc
  in_body reads m (step l (call name args) stop) s e =
      let own : Step = record { name = name; given = names_of args; read = reads name; mark = m } in
      let same : own ≡ s = cc in
      subst (P (step l (call name args) stop)) same (each l name args (reads name) m)

  adjointed_body : (reads : List ℕ → Vars) (m : Mark) (body : Code) (s : Step) (b : Bool) → (if b then step_in reads m body else None) ≡ Some s → P body s
  adjointed_body reads m body s true e = in_body reads m body s e
  adjointed_body reads m body s false e = absurd cc

  -- holds of the body of such a loop
  pub step_body : (sc : Schedules) (f : ℕ → Bool) (i : ℕ) (body : Code) (mark : Mark) (s : Step) → reversed_by sc f i body mark ≡ Some s → P body s
  step_body None f i body mark s e = absurd cc
  step_body (Some reads) f i body unmarked s e = absurd cc
  step_body (Some reads) f i body (with_count n) s e = adjointed_body reads (with_count n) body s (f (suc i)) e
  step_body (Some reads) f i body (count_from x) s e = adjointed_body reads (count_from x) body s (f (suc i)) e

-- its mark, and that its call is adjointed
pub step_mark : (sc : Schedules) (f : ℕ → Bool) (i : ℕ) (body : Code) (mark : Mark) (s : Step) → reversed_by sc f i body mark ≡ Some s → (mark ≡ s.mark) × (f (suc i) ≡ true)
step_mark None f i body mark s e = absurd cc
step_mark (Some reads) f i body mark s e = let known = reversed_is reads f i body mark s e in (known.marked, known.reached)

-- ---- the arms of a reversal: from that of an advance on, of a turn, and of a snapshot that is kept

abbrev pub from_keep : ℕ → ℕ → Code → Code → Code
from_keep line d keep back = arm line d 4 (back +++ keep) +++ arm line d 5 back

abbrev pub from_turn : ℕ → ℕ → Var → Code → Code → Code → Code
from_turn line d x keep back adjoint = arm line d 3 (at_turn line d x lower adjoint) +++ from_keep line d keep back

abbrev pub from_advance : ℕ → ℕ → Var → Code → Code → Code → Code → Code
from_advance line d x keep back plain_call adjoint = arm line d 2 (advance line d x plain_call) +++ from_turn line d x keep back adjoint
