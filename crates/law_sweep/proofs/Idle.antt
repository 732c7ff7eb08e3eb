-- A list without kept and adjointed statements has no sweeps.
use Rattle.std.proofs.Common.{◌≡◌, ℕ, true, refl}
use Rattle.adj_tree.specs.Code.{plain, shadow, helper, Act, assign, choose, loop, during, call, runtime, Code, stop, step}
use Rattle.def_meaning.specs.Append.{◌+++◌}
use Rattle.def_names.specs.Numbers.{next}
use Rattle.def_sweep.specs.Plan.{Plan, Schedules}
use Rattle.def_sweep.specs.Rows.{is_empty}
use Rattle.def_sweep.specs.Emission.{forward_act_with, forward_with, backward_act_with, backward_with}
use Rattle.law_sweep.specs.Laws.{IsIdle', IsIdle}

-- a list that is said to be empty is
pub empty_is : (c : Code) → is_empty c ≡ true → c ≡ stop
empty_is stop h = refl
empty_is (step line a c) h = cc

module _ (r : Schedules) (p : Plan) where
  idle_act : (i d line : ℕ) (a : Act) → IsIdle' p.marks i a → (forward_act_with r p i d line a ≡ stop) × (backward_act_with r p i d line a ≡ stop)
  idle_act i d line (assign (plain x) subs e) h = (rw h.0 refl, rw (h.0, h.1) refl)
  idle_act i d line (assign (shadow x) subs e) h = (refl, refl)
  idle_act i d line (assign (helper o x) subs e) h = (refl, refl)
  idle_act i d line (choose c a b) h = (rw (h.0.0, h.0.1) refl, rw (h.0.0, h.0.1) refl)
  idle_act i d line (loop (plain x) a b c body m) h = (rw (h.0.0, h.0.1) refl, rw (h.0.0, h.0.1) refl)
  idle_act i d line (loop (shadow x) a b c body m) h = (refl, refl)
  idle_act i d line (loop (helper o x) a b c body m) h = (refl, refl)
  idle_act i d line (during c body) h = (rw (h.0.0, h.0.1) refl, rw (h.0.0, h.0.1) refl)
  idle_act i d line (call name args) h = (rw (h.0, h.1) refl, rw (h.0, h.1) refl)
  idle_act i d line (runtime o) h = (refl, refl)

  pub idle_list : (i d : ℕ) (c : Code) → IsIdle p.marks i c → (forward_with r p i d c ≡ stop) × (backward_with r p i d c ≡ stop)
  idle_list i d stop h = (refl, refl)
  idle_list i d (step line a rest) h =
      let s = idle_act i d line a h.0 in
      let t = idle_list (next i a) d rest h.1 in
      ((λ j. s.0 j +++ t.0 j), (λ j. t.1 j +++ s.1 j))
