-- The bound by what the kernel's statements weigh: the run of the tangent is one, whatever bounds it.
use Rattle.std.proofs.Common.{◌≡◌, ℕ, zero, suc, ◌+◌, ◌-◌, ◌*◌, ◌≤◌, List, [], ◌∷◌, length, refl, sym, ap, ◌∙◌, subst, arith}
use Rattle.std.specs.Prelude.{ℤ, ◌==◌, Bool, true, Some, None, reverse, if◌then◌else◌}
use Rattle.adj_tree.specs.Code.{Act, assign, choose, loop, during, call, runtime, Code, stop, step, Procedure}
use Rattle.def_meaning.specs.Trap.{schedule_trap}
use Rattle.def_meaning.specs.Numbers.{Numbers, words, duals}
use Rattle.def_meaning.specs.Store.{scalar}
use Rattle.def_meaning.specs.Value.{Setting}
use Rattle.def_meaning.specs.Scene.{Scene, Outcome, Done, Trapped, stand, then_do}
use Rattle.def_meaning.specs.Run.{run}
use Rattle.def_meaning.specs.Units.{Slot, Output, fits, calls_of, entered, setting_in, input_store, dummy_slots, run_unit}
use Rattle.def_sweep.specs.Tangents.{AreAlike, IsDirection, with_direction}
use Rattle.def_sweep.specs.MarkedAdjoint.{shadow_flags, joined_by}
use Rattle.def_kernel.specs.Kernel.{EachUnit}
use Rattle.def_kernel.specs.Stepped.{kernel_of}
use Rattle.def_kernel.specs.Weights.{ActWeighsAtMost, WeighsAtMost}
use Rattle.law_kernel.proofs.Programs.{found_in}
use Rattle.law_sweep.proofs.Runs.{left_same}
use Rattle.law_emitted.proofs.Heaviest.{heaviest_in, all_weigh}
use Rattle.def_tangent.specs.Program.{Carried}
use Rattle.def_tangent.specs.IsTangent.{AreAllWords, AreHandedIn}
use Rattle.law_tangent_carried.specs.Source.{SourceDone}
use Rattle.law_tangent_carried.specs.Lines.{IsTangentRead}
use Rattle.def_tangent.specs.IsTangent.{EndsAsDual, IsTangentOfSource}
use Rattle.law_tangent.specs.Sizes.{IsLight, AreLight}
use Rattle.law_tangent_carried.specs.Weighing.{WeighsIsLight, HasWeight, AcceptedByWeight}
use Rattle.law_tangent_carried.proofs.Lines.{accepted_reads}

-- ---- weights and nodes

-- what weighs at most m is light for all that is no less
mutual
  act_light : (m n : ℕ) → m ≤ n → (a : Act) → ActWeighsAtMost m a → IsLight n a
  act_light m n le (assign x subs e) h = omega (arith, le, h)
  act_light m n le (choose c a b) h = (list_light m n le a h.1.0, list_light m n le b h.1.1)
  act_light m n le (loop x first last by body mark) h = let l = h.0 in (omega (arith, le, l), list_light m n le body h.1)
  act_light m n le (during c body) h = list_light m n le body h.1
  act_light m n le (call name args) h = tt
  act_light m n le (runtime r) h = tt

  list_light : (m n : ℕ) → m ≤ n → (c : Code) → WeighsAtMost m c → AreLight n c
  list_light m n le stop h = tt
  list_light m n le (step line a rest) h = (act_light m n le a h.0, list_light m n le rest h.1)

each_light : (m n : ℕ) → m ≤ n → (us : List Procedure) → EachUnit (λ u. WeighsAtMost m u.body) us → EachUnit (λ u. AreLight n u.body) us
each_light m n le [] h = tt
each_light m n le (u ∷ us) h = (list_light m n le u.body h.0, each_light m n le us h.1)

-- what weighs nothing has no statements
is_stop : (c : Code) → WeighsAtMost 0 c → c ≡ stop
is_stop stop h = refl
is_stop (step line a rest) h = absurd (none a h.0)
  where
    none : (b : Act) → ActWeighsAtMost 0 b → ⊥
    none (assign x subs e) w = absurd (omega (arith, w))
    none (choose c b d) w = let l = w.0 in absurd (omega (arith, l))
    none (loop x first last by body mark) w = let l = w.0 in absurd (omega (arith, l))
    none (during c body) w = let l = w.0 in absurd (omega (arith, l))
    none (call name args) w = absurd (omega (arith, w))
    none (runtime r) w = absurd (omega (arith, w))

-- ---- one run

-- two ends of one run are one
one_ending : {B : Type 0} (f : ℕ → Outcome B) (a b : B) (i j used spent : ℕ) → ((k : ℕ) → i ≤ k → f k ≡ Done a used) → ((k : ℕ) → j ≤ k → f k ≡ Done b spent) → used ≡ spent
one_ending f a b i j used spent h r = left_same a b used spent (sym (h (i + j) (omega arith)) ∙ r (i + j) (omega arith))

-- a unit without statements takes none
module _ {C : Type 0} (n : Numbers C) (ps : List Procedure) (u : Procedure) (input : List (Slot C)) (k : ℕ) where
  abbrev outside : Setting C
  outside = record { numbers = n; shape = λ x. scalar; room = None; level = 0 }

  abbrev start : Scene C
  start = record { store = input_store n u input; tape = []; opened = 0; events = [] }

  -- what its run is, by that of its body
  abbrev by_body : Outcome (Scene C) → Outcome (Output C)
  by_body o =
      then_do (then_do o (λ s j. if s.opened == 0 then Done s j else Trapped schedule_trap u.line (stand outside s)))
      (λ s left. Done (record { slots = dummy_slots (setting_in outside u start.store) u s.store; tape = s.tape; events = reverse s.events }) (k - left))

  none_taken : (used : ℕ) (out : Output C) → u.body ≡ stop → run_unit n ps u input [] None k ≡ Done out used → used ≡ 0
  none_taken used out e h =
      let same : by_body (Done (entered outside u start) k) ≡ Done out used = sym (ap (λ c. by_body (run (calls_of ps k) (setting_in outside u start.store) c (entered outside u start) k)) e) ∙ h in
      let t : k - k ≡ used = cc in
      omega (arith, t)

-- ---- the bound

module _ (on : Carried) (ps : List Procedure) (name : List ℕ) (vars : List Bool) (qs : List Procedure) (h : (m : ℕ) → 1 ≤ m → EachUnit (λ v. AreLight m v.body) (kernel_of ps) → IsTangentRead (2 * m) on ps name vars qs) where
  abbrev ks : List Procedure
  ks = kernel_of ps

  -- that the run of the tangent a of the unit u is done, by the kernel v of u
  abbrev AllDone : ℕ → Procedure → Procedure → Procedure → Type 0
  AllDone w u v a =
      (input z : List (Slot ℤ)) (d : List (List ℤ)) → fits words u input ≡ true → AreAlike input z → IsDirection vars input d → AreAllWords d → AreHandedIn vars d z → (n used : ℕ) (out : Output (ℤ × ℤ)) → run_unit duals ps u (with_direction input d) [] None n ≡ Done out used →
      SourceDone w (shadow_flags (on name) u.dummies) ks qs v a (with_direction input d) (joined_by (shadow_flags (on name) u.dummies) input z) out (length u.dummies)

  -- by any weight it is so for the same units
  one : IsTangentRead (2 * (heaviest_in ks + 1)) on ps name vars qs
  one = h (heaviest_in ks + 1) (omega arith) (each_light (heaviest_in ks) (heaviest_in ks + 1) (omega arith) ks (all_weigh ks))

  all_done : (m : ℕ) → 1 ≤ m → EachUnit (λ v. AreLight m v.body) ks → AllDone (2 * m) one.unit one.kernel one.tangent
  all_done m some light =
      let o = h m some light in
      let units : Some o.unit ≡ Some one.unit = sym o.is_head ∙ one.is_head in
      let kernels : Some o.kernel ≡ Some one.kernel = sym o.becomes ∙ one.becomes in
      let tangents : Some o.tangent ≡ Some one.tangent = sym o.is_there ∙ one.is_there in
      let e : o.unit ≡ one.unit = cc in
      let f : o.kernel ≡ one.kernel = cc in
      let g : o.tangent ≡ one.tangent = cc in
      subst (λ u. AllDone (2 * m) u one.kernel one.tangent) e (subst (λ v. AllDone (2 * m) o.unit v one.tangent) f (subst (λ a. AllDone (2 * m) o.unit o.kernel a) g o.done))

  module _ (input z : List (Slot ℤ)) (d : List (List ℤ)) (f : fits words one.unit input ≡ true) (a : AreAlike input z) (dir : IsDirection vars input d) (are : AreAllWords d) (handed : AreHandedIn vars d z) (n used : ℕ) (out : Output (ℤ × ℤ))
      (r : run_unit duals ps one.unit (with_direction input d) [] None n ≡ Done out used) where
    abbrev flags : List Bool
    flags = shadow_flags (on name) one.unit.dummies

    abbrev Ended : ℕ → Type 0
    Ended w = SourceDone w flags ks qs one.kernel one.tangent (with_direction input d) (joined_by flags input z) out (length one.unit.dummies)

    first : Ended (2 * (heaviest_in ks + 1))
    first = one.done input z d f a dir are handed n used out r

    -- a bound on one ending is one on another
    bound : (w : ℕ) → Ended w → first.done.spent ≤ w * first.kernel_used + length one.unit.dummies
    bound w s =
        let spent : s.done.spent ≡ first.done.spent = one_ending _ _ _ _ _ _ _ s.done.runs first.done.runs in
        let taken : s.kernel_used ≡ first.kernel_used = one_ending _ _ _ _ _ _ _ s.kernel_runs first.kernel_runs in
        subst (λ k. k ≤ w * first.kernel_used + length one.unit.dummies) spent (subst (λ k. s.done.spent ≤ w * k + length one.unit.dummies) taken s.done.cost)

    by_weight : (weight : ℕ) → EachUnit (λ v. WeighsAtMost weight v.body) ks → first.done.spent ≤ 2 * weight * first.kernel_used + length one.unit.dummies
    by_weight zero weighs =
        let b = bound (2 * 1) (all_done 1 (omega arith) (each_light 0 1 (omega arith) ks weighs) input z d f a dir are handed n used out r) in
        let body : one.kernel.body ≡ stop = is_stop one.kernel.body (found_in (λ v. WeighsAtMost 0 v.body) ks name one.kernel one.becomes weighs) in
        let taken : first.kernel_used ≡ 0 = none_taken duals ks one.kernel (with_direction input d) first.enough first.kernel_used first.kernel_output body (first.kernel_runs first.enough (omega arith)) in
        subst (λ k. first.done.spent ≤ 2 * 0 * k + length one.unit.dummies) (sym taken) (subst (λ k. first.done.spent ≤ 2 * 1 * k + length one.unit.dummies) taken b)
    by_weight (suc m) weighs = bound (2 * suc m) (all_done (suc m) (omega arith) (each_light (suc m) (suc m) (omega arith) ks weighs) input z d f a dir are handed n used out r)

    done_by_weight : EndsAsDual flags ks qs one.kernel one.tangent (with_direction input d) (joined_by flags input z) out (length one.unit.dummies)
    done_by_weight = record {
      kernel_output = first.kernel_output;
      kernel_used = first.kernel_used;
      kernel_enough = first.enough;
      kernel_runs = first.kernel_runs;
      enough = first.done.enough;
      output = first.done.output;
      spent = first.done.spent;
      runs = first.done.runs;
      slots = first.done.slots;
      others = first.done.others;
      tape = first.done.tape;
      cost = by_weight;
    }

  -- what is a tangent by each bound is one by weight
  read_by_weight : IsTangentOfSource on ps name vars qs
  read_by_weight = record { unit = one.unit; is_head = one.is_head; kernel = one.kernel; becomes = one.becomes; tangent = one.tangent; is_there = one.is_there; done = done_by_weight; traps = one.traps }

-- the laws
pub weighs_is_light : WeighsIsLight
weighs_is_light m c h = list_light m m (omega arith) c h

pub has_weight : HasWeight
has_weight ps = (heaviest_in ps, all_weigh ps)

pub accepted_by_weight : AcceptedByWeight
accepted_by_weight ps acc name u found vars outvars varied on is qs same = read_by_weight _ ps name vars qs (λ m some light. accepted_reads ps acc name u found vars outvars varied on is m some light qs same)
