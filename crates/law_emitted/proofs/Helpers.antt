-- The helpers of loops and branches that the sweeps of a list use are among those that its unit declares.
use Rattle.std.proofs.Common.{◌≡◌, ℕ, suc, ◌≤◌, max, Bool, true, false, sym, ap, subst, arith, if◌then◌else◌}
use Rattle.std.specs.Prelude.{◌&&◌, ◌||◌, ◌==◌, not, Some, None}
use Rattle.adj_tree.specs.Code.{Var, helper, control, first, stride, count, turn, entry, entries, kind, lower, upper, slots, Term, Test, Mark, Act, choose, loop, during, Code, step}
use Rattle.adj_tree.proofs.Names.{nat_refl}
use Rattle.def_names.specs.Numbers.{next, behind}
use Rattle.def_names.proofs.Variables.{or_left, or_right}
use Rattle.def_sweep.specs.Plan.{Plan, Schedules, Step, is_from_variable, reversed_by}
use Rattle.def_sweep.specs.Rows.{is_empty}
use Rattle.def_sweep.specs.Emission.{backward_with}
use Rattle.def_sweep.specs.Program.{depth_act_with, depth_used_with, tells_act_with, tells_some_with, goes_back_act_with, goes_back_with, reverses_act_by, reverses_by, any_step, has_slots, is_do, is_loop}

-- the helpers that a forward sweep uses: nothing is asked of others
abbrev pub InForth : (Var → Type 0) → Var → Type 0
InForth H (helper first k) = H (helper first k)
InForth H (helper stride k) = H (helper stride k)
InForth H (helper count k) = H (helper count k)
InForth H (helper slots k) = H (helper slots k)
InForth H v = Unit {0}

-- where H says what is asked of a helper
module _ (H : Var → Type 0) (sc : Schedules) (p : Plan) where
  abbrev Scalar : Var → Type 0
  Scalar x = H x

  -- the helpers of a reversal by a schedule
  abbrev pub Acting : ℕ → Type 0
  Acting k = (Scalar (helper entry k) × Scalar (helper entries k)) × (Scalar (helper kind k) × (Scalar (helper lower k) × Scalar (helper upper k)))

  -- what is asked holds of the control word of a statement, and of the helpers of its loops up to its depth
  pub record HelpedAct (i d : ℕ) (a : Act) : Type 0 where
    pub controls : tells_act_with sc p i d a ≡ true → Scalar (helper control 0)
    pub counts : (k : ℕ) → goes_back_act_with sc is_loop k p i d a ≡ true → k ≤ depth_act_with sc p i d a → Scalar (helper count k) × Scalar (helper turn k)
    pub bounds : (k : ℕ) → goes_back_act_with sc is_do k p i d a ≡ true → k ≤ depth_act_with sc p i d a → Scalar (helper first k) × Scalar (helper stride k)
    pub actions : (k : ℕ) → reverses_act_by sc any_step k p i d a ≡ true → k ≤ depth_act_with sc p i d a → Acting k
    pub numbers : (k : ℕ) → reverses_act_by sc has_slots k p i d a ≡ true → k ≤ depth_act_with sc p i d a → Scalar (helper slots k)

  -- the same of a list
  pub record Helped (i d : ℕ) (c : Code) : Type 0 where
    pub controls : tells_some_with sc p i d c ≡ true → Scalar (helper control 0)
    pub counts : (k : ℕ) → goes_back_with sc is_loop k p i d c ≡ true → k ≤ depth_used_with sc p i d c → Scalar (helper count k) × Scalar (helper turn k)
    pub bounds : (k : ℕ) → goes_back_with sc is_do k p i d c ≡ true → k ≤ depth_used_with sc p i d c → Scalar (helper first k) × Scalar (helper stride k)
    pub actions : (k : ℕ) → reverses_by sc any_step k p i d c ≡ true → k ≤ depth_used_with sc p i d c → Acting k
    pub numbers : (k : ℕ) → reverses_by sc has_slots k p i d c ≡ true → k ≤ depth_used_with sc p i d c → Scalar (helper slots k)

  -- ---- a list's statements

  pub helped_front : (i d line : ℕ) (a : Act) (rest : Code) → Helped i d (step line a rest) → HelpedAct i d a
  helped_front i d line a rest h = record {
    controls = λ e. h.controls (or_left (tells_act_with sc p i d a) (tells_some_with sc p (next i a) d rest) e);
    counts = λ k e le. h.counts k (or_left (goes_back_act_with sc is_loop k p i d a) (goes_back_with sc is_loop k p (next i a) d rest) e) (omega arith);
    bounds = λ k e le. h.bounds k (or_left (goes_back_act_with sc is_do k p i d a) (goes_back_with sc is_do k p (next i a) d rest) e) (omega arith);
    actions = λ k e le. h.actions k (or_left (reverses_act_by sc any_step k p i d a) (reverses_by sc any_step k p (next i a) d rest) e) (omega arith);
    numbers = λ k e le. h.numbers k (or_left (reverses_act_by sc has_slots k p i d a) (reverses_by sc has_slots k p (next i a) d rest) e) (omega arith);
  }

  pub helped_rest : (i d line : ℕ) (a : Act) (rest : Code) → Helped i d (step line a rest) → Helped (next i a) d rest
  helped_rest i d line a rest h = record {
    controls = λ e. h.controls (or_right (tells_act_with sc p i d a) (tells_some_with sc p (next i a) d rest) e);
    counts = λ k e le. h.counts k (or_right (goes_back_act_with sc is_loop k p i d a) (goes_back_with sc is_loop k p (next i a) d rest) e) (omega arith);
    bounds = λ k e le. h.bounds k (or_right (goes_back_act_with sc is_do k p i d a) (goes_back_with sc is_do k p (next i a) d rest) e) (omega arith);
    actions = λ k e le. h.actions k (or_right (reverses_act_by sc any_step k p i d a) (reverses_by sc any_step k p (next i a) d rest) e) (omega arith);
    numbers = λ k e le. h.numbers k (or_right (reverses_act_by sc has_slots k p i d a) (reverses_by sc has_slots k p (next i a) d rest) e) (omega arith);
  }

  -- ---- the parts of an IF that tells which of them ran

  abbrev pub idle_parts : ℕ → ℕ → Code → Code → Bool
  idle_parts i d a b = is_empty (backward_with sc p (suc i) d a) && is_empty (backward_with sc p (behind (suc i) a) d b)

  pub tells_here : (i d : ℕ) (c : Test) (a b : Code) → idle_parts i d a b ≡ false → tells_act_with sc p i d (choose c a b) ≡ true
  tells_here i d c a b e = ap not e

  pub helped_first : (i d : ℕ) (c : Test) (a b : Code) → idle_parts i d a b ≡ false → HelpedAct i d (choose c a b) → Helped (suc i) d a
  helped_first i d c a b e h = record {
    controls = λ t. h.controls (tells_here i d c a b e);
    counts = λ k g le. h.counts k (or_left (goes_back_with sc is_loop k p (suc i) d a) (goes_back_with sc is_loop k p (behind (suc i) a) d b) g) (omega arith);
    bounds = λ k g le. h.bounds k (or_left (goes_back_with sc is_do k p (suc i) d a) (goes_back_with sc is_do k p (behind (suc i) a) d b) g) (omega arith);
    actions = λ k g le. h.actions k (or_left (reverses_by sc any_step k p (suc i) d a) (reverses_by sc any_step k p (behind (suc i) a) d b) g) (omega arith);
    numbers = λ k g le. h.numbers k (or_left (reverses_by sc has_slots k p (suc i) d a) (reverses_by sc has_slots k p (behind (suc i) a) d b) g) (omega arith);
  }

  pub helped_other : (i d : ℕ) (c : Test) (a b : Code) → idle_parts i d a b ≡ false → HelpedAct i d (choose c a b) → Helped (behind (suc i) a) d b
  helped_other i d c a b e h = record {
    controls = λ t. h.controls (tells_here i d c a b e);
    counts = λ k g le. h.counts k (or_right (goes_back_with sc is_loop k p (suc i) d a) (goes_back_with sc is_loop k p (behind (suc i) a) d b) g) (omega arith);
    bounds = λ k g le. h.bounds k (or_right (goes_back_with sc is_do k p (suc i) d a) (goes_back_with sc is_do k p (behind (suc i) a) d b) g) (omega arith);
    actions = λ k g le. h.actions k (or_right (reverses_by sc any_step k p (suc i) d a) (reverses_by sc any_step k p (behind (suc i) a) d b) g) (omega arith);
    numbers = λ k g le. h.numbers k (or_right (reverses_by sc has_slots k p (suc i) d a) (reverses_by sc has_slots k p (behind (suc i) a) d b) g) (omega arith);
  }

  -- ---- the body of a loop whose turns are gone through backward

  abbrev pub idle_body : ℕ → ℕ → Code → Bool
  idle_body i d body = is_empty (backward_with sc p (suc i) (suc d) body)

  -- how deep its loops are, then
  body_depth : (i d : ℕ) (body : Code) → idle_body i d body ≡ false → (if idle_body i d body then 0 else max (suc d) (depth_used_with sc p (suc i) (suc d) body)) ≡ max (suc d) (depth_used_with sc p (suc i) (suc d) body)
  body_depth i d body e = ap (λ b. if b then 0 else max (suc d) (depth_used_with sc p (suc i) (suc d) body)) e

  -- it goes back itself
  here : (d : ℕ) (idle others : Bool) → idle ≡ false → ((true && ((suc d == suc d) && not idle)) || others) ≡ true
  here d true others e = cc
  here d false others e = ap (λ t. (true && (t && true)) || others) (nat_refl (suc d))

  within : (k m n : ℕ) → n ≡ m → k ≤ m → k ≤ n
  within k m n e h = subst (λ z. k ≤ z) (sym e) h

  -- a loop that isn't reversed by a schedule
  module _ (i d : ℕ) (x : Var) (a b c : Term) (body : Code) (m : Mark) (other : reversed_by sc p.marks.adjointed i body m ≡ None) (e : idle_body i d body ≡ false) where
    deep_body : depth_act_with sc p i d (loop x a b c body m) ≡ max (suc d) (depth_used_with sc p (suc i) (suc d) body)
    deep_body = rw other (body_depth i d body e)

    pub helped_body : HelpedAct i d (loop x a b c body m) → Helped (suc i) (suc d) body
    helped_body h = record {
      controls = h.controls;
      counts = λ k g le. h.counts k (rw other (or_right _ (goes_back_with sc is_loop k p (suc i) (suc d) body) g)) (within k (max (suc d) (depth_used_with sc p (suc i) (suc d) body)) (depth_act_with sc p i d (loop x a b c body m)) deep_body (omega arith));
      bounds = λ k g le. h.bounds k (rw other (or_right _ (goes_back_with sc is_do k p (suc i) (suc d) body) g)) (within k (max (suc d) (depth_used_with sc p (suc i) (suc d) body)) (depth_act_with sc p i d (loop x a b c body m)) deep_body (omega arith));
      actions = λ k g le. h.actions k (rw other g) (within k (max (suc d) (depth_used_with sc p (suc i) (suc d) body)) (depth_act_with sc p i d (loop x a b c body m)) deep_body (omega arith));
      numbers = λ k g le. h.numbers k (rw other g) (within k (max (suc d) (depth_used_with sc p (suc i) (suc d) body)) (depth_act_with sc p i d (loop x a b c body m)) deep_body (omega arith));
    }

    pub loop_counts : HelpedAct i d (loop x a b c body m) → Scalar (helper count (suc d)) × Scalar (helper turn (suc d))
    loop_counts h = h.counts (suc d) (rw other (here d (idle_body i d body) (goes_back_with sc is_loop (suc d) p (suc i) (suc d) body) e)) (within (suc d) (max (suc d) (depth_used_with sc p (suc i) (suc d) body)) (depth_act_with sc p i d (loop x a b c body m)) deep_body (omega arith))

    pub loop_bounds : HelpedAct i d (loop x a b c body m) → Scalar (helper first (suc d)) × Scalar (helper stride (suc d))
    loop_bounds h = h.bounds (suc d) (rw other (here d (idle_body i d body) (goes_back_with sc is_do (suc d) p (suc i) (suc d) body) e)) (within (suc d) (max (suc d) (depth_used_with sc p (suc i) (suc d) body)) (depth_act_with sc p i d (loop x a b c body m)) deep_body (omega arith))

  -- one that is
  module _ (i d : ℕ) (x : Var) (a b c : Term) (body : Code) (m : Mark) (s : Step) (reversed : reversed_by sc p.marks.adjointed i body m ≡ Some s) where
    deep_here : suc d ≤ depth_act_with sc p i d (loop x a b c body m)
    deep_here = rw reversed (omega arith)

    pub reversed_counts : HelpedAct i d (loop x a b c body m) → Scalar (helper count (suc d)) × Scalar (helper turn (suc d))
    reversed_counts h = h.counts (suc d) (rw reversed (nat_refl (suc d))) deep_here

    pub reversed_bounds : HelpedAct i d (loop x a b c body m) → Scalar (helper first (suc d)) × Scalar (helper stride (suc d))
    reversed_bounds h = h.bounds (suc d) (rw reversed (nat_refl (suc d))) deep_here

    pub reversed_actions : HelpedAct i d (loop x a b c body m) → Acting (suc d)
    reversed_actions h = h.actions (suc d) (rw reversed (nat_refl (suc d))) deep_here

    -- where a variable gives its number of snapshots
    pub reversed_numbers : HelpedAct i d (loop x a b c body m) → is_from_variable s.mark ≡ true → Scalar (helper slots (suc d))
    reversed_numbers h e = h.numbers (suc d) (rw reversed (rw e (nat_refl (suc d)))) deep_here

  pub helped_turns : (i d : ℕ) (c : Test) (body : Code) → idle_body i d body ≡ false → HelpedAct i d (during c body) → Helped (suc i) (suc d) body
  helped_turns i d c body e h = record {
    controls = h.controls;
    counts = λ k g le. h.counts k (or_right (is_loop (during c body) && ((k == suc d) && not (idle_body i d body))) (goes_back_with sc is_loop k p (suc i) (suc d) body) g) (within k (max (suc d) (depth_used_with sc p (suc i) (suc d) body)) (depth_act_with sc p i d (during c body)) (body_depth i d body e) (omega arith));
    bounds = λ k g le. h.bounds k (or_right (is_do (during c body) && ((k == suc d) && not (idle_body i d body))) (goes_back_with sc is_do k p (suc i) (suc d) body) g) (within k (max (suc d) (depth_used_with sc p (suc i) (suc d) body)) (depth_act_with sc p i d (during c body)) (body_depth i d body e) (omega arith));
    actions = λ k g le. h.actions k g (within k (max (suc d) (depth_used_with sc p (suc i) (suc d) body)) (depth_act_with sc p i d (during c body)) (body_depth i d body e) (omega arith));
    numbers = λ k g le. h.numbers k g (within k (max (suc d) (depth_used_with sc p (suc i) (suc d) body)) (depth_act_with sc p i d (during c body)) (body_depth i d body e) (omega arith));
  }

  pub while_counts : (i d : ℕ) (c : Test) (body : Code) → idle_body i d body ≡ false → HelpedAct i d (during c body) → Scalar (helper count (suc d)) × Scalar (helper turn (suc d))
  while_counts i d c body e h =
      h.counts (suc d) (here d (idle_body i d body) (goes_back_with sc is_loop (suc d) p (suc i) (suc d) body) e)
      (within (suc d) (max (suc d) (depth_used_with sc p (suc i) (suc d) body)) (depth_act_with sc p i d (during c body)) (body_depth i d body e) (omega arith))

-- what holds of more helpers holds of fewer
pub helped_more : (H I : Var → Type 0) → ((v : Var) → H v → I v) → (sc : Schedules) (p : Plan) (i d : ℕ) (c : Code) → Helped H sc p i d c → Helped I sc p i d c
helped_more H I f sc p i d c h = record {
  controls = λ e. f (helper control 0) (h.controls e);
  counts = λ k e le. let both = h.counts k e le in (f (helper count k) both.0, f (helper turn k) both.1);
  bounds = λ k e le. let both = h.bounds k e le in (f (helper first k) both.0, f (helper stride k) both.1);
  actions = λ k e le. let all = h.actions k e le in ((f (helper entry k) all.0.0, f (helper entries k) all.0.1), (f (helper kind k) all.1.0, (f (helper lower k) all.1.1.0, f (helper upper k) all.1.1.1)));
  numbers = λ k e le. f (helper slots k) (h.numbers k e le);
}
