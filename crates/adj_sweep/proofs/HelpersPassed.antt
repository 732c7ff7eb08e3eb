-- What the statements of a list use, one after another.
use Rattle.std.proofs.Common.{◌≡◌, ℕ, max, sym, ap, ◌∙◌, arith}
use Rattle.std.specs.Prelude.{◌&&◌, ◌||◌}
use Rattle.adj_tree.specs.Code.{Act, Code, stop, step}
use Rattle.def_names.specs.Numbers.{next, behind}
use Rattle.def_sweep.specs.Plan.{Plan, Schedules}
use Rattle.def_sweep.specs.Rows.{is_empty}
use Rattle.def_sweep.specs.Emission.{backward_act_with, backward_with}
use Rattle.def_sweep.specs.Program.{is_do, is_loop, works_used, temps_used, depth_used_with, tells_some_with, goes_back_act_with, goes_back_with, any_step, has_slots, reverses_act_by, reverses_by}
use Rattle.adj_sweep.specs.declared.depths.Depths.{Depths}
use Rattle.adj_sweep.specs.declared.uses.Used.{Used}
use Rattle.adj_sweep.specs.Depths.{has_depth, AddsAct, AddsList}
use Rattle.adj_sweep.specs.Uses.{UsesAct, UsesList}
use Rattle.adj_sweep.proofs.Idle.{empty_more}
use Rattle.adj_sweep.proofs.Flags.{and_true, and_turned, or_false, or_assoc, max_assoc}

-- some statements and those that come next
pub record Joined (old act new : Used) : Type 0 where
  pub idle : new.idle ≡ (old.idle && act.idle)
  pub tells : new.tells ≡ (old.tells || act.tells)
  pub works : new.works ≡ max old.works act.works
  pub temps : new.temps ≡ max old.temps act.temps
  pub depth : new.depth ≡ max old.depth act.depth
  pub number : new.number ≡ act.number

-- u is what the statements before those that are left use
pub record Passed (r : Schedules) (p : Plan) (d i : ℕ) (whole left : Code) (u : Used) : Type 0 where
  pub idle : (u.idle && is_empty (backward_with r p u.number d left)) ≡ is_empty (backward_with r p i d whole)
  pub tells : (u.tells || tells_some_with r p u.number d left) ≡ tells_some_with r p i d whole
  pub works : max u.works (works_used p.marks u.number left) ≡ works_used p.marks i whole
  pub temps : max u.temps (temps_used p.marks u.number left) ≡ temps_used p.marks i whole
  pub depth : max u.depth (depth_used_with r p u.number d left) ≡ depth_used_with r p i d whole
  pub number : behind u.number left ≡ behind i whole

-- their depths are added
pub record Deeper (r : Schedules) (p : Plan) (d i : ℕ) (whole left : Code) (k : ℕ) (old new : Depths) : Type 0 where
  pub dos : (n : ℕ) → (has_depth new.dos.items n || goes_back_with r is_do n p k d left) ≡ (has_depth old.dos.items n || goes_back_with r is_do n p i d whole)
  pub loops : (n : ℕ) → (has_depth new.loops.items n || goes_back_with r is_loop n p k d left) ≡ (has_depth old.loops.items n || goes_back_with r is_loop n p i d whole)
  pub reversed : (n : ℕ) → (has_depth new.reversed.items n || reverses_by r any_step n p k d left) ≡ (has_depth old.reversed.items n || reverses_by r any_step n p i d whole)
  pub slots : (n : ℕ) → (has_depth new.slots.items n || reverses_by r has_slots n p k d left) ≡ (has_depth old.slots.items n || reverses_by r has_slots n p i d whole)

-- ---- one statement more

pub passed_more : (r : Schedules) (p : Plan) (d i line : ℕ) (a : Act) (whole current left : Code) (old act new : Used) → current ≡ step line a left → UsesAct r p d old.number a act → Joined old act new → Passed r p d i whole current old → Passed r p d i whole left new
passed_more r p d i line a whole current left old act new is u j h =
    let n = old.number in
    let at : new.number ≡ next n a = j.number ∙ u.number in
    record {
      idle = (λ k. j.idle k && is_empty (backward_with r p (at k) d left))
          ∙ ap (λ z. (old.idle && z) && is_empty (backward_with r p (next n a) d left)) (u.idle line)
          ∙ and_turned old.idle (is_empty (backward_act_with r p n d line a)) (is_empty (backward_with r p (next n a) d left))
          ∙ ap (λ z. old.idle && z) (sym (empty_more r p d n line a left (next n a)))
          ∙ ap (λ z. old.idle && is_empty (backward_with r p n d z)) (sym is)
          ∙ h.idle;
      tells = (λ k. j.tells k || tells_some_with r p (at k) d left)
          ∙ ap (λ z. (old.tells || z) || tells_some_with r p (next n a) d left) u.tells
          ∙ or_assoc old.tells _ _
          ∙ ap (λ z. old.tells || tells_some_with r p n d z) (sym is)
          ∙ h.tells;
      works = (λ k. max (j.works k) (works_used p.marks (at k) left))
          ∙ ap (λ z. max (max old.works z) (works_used p.marks (next n a) left)) u.works
          ∙ max_assoc old.works _ _
          ∙ ap (λ z. max old.works (works_used p.marks n z)) (sym is)
          ∙ h.works;
      temps = (λ k. max (j.temps k) (temps_used p.marks (at k) left))
          ∙ ap (λ z. max (max old.temps z) (temps_used p.marks (next n a) left)) u.temps
          ∙ max_assoc old.temps _ _
          ∙ ap (λ z. max old.temps (temps_used p.marks n z)) (sym is)
          ∙ h.temps;
      depth = (λ k. max (j.depth k) (depth_used_with r p (at k) d left))
          ∙ ap (λ z. max (max old.depth z) (depth_used_with r p (next n a) d left)) u.depth
          ∙ max_assoc old.depth _ _
          ∙ ap (λ z. max old.depth (depth_used_with r p n d z)) (sym is)
          ∙ h.depth;
      number = ap (λ k. behind k left) at ∙ ap (behind n) (sym is) ∙ h.number;
    }

pub deeper_more : (r : Schedules) (p : Plan) (d i line : ℕ) (a : Act) (whole current left : Code) (n m : ℕ) (old mid new : Depths) → current ≡ step line a left → m ≡ next n a → AddsAct r p d n a mid new → Deeper r p d i whole current n old mid → Deeper r p d i whole left m old new
deeper_more r p d i line a whole current left n m old mid new is at adds h = record {
  dos = λ k.
      (λ z. adds.dos k z || goes_back_with r is_do k p (at z) d left)
      ∙ or_assoc (has_depth mid.dos.items k) (goes_back_act_with r is_do k p n d a) (goes_back_with r is_do k p (next n a) d left)
      ∙ ap (λ z. has_depth mid.dos.items k || goes_back_with r is_do k p n d z) (sym is)
      ∙ h.dos k;
  loops = λ k.
      (λ z. adds.loops k z || goes_back_with r is_loop k p (at z) d left)
      ∙ or_assoc (has_depth mid.loops.items k) (goes_back_act_with r is_loop k p n d a) (goes_back_with r is_loop k p (next n a) d left)
      ∙ ap (λ z. has_depth mid.loops.items k || goes_back_with r is_loop k p n d z) (sym is)
      ∙ h.loops k;
  reversed = λ k.
      (λ z. adds.reversed k z || reverses_by r any_step k p (at z) d left)
      ∙ or_assoc (has_depth mid.reversed.items k) (reverses_act_by r any_step k p n d a) (reverses_by r any_step k p (next n a) d left)
      ∙ ap (λ z. has_depth mid.reversed.items k || reverses_by r any_step k p n d z) (sym is)
      ∙ h.reversed k;
  slots = λ k.
      (λ z. adds.slots k z || reverses_by r has_slots k p (at z) d left)
      ∙ or_assoc (has_depth mid.slots.items k) (reverses_act_by r has_slots k p n d a) (reverses_by r has_slots k p (next n a) d left)
      ∙ ap (λ z. has_depth mid.slots.items k || reverses_by r has_slots k p n d z) (sym is)
      ∙ h.slots k;
}

-- ---- all of them

pub passed_all : (r : Schedules) (p : Plan) (d i : ℕ) (whole left : Code) (u : Used) → left ≡ stop → Passed r p d i whole left u → UsesList r p d i whole u
passed_all r p d i whole left u is h = record {
  idle = sym (and_true u.idle) ∙ ap (λ z. u.idle && is_empty (backward_with r p u.number d z)) (sym is) ∙ h.idle;
  tells = sym (or_false u.tells) ∙ ap (λ z. u.tells || tells_some_with r p u.number d z) (sym is) ∙ h.tells;
  works = max_none u.works ∙ ap (λ z. max u.works (works_used p.marks u.number z)) (sym is) ∙ h.works;
  temps = max_none u.temps ∙ ap (λ z. max u.temps (temps_used p.marks u.number z)) (sym is) ∙ h.temps;
  depth = max_none u.depth ∙ ap (λ z. max u.depth (depth_used_with r p u.number d z)) (sym is) ∙ h.depth;
  number = ap (behind u.number) (sym is) ∙ h.number;
}
  where
    max_none : (n : ℕ) → n ≡ max n 0
    max_none n = omega arith

pub deeper_all : (r : Schedules) (p : Plan) (d i : ℕ) (whole left : Code) (n : ℕ) (old new : Depths) → left ≡ stop → Deeper r p d i whole left n old new → AddsList r p d i whole old new
deeper_all r p d i whole left n old new is h = record {
  dos = λ k. sym (or_false (has_depth new.dos.items k)) ∙ ap (λ z. has_depth new.dos.items k || goes_back_with r is_do k p n d z) (sym is) ∙ h.dos k;
  loops = λ k. sym (or_false (has_depth new.loops.items k)) ∙ ap (λ z. has_depth new.loops.items k || goes_back_with r is_loop k p n d z) (sym is) ∙ h.loops k;
  reversed = λ k. sym (or_false (has_depth new.reversed.items k)) ∙ ap (λ z. has_depth new.reversed.items k || reverses_by r any_step k p n d z) (sym is) ∙ h.reversed k;
  slots = λ k. sym (or_false (has_depth new.slots.items k)) ∙ ap (λ z. has_depth new.slots.items k || reverses_by r has_slots k p n d z) (sym is) ∙ h.slots k;
}
