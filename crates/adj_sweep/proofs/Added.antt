-- The depths that statements add, from what those in them add.
use Rattle.std.proofs.Common.{◌≡◌, ℕ, suc, List, Bool, true, false, not, refl, sym, ap, ◌∙◌, subst}
use Rattle.std.specs.Prelude.{◌&&◌, ◌||◌, ◌==◌, Some, None}
use Rattle.adj_tree.specs.Code.{Test, Mark, Act, choose, during, Code}
use Rattle.def_names.specs.Numbers.{behind}
use Rattle.def_sweep.specs.Plan.{Plan, Schedules, Step, reversed_by, found_or}
use Rattle.def_sweep.specs.Rows.{is_empty}
use Rattle.def_sweep.specs.Emission.{backward_with}
use Rattle.def_sweep.specs.Program.{is_do, is_loop, goes_back_act_with, goes_back_with, any_step, has_slots, reverses_act_by, reverses_by}
use Rattle.adj_sweep.specs.declared.depths.Depths.{Depths}
use Rattle.adj_sweep.specs.Depths.{has_depth, IsAdded, IsSame, AddsAct, AddsList, AddsLoop}
use Rattle.adj_sweep.proofs.Flags.{or_false, or_assoc, or_turned}
use Rattle.adj_sweep.proofs.StepCalls.{none_back, none_reversed}

-- an IF
pub adds_if : (r : Schedules) (p : Plan) (d i n : ℕ) (c : Test) (a b : Code) (old mid new : Depths) → n ≡ behind (suc i) a → AddsList r p d (suc i) a old mid → AddsList r p d n b mid new → AddsAct r p d i (choose c a b) old new
adds_if r p d i n c a b old mid new e ha hb0 =
    let hb = subst (λ k. AddsList r p d k b mid new) e hb0 in
    record {
      dos = λ k. hb.dos k ∙ ap (λ z. z || goes_back_with r is_do k p (behind (suc i) a) d b) (ha.dos k) ∙ or_assoc (has_depth old.dos.items k) _ _;
      loops = λ k. hb.loops k ∙ ap (λ z. z || goes_back_with r is_loop k p (behind (suc i) a) d b) (ha.loops k) ∙ or_assoc (has_depth old.loops.items k) _ _;
      reversed = λ k. hb.reversed k ∙ ap (λ z. z || reverses_by r any_step k p (behind (suc i) a) d b) (ha.reversed k) ∙ or_assoc (has_depth old.reversed.items k) _ _;
      slots = λ k. hb.slots k ∙ ap (λ z. z || reverses_by r has_slots k p (behind (suc i) a) d b) (ha.slots k) ∙ or_assoc (has_depth old.slots.items k) _ _;
    }

-- a DO that isn't reversed by a schedule
pub adds_do : (r : Schedules) (p : Plan) (depth i : ℕ) (x : List ℕ) (body : Code) (m : Mark) (idle : Bool) (mid new : Depths) → reversed_by r p.marks.adjointed i body m ≡ None → IsAdded depth idle mid.dos.items new.dos.items → IsAdded depth idle mid.loops.items new.loops.items → IsSame mid.reversed.items new.reversed.items → IsSame mid.slots.items new.slots.items → AddsLoop r p depth i x body m idle mid new
adds_do r p depth i x body m idle mid new others hd hl hr hs d a b c old e f h =
    let empty = is_empty (backward_with r p (suc i) (suc d) body) in
    record {
      dos = λ k.
          hd k ∙ (λ z. h.dos k z || ((k == e z) && not (f z)))
          ∙ or_turned (has_depth old.dos.items k) (goes_back_with r is_do k p (suc i) (suc d) body) ((k == suc d) && not empty)
          ∙ ap (λ z. has_depth old.dos.items k || found_or z (((k == suc d) && not empty) || goes_back_with r is_do k p (suc i) (suc d) body) (λ s. k == suc d)) (sym others);
      loops = λ k.
          hl k ∙ (λ z. h.loops k z || ((k == e z) && not (f z)))
          ∙ or_turned (has_depth old.loops.items k) (goes_back_with r is_loop k p (suc i) (suc d) body) ((k == suc d) && not empty)
          ∙ ap (λ z. has_depth old.loops.items k || found_or z (((k == suc d) && not empty) || goes_back_with r is_loop k p (suc i) (suc d) body) (λ s. k == suc d)) (sym others);
      reversed = λ k.
          hr k ∙ h.reversed k
          ∙ ap (λ z. has_depth old.reversed.items k || found_or z (reverses_by r any_step k p (suc i) (suc d) body) (λ s. any_step s && (k == suc d))) (sym others);
      slots = λ k.
          hs k ∙ h.slots k
          ∙ ap (λ z. has_depth old.slots.items k || found_or z (reverses_by r has_slots k p (suc i) (suc d) body) (λ s. has_slots s && (k == suc d))) (sym others);
    }

-- a depth that is added to those in an empty set and to others
added_alone : (was back own : Bool) → back ≡ false → ((was || back) || (own && true)) ≡ (was || own)
added_alone was true own e = absurd (let f : true ≡ false = e in cc)
added_alone true false own e = refl
added_alone false false true e = refl
added_alone false false false e = refl

-- the same of one that is added only where a test holds
added_where : (was back own b : Bool) → back ≡ false → ((was || back) || (own && not (not b))) ≡ (was || (b && own))
added_where was true own b e = absurd (let f : true ≡ false = e in cc)
added_where true false own b e = refl
added_where false false true true e = refl
added_where false false false true e = refl
added_where false false true false e = refl
added_where false false false false e = refl

-- a DO that is
pub adds_reversed : (r : Schedules) (p : Plan) (depth i : ℕ) (x : List ℕ) (body : Code) (m : Mark) (s : Step) (idle : Bool) (mid new : Depths) → reversed_by r p.marks.adjointed i body m ≡ Some s → IsAdded depth false mid.dos.items new.dos.items → IsAdded depth false mid.loops.items new.loops.items → IsAdded depth false mid.reversed.items new.reversed.items → IsAdded depth (not (has_slots s)) mid.slots.items new.slots.items → AddsLoop r p depth i x body m idle mid new
adds_reversed r p depth i x body m s idle mid new is hd hl hr hs d a b c old e f h =
    let empty = is_empty (backward_with r p (suc i) (suc d) body) in
    record {
      dos = λ k.
          hd k ∙ (λ z. h.dos k z || ((k == e z) && true))
          ∙ added_alone (has_depth old.dos.items k) (goes_back_with r is_do k p (suc i) (suc d) body) (k == suc d) (none_back r p.marks.adjointed i body m s is is_do k p (suc i) (suc d))
          ∙ ap (λ z. has_depth old.dos.items k || found_or z (((k == suc d) && not empty) || goes_back_with r is_do k p (suc i) (suc d) body) (λ t. k == suc d)) (sym is);
      loops = λ k.
          hl k ∙ (λ z. h.loops k z || ((k == e z) && true))
          ∙ added_alone (has_depth old.loops.items k) (goes_back_with r is_loop k p (suc i) (suc d) body) (k == suc d) (none_back r p.marks.adjointed i body m s is is_loop k p (suc i) (suc d))
          ∙ ap (λ z. has_depth old.loops.items k || found_or z (((k == suc d) && not empty) || goes_back_with r is_loop k p (suc i) (suc d) body) (λ t. k == suc d)) (sym is);
      reversed = λ k.
          hr k ∙ (λ z. h.reversed k z || ((k == e z) && true))
          ∙ added_alone (has_depth old.reversed.items k) (reverses_by r any_step k p (suc i) (suc d) body) (k == suc d) (none_reversed r p.marks.adjointed i body m s is any_step k p (suc i) (suc d))
          ∙ ap (λ z. has_depth old.reversed.items k || found_or z (reverses_by r any_step k p (suc i) (suc d) body) (λ t. any_step t && (k == suc d))) (sym is);
      slots = λ k.
          hs k ∙ (λ z. h.slots k z || ((k == e z) && not (not (has_slots s))))
          ∙ added_where (has_depth old.slots.items k) (reverses_by r has_slots k p (suc i) (suc d) body) (k == suc d) (has_slots s) (none_reversed r p.marks.adjointed i body m s is has_slots k p (suc i) (suc d))
          ∙ ap (λ z. has_depth old.slots.items k || found_or z (reverses_by r has_slots k p (suc i) (suc d) body) (λ t. has_slots t && (k == suc d))) (sym is);
    }

-- a DO WHILE
pub adds_while : (r : Schedules) (p : Plan) (d i depth : ℕ) (idle : Bool) (c : Test) (body : Code) (old mid new : Depths) → depth ≡ suc d → idle ≡ is_empty (backward_with r p (suc i) (suc d) body) → AddsList r p (suc d) (suc i) body old mid → IsSame mid.dos.items new.dos.items → IsAdded depth idle mid.loops.items new.loops.items → IsSame mid.reversed.items new.reversed.items → IsSame mid.slots.items new.slots.items → AddsAct r p d i (during c body) old new
adds_while r p d i depth idle c body old mid new e f h hd hl hr hs = record {
  dos = λ k. hd k ∙ h.dos k;
  loops = λ k.
      hl k ∙ (λ z. h.loops k z || ((k == e z) && not (f z)))
      ∙ or_turned (has_depth old.loops.items k) (goes_back_with r is_loop k p (suc i) (suc d) body) ((k == suc d) && not (is_empty (backward_with r p (suc i) (suc d) body)));
  reversed = λ k. hr k ∙ h.reversed k;
  slots = λ k. hs k ∙ h.slots k;
}
