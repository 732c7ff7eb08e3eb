-- Runs of an adjoint with limits are those that the theorem on adjoints speaks of, which have none.
use Rattle.std.proofs.Common.{◌≡◌, ℕ, List, [], sym, ap, ◌∙◌, subst, arith}
use Rattle.std.specs.Prelude.{ℤ, Bool, Option, None}
use Rattle.adj_tree.specs.Code.{Procedure}
use Rattle.def_meaning.specs.Numbers.{Numbers, words, duals}
use Rattle.def_meaning.specs.Scene.{IsMore, Outcome, Done, Trapped, More, Full}
use Rattle.def_meaning.specs.Units.{Slot, Output, run_unit}
use Rattle.law_meaning.proofs.Costs.{one_end}
use Rattle.def_sweep.specs.Tangents.{Ends, cells_of, with_direction, tangents_of, product}
use Rattle.def_sweep.specs.MarkedAdjoint.{shadow_flags, shadow_cells, joined_by}
use Rattle.law_rooms.specs.Rooms.{IsFull}
use Rattle.def_adjoint.specs.Trapped.{IsTrapped}
use Rattle.law_rooms.specs.Adjoints.{AdjointsBalance}
use Rattle.law_rooms.proofs.Rooms.{room_is_enough}

-- a run that is done, or traps, isn't full and has no more to do
pub done_not_full : {R : Type 0} (o : Outcome R) (a : R) (k : ℕ) → o ≡ Done a k → IsFull o → ⊥
done_not_full o a k e h = subst IsFull e h

done_not_more : {R : Type 0} (o : Outcome R) (a : R) (k : ℕ) → o ≡ Done a k → IsMore o → ⊥
done_not_more o a k e h = subst IsMore e h

trap_not_full : {R : Type 0} (o : Outcome R) → IsTrapped o → IsFull o → ⊥
trap_not_full (Done a k) t h = absurd h
trap_not_full (Trapped c line w) t h = absurd h
trap_not_full (More w) t h = absurd h
trap_not_full (Full w) t h = absurd t

trap_not_more : {R : Type 0} (o : Outcome R) → IsTrapped o → IsMore o → ⊥
trap_not_more (Done a k) t h = absurd h
trap_not_more (Trapped c line w) t h = absurd h
trap_not_more (More w) t h = absurd t
trap_not_more (Full w) t h = absurd h

result_is : {R : Type 0} (a b : R) (j k : ℕ) → Done a j ≡ Done b k → a ≡ b
result_is a b j k h = cc

-- a unit whose run ends without limits
module _ {C : Type 0} (n : Numbers C) (ps : List Procedure) (u : Procedure) (input : List (Slot C)) (ends : Ends n ps u input) where
  enough_done : run_unit n ps u input [] None ends.enough ≡ Done ends.output ends.used
  enough_done = ends.runs ends.enough (omega arith)

  -- with limits that it keeps to it ends alike
  same_end : (room : Option ℕ) (k : ℕ) → (IsFull (run_unit n ps u input [] room k) → ⊥) → (IsMore (run_unit n ps u input [] room k) → ⊥) → run_unit n ps u input [] room k ≡ Done ends.output ends.used
  same_end room k full more =
      let wide = room_is_enough n ps u input [] room k full in
      wide ∙ one_end n ps u input [] None k ends.enough (λ h. more (subst IsMore (sym wide) h)) (done_not_more (run_unit n ps u input [] None ends.enough) ends.output ends.used enough_done) ∙ enough_done

  -- so it doesn't trap
  never_trapped : (room : Option ℕ) (k : ℕ) → IsTrapped (run_unit n ps u input [] room k) → ⊥
  never_trapped room k t =
      let o = run_unit n ps u input [] room k in
      subst IsTrapped (same_end room k (trap_not_full o t) (trap_not_more o t)) t

  -- and where it is done, it gives the same
  pub output_is : (room : Option ℕ) (k used : ℕ) (out : Output C) → run_unit n ps u input [] room k ≡ Done out used → out ≡ ends.output
  output_is room k used out e =
      let o = run_unit n ps u input [] room k in
      result_is out ends.output used ends.used (sym e ∙ same_end room k (done_not_full o out used e) (done_not_more o out used e))

pub adjoints_balance : AdjointsBalance
adjoints_balance lines m ps name vars outvars qs x input shadows fit alike d along room k used out e =
    let o = run_unit words ps x.unit input [] room k in
    let wide = room_is_enough words ps x.unit input [] room k (done_not_full o out used e) in
    let t = x.transposes input shadows fit alike k used out (sym wide ∙ e) in
    let flags = shadow_flags (m.shadowed name) x.unit.dummies in
    let joined = joined_by flags input shadows in
    let agrees = t.products d along in
    record {
      fits = t.fits;
      untrapped = never_trapped words qs x.adjoint joined t.run;
      dual_untrapped = never_trapped duals ps x.unit (with_direction input d) agrees.dual;
      products = λ room1 room2 k1 k2 used1 used2 back dual e1 e2.
          ap (λ (z : Output ℤ). product vars (shadow_cells flags z.slots) d) (output_is words qs x.adjoint joined t.run room1 k1 used1 back e1)
          ∙ agrees.products
          ∙ ap (λ (z : Output (ℤ × ℤ)). product outvars (cells_of shadows) (tangents_of (cells_of z.slots))) (sym (output_is duals ps x.unit (with_direction input d) agrees.dual room2 k2 used2 dual e2));
    }
