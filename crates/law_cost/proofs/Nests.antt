-- Four is the least constant: DO in DO comes as near to it as one wants.
use Rattle.std.proofs.Common.{◌≡◌, ℕ, zero, suc, ◌+◌, ◌*◌, Bool, true, false, List, refl, arith}
use Rattle.std.specs.Prelude.{pos}
use Rattle.adj_tree.specs.Code.{plain, shadow, lit, none, assign, runtime, pop_word, Code, stop, Procedure}
use Rattle.def_meaning.specs.Append.{◌+++◌, one}
use Rattle.def_kernel.specs.Weights.{total_weight}
use Rattle.def_sweep.specs.Rows.{is_empty, literal, loop_forward, loop_backward}
use Rattle.def_sweep.specs.Emission.{forward, backward}
use Rattle.def_sweep.specs.Marking.{full_marks, plan_in}
use Rattle.law_cost.specs.Sweeps.{statements_of, list_sweeps}
use Rattle.law_cost.specs.CostTheorem.{nest}
use Rattle.law_cost.proofs.Counting.{append_count, counting}

module _ (x y : List ℕ) (line : ℕ) where
  pub nest_weight : (k : ℕ) → total_weight (nest x y line k) ≡ 4 * k + 2
  nest_weight zero = refl
  nest_weight (suc k) = omega (arith, nest_weight k)

  -- the sweeps of a DO whose body has a backward sweep
  forth_count : (d : ℕ) (body : Code) (idle : Bool) → idle ≡ false → statements_of (loop_forward idle (suc d) line (plain x) (lit (pos 1)) (lit (pos 1)) (lit (pos 1)) body +++ stop) ≡ statements_of body + 8
  forth_count d body true h = absurd (let c : true ≡ false = h in cc)
  forth_count d body false h = omega (arith, append_count body (counting (suc d) line))

  back_count : (d : ℕ) (body : Code) (idle : Bool) → idle ≡ false →
      statements_of (loop_backward idle (suc d) line (plain x) body +++ (one line (runtime (pop_word (plain x) none)) +++ one line (assign (shadow x) none (literal 0)))) ≡ statements_of body + 7
  back_count d body true h = absurd (let c : true ≡ false = h in cc)
  back_count d body false h = omega arith

  module _ (ps : List Procedure) (u : Procedure) where
    -- that of a nest is never empty
    told : (i d k : ℕ) → is_empty (backward (plan_in full_marks ps u) i d (nest x y line k)) ≡ false
    told i d zero = refl
    told i d (suc k) = go (is_empty (backward (plan_in full_marks ps u) (suc i) (suc d) (nest x y line k))) (told (suc i) (suc d) k)
      where
        go : (idle : Bool) → idle ≡ false →
            is_empty (loop_backward idle (suc d) line (plain x) (backward (plan_in full_marks ps u) (suc i) (suc d) (nest x y line k)) +++ (one line (runtime (pop_word (plain x) none)) +++ one line (assign (shadow x) none (literal 0)))) ≡ false
        go true h = absurd (let c : true ≡ false = h in cc)
        go false h = refl

    pub nest_sweeps : (i d k : ℕ) → list_sweeps (plan_in full_marks ps u) i d (nest x y line k) ≡ 16 * k + 4
    nest_sweeps i d zero = refl
    nest_sweeps i d (suc k) =
        let p = plan_in full_marks ps u in
        let body1 = forward p (suc i) (suc d) (nest x y line k) in let body2 = backward p (suc i) (suc d) (nest x y line k) in
        let h = told (suc i) (suc d) k in
        omega (arith, nest_sweeps (suc i) (suc d) k, forth_count d body1 (is_empty body2) h, back_count d body2 (is_empty body2) h)
