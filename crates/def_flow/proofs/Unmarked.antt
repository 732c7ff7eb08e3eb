-- Where no line is marked, no call is to be split.
use Rattle.std.proofs.Common.{◌≡◌, ℕ, suc, Bool, true, false, List, [], ◌∷◌, refl, ap, ◌∙◌}
use Rattle.std.specs.Prelude.{◌&&◌, ◌||◌, ◌==◌}
use Rattle.adj_tree.specs.Code.{unmarked, with_count, count_from, Act, assign, choose, loop, during, call, runtime, Code, stop, step, Procedure}
use Rattle.def_names.specs.Numbers.{next, behind}
use Rattle.def_flow.specs.Splits.{is_line, marked_call, marked_calls, marked_from, split_calls}

or_none : (b c : Bool) → b ≡ false → c ≡ false → (b || c) ≡ false
or_none true c e f = e
or_none false c e f = f

module _ (lines : ℕ → Bool) (none : (k : ℕ) → lines k ≡ false) where
  mutual
    none_act : (n i line : ℕ) (a : Act) → marked_call lines n i line a ≡ false
    none_act n i line (assign x subs e) = refl
    none_act n i line (choose c a b) = or_none (marked_calls lines n (suc i) a) (marked_calls lines n (behind (suc i) a) b) (none_list n (suc i) a) (none_list n (behind (suc i) a) b)
    none_act n i line (loop x a b c body unmarked) = none_list n (suc i) body
    none_act n i line (loop x a b c body (with_count m)) = refl
    none_act n i line (loop x a b c body (count_from y)) = refl
    none_act n i line (during c body) = none_list n (suc i) body
    none_act n i line (call name args) = ap (λ b. b && (n == i)) (none line)
    none_act n i line (runtime o) = refl

    none_list : (n i : ℕ) (c : Code) → marked_calls lines n i c ≡ false
    none_list n i stop = refl
    none_list n i (step line a rest) = or_none (marked_call lines n i line a) (marked_calls lines n (next i a) rest) (none_act n i line a) (none_list n (next i a) rest)

  none_from : (n i : ℕ) (us : List Procedure) → marked_from lines n i us ≡ false
  none_from n i [] = refl
  none_from n i (u ∷ us) = or_none (marked_calls lines n i u.body) (marked_from lines n (behind i u.body) us) (none_list n i u.body) (none_from n (behind i u.body) us)

-- no call is split
pub none_split : (lines : List ℕ) → lines ≡ [] → (units : List Procedure) (n : ℕ) → split_calls (is_line lines) units n ≡ false
none_split lines e units n = ap (λ z. split_calls (is_line z) units n) e ∙ none_from (is_line []) (λ k. refl) n 0 units
