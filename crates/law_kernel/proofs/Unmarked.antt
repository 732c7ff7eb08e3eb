-- A program without marked loops is its own first step.
use Rattle.std.proofs.Common.{◌≡◌, ℕ, ◌+◌, List, [], ◌∷◌, ◌++◌, refl, ap, ◌∙◌, arith}
use Rattle.adj_tree.specs.Code.{unmarked, with_count, count_from, Act, assign, choose, loop, during, call, runtime, Code, stop, step, Procedure}
use Rattle.def_kernel.specs.Kernel.{EachUnit}
use Rattle.def_kernel.specs.Stepped.{marked_in_act, marked_in, step_names, cut_act, cut, step_units_in_act, step_units_in, stepped_from, names_of_source, stepped_program}

module _ (taken : List (List ℕ)) (u : Procedure) where
  mutual
    same_act : (k line : ℕ) (a : Act) → marked_in_act a ≡ 0 → cut_act taken u k line a ≡ a
    same_act k line (assign x subs e) h = refl
    same_act k line (choose c a b) h = λ i. choose c (same_code k a (omega (arith, h)) i) (same_code (k + marked_in a) b (omega (arith, h)) i)
    same_act k line (loop x first last by body unmarked) h = λ i. loop x first last by (same_code k body h i) unmarked
    same_act k line (loop x first last by body (with_count m)) h = absurd (omega (arith, h))
    same_act k line (loop x first last by body (count_from y)) h = absurd (omega (arith, h))
    same_act k line (during c body) h = ap (during c) (same_code k body h)
    same_act k line (call name args) h = refl
    same_act k line (runtime r) h = refl

    -- a list without marked loops is its cut
    same_code : (k : ℕ) (c : Code) → marked_in c ≡ 0 → cut taken u k c ≡ c
    same_code k stop h = refl
    same_code k (step line a rest) h = λ i. step line (same_act k line a (omega (arith, h)) i) (same_code (k + marked_in_act a) rest (omega (arith, h)) i)

  mutual
    none_in_act : (k line : ℕ) (a : Act) → marked_in_act a ≡ 0 → step_units_in_act taken u k line a ≡ []
    none_in_act k line (assign x subs e) h = refl
    none_in_act k line (choose c a b) h = λ i. none_in k a (omega (arith, h)) i ++ none_in (k + marked_in a) b (omega (arith, h)) i
    none_in_act k line (loop x first last by body unmarked) h = none_in k body h
    none_in_act k line (loop x first last by body (with_count m)) h = absurd (omega (arith, h))
    none_in_act k line (loop x first last by body (count_from y)) h = absurd (omega (arith, h))
    none_in_act k line (during c body) h = none_in k body h
    none_in_act k line (call name args) h = refl
    none_in_act k line (runtime r) h = refl

    -- it has no step units
    none_in : (k : ℕ) (c : Code) → marked_in c ≡ 0 → step_units_in taken u k c ≡ []
    none_in k stop h = refl
    none_in k (step line a rest) h = λ i. none_in_act k line a (omega (arith, h)) i ++ none_in (k + marked_in_act a) rest (omega (arith, h)) i

from_same : (taken : List (List ℕ)) (units : List Procedure) → EachUnit (λ u. marked_in u.body ≡ 0) units → stepped_from taken units ≡ units
from_same taken [] h = refl
from_same taken (u ∷ us) h =
    (λ i. (record u { body = same_code taken u 0 u.body h.0 i } ∷ none_in taken u 0 u.body h.0 i) ++ stepped_from (taken ++ step_names taken u.name (marked_in u.body)) us)
    ∙ ap (λ z. u ∷ z) (from_same (taken ++ step_names taken u.name (marked_in u.body)) us h.1)

-- so a program without marked loops is its own first step
pub stepped_same : (units : List Procedure) → EachUnit (λ u. marked_in u.body ≡ 0) units → stepped_program units ≡ units
stepped_same units h = from_same (names_of_source units) units h
