-- The flags of the calls that are to be split tell what the definition says.
use Rattle.std.proofs.Common.{◌≡◌, ℕ, zero, suc, ◌+◌, ◌<◌, List, [], ◌∷◌, ◌++◌, Bool, true, false, refl, sym, ap, ◌∙◌, arith}
use Rattle.std.specs.Prelude.{◌||◌, ◌&&◌, ◌==◌}
use Rattle.std.proofs.lemmas.List.Concat.{flat_map-cons}
use Rattle.adj_tree.specs.Code.{unmarked, with_count, count_from, Act, assign, choose, loop, during, call, runtime, Code, stop, step, Procedure}
use Rattle.adj_tree.proofs.Names.{nat_same, nat_refl}
use Rattle.def_names.specs.Numbers.{next, behind}
use Rattle.def_names.proofs.Variables.{or_assoc, not_true}
use Rattle.def_flow.specs.Splits.{marked_call, marked_calls, marked_from}
use Rattle.adj_reach.specs.Edges.{flag}
use Rattle.adj_flow.specs.SplitFlags.{lines_inside, flags_in, flags_of, all_flags}

or_nothing : (b : Bool) → (b || false) ≡ b
or_nothing true = refl
or_nothing false = refl

-- ---- flags of numbers from some number on

-- whether the flag of a number is set, where the first flag is that of i
abbrev flag_from : ℕ → List Bool → ℕ → Bool
flag_from i [] n = false
flag_from i (b ∷ bs) n = (b && (n == i)) || flag_from (suc i) bs n

-- the number behind them
abbrev past : ℕ → List Bool → ℕ
past i [] = i
past i (b ∷ bs) = past (suc i) bs

from_append : (i n : ℕ) (xs ys : List Bool) → flag_from i (xs ++ ys) n ≡ (flag_from i xs n || flag_from (past i xs) ys n)
from_append i n [] ys = refl
from_append i n (x ∷ xs) ys = ap (λ z. (x && (n == i)) || z) (from_append (suc i) n xs ys) ∙ sym (or_assoc (x && (n == i)) (flag_from (suc i) xs n) (flag_from (past (suc i) xs) ys n))

past_append : (i : ℕ) (xs ys : List Bool) → past i (xs ++ ys) ≡ past (past i xs) ys
past_append i [] ys = refl
past_append i (x ∷ xs) ys = past_append (suc i) xs ys

apart_false : (n i : ℕ) → (n ≡ i → ⊥) → (n == i) ≡ false
apart_false n i h = not_true (n == i) (λ e. h (nat_same n i e))

and_false : (b c : Bool) → c ≡ false → (b && c) ≡ false
and_false true c e = e
and_false false c e = refl

below_none : (i n : ℕ) (bs : List Bool) → n < i → flag_from i bs n ≡ false
below_none i n [] l = refl
below_none i n (b ∷ bs) l =
    let e : (b && (n == i)) ≡ false = and_false b (n == i) (apart_false n i (λ q. omega (arith, l, q))) in ap (λ z. z || flag_from (suc i) bs n) e ∙ below_none (suc i) n bs (omega (arith, l))

-- the flag at the number itself
from_at : (i n m : ℕ) (bs : List Bool) → n ≡ i + m → flag_from i bs n ≡ flag bs m
from_at i n m [] e = refl
from_at i n zero (b ∷ bs) e =
    let q : n ≡ i = omega (arith, e) in
    let s : (b && (n == i)) ≡ b = ap (λ z. b && (z == i)) q ∙ ap (λ z. b && z) (nat_refl i) ∙ and_true_right b in
    (λ j. s j || below_none (suc i) n bs (omega (arith, q)) j) ∙ or_nothing b
  where
    and_true_right : (c : Bool) → (c && true) ≡ c
    and_true_right true = refl
    and_true_right false = refl
from_at i n (suc m) (b ∷ bs) e =
    let s : (b && (n == i)) ≡ false = and_false b (n == i) (apart_false n i (λ q. omega (arith, e, q))) in ap (λ z. z || flag_from (suc i) bs n) s ∙ from_at (suc i) n m bs (omega (arith, e))

-- ---- statements and lists

mutual
  past_act : (lines : ℕ → Bool) (i line : ℕ) (a : Act) → past i (flags_in lines line a) ≡ next i a
  past_act lines i line (assign x subs e) = refl
  past_act lines i line (choose c a b) = past_append (suc i) (flags_of lines a) (flags_of lines b) ∙ ap (λ k. past k (flags_of lines b)) (past_code lines (suc i) a) ∙ past_code lines (behind (suc i) a) b
  past_act lines i line (loop x first last by body m) = past_code (lines_inside lines m) (suc i) body
  past_act lines i line (during c body) = past_code lines (suc i) body
  past_act lines i line (call name args) = refl
  past_act lines i line (runtime r) = refl

  past_code : (lines : ℕ → Bool) (i : ℕ) (c : Code) → past i (flags_of lines c) ≡ behind i c
  past_code lines i stop = refl
  past_code lines i (step line a rest) = past_append i (flags_in lines line a) (flags_of lines rest) ∙ ap (λ k. past k (flags_of lines rest)) (past_act lines i line a) ∙ past_code lines (next i a) rest

mutual
  -- where no line counts, no flag is set
  none_act : (n i line : ℕ) (a : Act) → flag_from i (flags_in (λ k. false) line a) n ≡ false
  none_act n i line (assign x subs e) = refl
  none_act n i line (choose c a b) =
      from_append (suc i) n (flags_of (λ k. false) a) (flags_of (λ k. false) b) ∙ (λ j. none_code n (suc i) a j || flag_from (past (suc i) (flags_of (λ k. false) a)) (flags_of (λ k. false) b) n)
      ∙ none_code n (past (suc i) (flags_of (λ k. false) a)) b
  none_act n i line (loop x first last by body unmarked) = none_code n (suc i) body
  none_act n i line (loop x first last by body (with_count m)) = none_code n (suc i) body
  none_act n i line (loop x first last by body (count_from y)) = none_code n (suc i) body
  none_act n i line (during c body) = none_code n (suc i) body
  none_act n i line (call name args) = refl
  none_act n i line (runtime r) = refl

  none_code : (n i : ℕ) (c : Code) → flag_from i (flags_of (λ k. false) c) n ≡ false
  none_code n i stop = refl
  none_code n i (step line a rest) =
      from_append i n (flags_in (λ k. false) line a) (flags_of (λ k. false) rest) ∙ (λ j. none_act n i line a j || flag_from (past i (flags_in (λ k. false) line a)) (flags_of (λ k. false) rest) n)
      ∙ none_code n (past i (flags_in (λ k. false) line a)) rest

mutual
  told_act : (lines : ℕ → Bool) (n i line : ℕ) (a : Act) → flag_from i (flags_in lines line a) n ≡ marked_call lines n i line a
  told_act lines n i line (assign x subs e) = refl
  told_act lines n i line (choose c a b) =
      from_append (suc i) n (flags_of lines a) (flags_of lines b) ∙ ap (λ k. flag_from (suc i) (flags_of lines a) n || flag_from k (flags_of lines b) n) (past_code lines (suc i) a)
      ∙ (λ j. told_code lines n (suc i) a j || told_code lines n (behind (suc i) a) b j)
  told_act lines n i line (loop x first last by body unmarked) = told_code lines n (suc i) body
  told_act lines n i line (loop x first last by body (with_count m)) = none_code n (suc i) body
  told_act lines n i line (loop x first last by body (count_from y)) = none_code n (suc i) body
  told_act lines n i line (during c body) = told_code lines n (suc i) body
  told_act lines n i line (call name args) = or_nothing (lines line && (n == i))
  told_act lines n i line (runtime r) = refl

  told_code : (lines : ℕ → Bool) (n i : ℕ) (c : Code) → flag_from i (flags_of lines c) n ≡ marked_calls lines n i c
  told_code lines n i stop = refl
  told_code lines n i (step line a rest) =
      from_append i n (flags_in lines line a) (flags_of lines rest) ∙ ap (λ k. flag_from i (flags_in lines line a) n || flag_from k (flags_of lines rest) n) (past_act lines i line a)
      ∙ (λ j. told_act lines n i line a j || told_code lines n (next i a) rest j)

-- ---- units

told_from : (lines : ℕ → Bool) (n i : ℕ) (us : List Procedure) → flag_from i (all_flags lines us) n ≡ marked_from lines n i us
told_from lines n i [] = refl
told_from lines n i (u ∷ us) =
    ap (λ z. flag_from i z n) (flat_map-cons (λ v. flags_of lines v.body) u us) ∙ from_append i n (flags_of lines u.body) (all_flags lines us)
    ∙ ap (λ k. flag_from i (flags_of lines u.body) n || flag_from k (all_flags lines us) n) (past_code lines i u.body)
    ∙ (λ j. told_code lines n i u.body j || told_from lines n (behind i u.body) us j)

pub told : (lines : ℕ → Bool) (n : ℕ) (us : List Procedure) → flag (all_flags lines us) n ≡ marked_from lines n 0 us
told lines n us = sym (from_at 0 n n (all_flags lines us) (omega arith)) ∙ told_from lines n 0 us
