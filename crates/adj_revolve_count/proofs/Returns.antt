-- What comes from a return to a place on, and how it ends with that of fewer steps.
use Rattle.std.proofs.Common.{◌≡◌, ℕ, zero, suc, ◌+◌, ◌-◌, ◌≤◌, ◌<◌, List, ◌∷◌, ◌++◌, length, refl, sym, ◌∙◌, ap, subst, arith}
use Rattle.std.specs.Prelude.{min, Some}
use Rattle.std.proofs.lemmas.List.{length-append}
use Rattle.adj_revolve.specs.Binomial.{beta}
use Rattle.adj_revolve.specs.Split.{IsRepetitions, repetitions, split_of}
use Rattle.adj_revolve.specs.Schedule.{body, schedule_of}
use Rattle.adj_revolve.specs.declared.machine.Action.{Action}
use Rattle.adj_revolve.specs.declared.machine.Action.TheVariants.{Advance, Keep}
use Rattle.adj_revolve.proofs.BinomialLemmas.{beta-step, beta-pos, beta-rise, beta-mono}
use Rattle.adj_revolve.proofs.SplitLemmas.{split_is, repetitions_from}
use Rattle.adj_revolve.proofs.ScheduleLemmas.{body-unfold}
use Rattle.adj_revolve.proofs.Induction.{from_snapshot-more}
use Rattle.adj_revolve_count.specs.Rows.{from_end, returned}
use Rattle.adj_revolve_count.proofs.Counts.{beta-more}
use Rattle.adj_revolve_count.proofs.Ends.{end_back, end_front, end_first, end_rest}

-- ---- the split

-- the split by the least number of repetitions
split_from : (l t q : ℕ) → IsRepetitions l (suc t) (suc q) → split_of l (suc t) ≡ min (beta (suc t) q) (l - beta t q)
unfolding split_of
split_from l t q is =
    let same : suc q ≡ repetitions l (suc t) = repetitions_from l (suc t) (suc q) (omega arith) is in
    let one : repetitions l (suc t) - 1 ≡ q = omega arith in
    let fewer : suc t - 1 ≡ t = omega arith in
    rw fewer (ap (λ z. min (beta (suc t) z) (l - beta t z)) one)

-- steps past those of q repetitions, too few for one more, ask for one more
asked : (l t q : ℕ) → beta (suc t) q < l → l ≤ beta (suc t) (suc q) → IsRepetitions l (suc t) (suc q)
asked l t q h g = record { enough = g; fewer = λ i k. omega (arith, beta-mono (suc t) i q (omega arith), h) }

-- few extra steps stay below the split
pub split-short : (t p e l : ℕ) → l ≡ beta (suc t) (suc p) + e → e < beta t (suc p) → split_of l (suc t) ≡ beta (suc t) p + e
split-short t p zero l is short =
    omega (arith, split_from l t p (asked l t p (omega (arith, beta-more t p)) (omega arith)), beta-step t p, beta-rise t p)
split-short t p (suc e) l is short =
    omega (arith, split_from l t (suc p) (asked l t (suc p) (omega arith) (omega (arith, beta-step t (suc p), beta-rise t (suc p)))), beta-step t p)

-- and more stand above it
pub split-full : (t q e l : ℕ) → l ≡ beta (suc t) q + e → 0 < e → beta t q ≤ e → e < beta t (suc q) → split_of l (suc t) ≡ beta (suc t) q
split-full t q e l is some full short =
    omega (arith, split_from l t q (asked l t q (omega arith) (omega (arith, beta-step t q))))

-- both parts have steps
pub split_parts : (l s : ℕ) → 0 < s → 2 ≤ l → (1 ≤ split_of l s) × (split_of l s < l)
split_parts l s pos two = let found = split_is l s pos two in (found.1.some, found.1.less)

-- ---- the actions

-- two steps or more
returned-unfold : (lo l s : ℕ) → 0 < s → 2 ≤ l → let k = split_of l s in returned lo l s ≡ Keep lo ∷ (Advance lo (lo + k) ∷ (schedule_of (lo + k) (l - k) (s - 1) ++ returned lo k s))
returned-unfold lo l s pos two = from_snapshot-more lo l (body l lo l s) two ∙ ap (λ z. Keep lo ∷ z) (body-unfold lo l s pos two)

-- two actions, those above the split, and those from the return to the steps below it
abbrev opened : ℕ → ℕ → ℕ → ℕ → List Action
opened lo l s k = Keep lo ∷ (Advance lo (lo + k) ∷ (schedule_of (lo + k) (l - k) (s - 1) ++ returned lo k s))

returned-opened : (lo l s k : ℕ) → 0 < s → 2 ≤ l → k ≡ split_of l s → returned lo l s ≡ opened lo l s k
returned-opened lo l s k pos two is = returned-unfold lo l s pos two ∙ ap (λ z. opened lo l s z) (sym is)

-- how long they are
pub returned-length : (lo l s k : ℕ) → 0 < s → 2 ≤ l → k ≡ split_of l s → length (returned lo l s) ≡ 2 + (length (schedule_of (lo + k) (l - k) (s - 1)) + length (returned lo k s))
returned-length lo l s k pos two is =
    omega (arith, ap length (returned-opened lo l s k pos two is), length-append (schedule_of (lo + k) (l - k) (s - 1)) (returned lo k s))

-- A member that stands so near the end that it is one of ys, too.
pub record EndsLike (xs ys : List Action) (left : ℕ) : Type 0 where
  pub enough : left ≤ length xs
  pub same : from_end xs left ≡ from_end ys left

-- the last members of two lists behind two members
two_before : (x y : Action) (xs ys : List Action) (left : ℕ) → left ≤ length ys → EndsLike (x ∷ (y ∷ (xs ++ ys))) ys left
two_before x y xs ys left h =
    let g : left ≤ length (xs ++ ys) = omega (arith, length-append xs ys) in
    record { enough = omega arith; same = end_rest x (y ∷ (xs ++ ys)) left (omega arith) ∙ (end_rest y (xs ++ ys) left g ∙ end_back xs ys left h) }

-- the actions end with those of the steps below the split
pub ends-lower : (lo l s k left : ℕ) → 0 < s → 2 ≤ l → k ≡ split_of l s → left ≤ length (returned lo k s) → EndsLike (returned lo l s) (returned lo k s) left
ends-lower lo l s k left pos two is h =
    subst (λ xs. EndsLike xs (returned lo k s) left) (sym (returned-opened lo l s k pos two is))
    (two_before (Keep lo) (Advance lo (lo + k)) (schedule_of (lo + k) (l - k) (s - 1)) (returned lo k s) left h)

-- the second action
pub at_advance : (lo l s k left : ℕ) → 0 < s → 2 ≤ l → k ≡ split_of l s → left + 1 ≡ length (returned lo l s) → Some (Advance lo (lo + k)) ≡ from_end (returned lo l s) left
at_advance lo l s k left pos two is h =
    let e = returned-opened lo l s k pos two is in
    let ahead : left ≡ suc (length (schedule_of (lo + k) (l - k) (s - 1) ++ returned lo k s)) = omega (arith, h, ap length e) in
    sym (ap (λ xs. from_end xs left) e
    ∙ (end_rest (Keep lo) (Advance lo (lo + k) ∷ (schedule_of (lo + k) (l - k) (s - 1) ++ returned lo k s)) left (omega arith)
    ∙ end_first (Advance lo (lo + k)) (schedule_of (lo + k) (l - k) (s - 1) ++ returned lo k s) left ahead))

-- the actions above the split
pub ends-upper : (lo l s k left : ℕ) → 0 < s → 2 ≤ l → k ≡ split_of l s → length (returned lo k s) < left → left + 2 ≤ length (returned lo l s) → from_end (returned lo l s) left ≡ from_end (schedule_of (lo + k) (l - k) (s - 1)) (left - length (returned lo k s))
ends-upper lo l s k left pos two is past h =
    let e = returned-opened lo l s k pos two is in
    let whole = returned-length lo l s k pos two is in
    let joined : length (schedule_of (lo + k) (l - k) (s - 1) ++ returned lo k s) ≡ length (schedule_of (lo + k) (l - k) (s - 1)) + length (returned lo k s) = length-append (schedule_of (lo + k) (l - k) (s - 1)) (returned lo k s) in
    ap (λ xs. from_end xs left) e
    ∙ (end_rest (Keep lo) (Advance lo (lo + k) ∷ (schedule_of (lo + k) (l - k) (s - 1) ++ returned lo k s)) left (omega (arith, whole, joined))
    ∙ (end_rest (Advance lo (lo + k)) (schedule_of (lo + k) (l - k) (s - 1) ++ returned lo k s) left (omega (arith, whole, joined))
    ∙ end_front (schedule_of (lo + k) (l - k) (s - 1)) (returned lo k s) left past (omega (arith, whole))))

-- so they end with those of fewer repetitions, as long as the extra steps are too few for one more
pub ends-fewer : (lo t e q d left : ℕ) → e < beta t (suc q) → left ≤ length (returned lo (beta (suc t) q + e) (suc t)) → EndsLike (returned lo (beta (suc t) (q + d) + e) (suc t)) (returned lo (beta (suc t) q + e) (suc t)) left
ends-fewer lo t e q zero left short h =
    let z : q + 0 ≡ q = omega arith in
    rw z (record { enough = h; same = refl })
ends-fewer lo t e q (suc d) left short h =
    let z : q + suc d ≡ suc (q + d) = omega arith in
    let rest = ends-fewer lo t e q d left short h in
    let l : ℕ = beta (suc t) (suc (q + d)) + e in
    let k : ℕ = beta (suc t) (q + d) + e in
    let is : split_of l (suc t) ≡ k = split-short t (q + d) e l refl (omega (arith, beta-mono t (suc q) (suc (q + d)) (omega arith))) in
    let next = ends-lower lo l (suc t) k left (omega arith) (omega (arith, beta-more t (q + d), beta-pos (suc t) (q + d))) (sym is) rest.enough in
    rw z (record { enough = next.enough; same = next.same ∙ rest.same })
