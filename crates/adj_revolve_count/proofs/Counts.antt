-- How many actions the parts of a schedule have.
use Rattle.std.proofs.Common.{◌≡◌, ℕ, zero, suc, ◌+◌, ◌*◌, ◌-◌, ◌≤◌, ◌<◌, ◌⊎◌, inl, inr, List, [], ◌∷◌, length, refl, sym, ◌∙◌, ap, subst, arith, if◌then◌else◌}
use Rattle.std.specs.Prelude.{nat_lt, min}
use Rattle.std.proofs.lemmas.Bool.{cases_lt, cases_order}
use Rattle.std.proofs.lemmas.Bool.Decides.{nat_tests}
use Rattle.std.proofs.lemmas.List.{length-append}
use Rattle.adj_revolve.specs.Binomial.{beta}
use Rattle.adj_revolve.specs.Split.{IsRepetitions, repetitions, split_of}
use Rattle.adj_revolve.specs.Schedule.{with_snapshot, from_snapshot, body, schedule_of}
use Rattle.adj_revolve.specs.declared.machine.Action.{Action}
use Rattle.adj_revolve.specs.declared.machine.Action.TheVariants.{Store, Turn, Drop}
use Rattle.adj_revolve.proofs.BinomialLemmas.{beta-zero_repetitions, beta-zero_slots, beta-step, beta-pos, beta-slots, beta-mono, beta-above}
use Rattle.adj_revolve.proofs.SplitLemmas.{IsSplit, repetitions_is, repetitions_from}
use Rattle.adj_revolve.proofs.ScheduleLemmas.{length-schedule_of}
use Rattle.adj_revolve.proofs.Induction.{HoldsOfSplits, body_has, split_body, with_snapshot_has, from_snapshot_has}
use Rattle.adj_revolve_count.specs.Stores.{stores}
use Rattle.adj_revolve_count.specs.Rows.{returned}

-- ---- the number of snapshots

-- below two steps, and from there on
below_two : (a b l : ℕ) → l < 2 → (if nat_lt l 2 then a else b) ≡ a
below_two a b l h = grind (arith, nat_tests)

from_two : (a b l : ℕ) → 2 ≤ l → (if nat_lt l 2 then a else b) ≡ b
from_two a b l h = grind (arith, nat_tests)

-- few steps take no snapshot
pub stores-few : (s l : ℕ) → l < 2 → stores s l ≡ 0
unfolding stores
stores-few zero l h = refl
stores-few (suc t) l h = below_two 0 (beta t (repetitions l (suc t) - 1) + stores t (l - beta (suc t) (repetitions l (suc t) - 1))) l h

-- without a slot none is taken
stores-no_slot : (l : ℕ) → stores 0 l ≡ 0
unfolding stores
stores-no_slot l = refl

-- two steps or more, where q + 1 repetitions are the least that serve
stores-least : (t l q : ℕ) → 2 ≤ l → IsRepetitions l (suc t) (suc q) → stores (suc t) l ≡ beta t q + stores t (l - beta (suc t) q)
unfolding stores
stores-least t l q two is =
    let same : suc q ≡ repetitions l (suc t) = repetitions_from l (suc t) (suc q) (omega arith) is in
    let one : repetitions l (suc t) - 1 ≡ q = omega arith in
    from_two 0 (beta t (repetitions l (suc t) - 1) + stores t (l - beta (suc t) (repetitions l (suc t) - 1))) l two ∙ ap (λ z. beta t z + stores t (l - beta (suc t) z)) one

-- one repetition more turns more
pub beta-more : (t q : ℕ) → beta (suc t) q < beta (suc t) (suc q)
beta-more t q = omega (arith, beta-step t q, beta-pos t (suc q))

-- what q + 1 repetitions turn needs all of these
full_repetitions : (t q : ℕ) → IsRepetitions (beta (suc t) (suc q)) (suc t) (suc q)
full_repetitions t q = record {
  enough = omega arith;
  fewer = λ i h. omega (arith, beta-mono (suc t) i q (omega arith), beta-more t q);
}

-- the snapshots of as many steps as q + 1 repetitions turn
pub stores-full : (t q : ℕ) → stores t (beta t (suc q)) + beta t q ≡ beta t (suc q)
stores-full zero q = omega (arith, stores-no_slot (beta 0 (suc q)), beta-zero_slots q, beta-zero_slots (suc q))
stores-full (suc u) q =
    let rest : beta (suc u) (suc q) - beta (suc u) q ≡ beta u (suc q) = omega (arith, beta-step u q) in
    omega (
      arith,
      stores-least u (beta (suc u) (suc q)) q (omega (arith, beta-above (suc u) (suc q) (omega arith))) (full_repetitions u q),
      ap (λ z. stores u z) rest,
      stores-full u q,
      beta-step u q,
    )

-- ---- the parts of a schedule

-- How long what comes after a snapshot of l steps is, where q repetitions turn no more than these and one repetition more
-- turns no fewer.
abbrev Counted : ℕ → ℕ → List Action → Type 0
Counted l s xs = (q : ℕ) → beta s q ≤ l → l ≤ beta s (suc q) → length xs + 3 ≡ 3 * l + (beta (s - 1) q + stores (s - 1) (l - beta s q))

-- a part by what comes after its snapshot
part_counted : (lo l s : ℕ) (after : List Action) → 1 ≤ l → (2 ≤ l → 0 < s) → (2 ≤ l → Counted l s after) → length (with_snapshot lo l after) + 2 ≡ 3 * l + stores s l
part_counted lo l s after some slot more =
    with_snapshot_has (λ xs. length xs + 2 ≡ 3 * l + stores s l) lo l after some (λ e. omega (arith, stores-few s l (omega arith))) (λ two. go s two (slot two) (more two))
  where
    go : (s : ℕ) → 2 ≤ l → 0 < s → Counted l s after → length (Store lo ∷ after) + 2 ≡ 3 * l + stores s l
    go zero two pos counted = absurd (omega arith)
    go (suc t) two pos counted = at (repetitions l (suc t)) (repetitions_is l (suc t) pos)
      where
        at : (r : ℕ) → IsRepetitions l (suc t) r → length (Store lo ∷ after) + 2 ≡ 3 * l + stores (suc t) l
        at zero is = absurd (omega (arith, is.enough, beta-zero_repetitions (suc t)))
        at (suc q) is =
            let fewer : suc t - 1 ≡ t = omega arith in
            let counted' : length after + 3 ≡ 3 * l + (beta t q + stores t (l - beta (suc t) q)) = rw fewer at (counted q (omega (arith, is.fewer q (omega arith))) is.enough) in
            omega (arith, counted', stores-least t l q two is)

-- a return by what comes after it
rest_counted : (lo k t : ℕ) (again : List Action) → 1 ≤ k → (2 ≤ k → Counted k (suc t) again) → (q : ℕ) → beta (suc t) q ≤ k → k ≤ beta (suc t) (suc q) → length (from_snapshot lo k again) + 2 ≡ 3 * k + (beta t q + stores t (k - beta (suc t) q))
rest_counted lo k t again some more q fits most =
    let fewer : suc t - 1 ≡ t = omega arith in
    from_snapshot_has (λ xs. length xs + 2 ≡ 3 * k + (beta t q + stores t (k - beta (suc t) q))) lo k again some (λ e. one e)
    (λ two. let h : length again + 3 ≡ 3 * k + (beta t q + stores t (k - beta (suc t) q)) = rw fewer at (more two q fits most) in omega arith)
  where
    one : k ≡ 1 → length (Drop lo ∷ Turn lo ∷ []) + 2 ≡ 3 * k + (beta t q + stores t (k - beta (suc t) q))
    one e =
        let none : q ≡ 0 = omega (arith, beta-above (suc t) q (omega arith)) in
        omega (arith, ap (λ z. beta t z) none, beta-zero_repetitions t, stores-few t (k - beta (suc t) q) (omega arith))

-- the steps below a split
split_at : (l s k q : ℕ) → 0 < s → IsSplit l s k q → k ≡ min (beta s q) (l - beta (s - 1) q)
unfolding split_of
split_at l s k q pos is =
    let same : suc q ≡ repetitions l s = repetitions_from l s (suc q) pos is.least in
    let one : repetitions l s - 1 ≡ q = omega arith in
    is.is ∙ ap (λ z. min (beta s z) (l - beta (s - 1) z)) one

-- two parts one after the other
joined : (lo l k : ℕ) (upper lower : List Action) → length (split_body lo l k upper lower) ≡ suc (length (with_snapshot (lo + k) (l - k) upper) + length (from_snapshot lo k lower))
joined lo l k upper lower = ap suc (length-append (with_snapshot (lo + k) (l - k) upper) (from_snapshot lo k lower))

-- a split at the least number of repetitions
split_least : (lo l t k q : ℕ) (upper lower : List Action) → IsSplit l (suc t) k q → (2 ≤ l - k → Counted (l - k) t upper) → (2 ≤ k → Counted k (suc t) lower) → length (split_body lo l k upper lower) + 3 ≡ 3 * l + (beta t q + stores t (l - beta (suc t) q))
split_least lo l t k q upper lower is above below = go (cases_lt (l - beta t q) (beta (suc t) q)) q refl
  where
    fewer : suc t - 1 ≡ t
    fewer = omega arith

    split : k ≡ min (beta (suc t) q) (l - beta t q)
    split = rw fewer at (split_at l (suc t) k q (omega arith) is)

    slot : 2 ≤ l - k → 0 < t
    slot h = omega (arith, is.slot h)

    part : length (with_snapshot (lo + k) (l - k) upper) + 2 ≡ 3 * (l - k) + stores t (l - k)
    part = part_counted (lo + k) (l - k) t upper (omega (arith, is.less)) slot above

    go : (l - beta t q < beta (suc t) q) ⊎ (beta (suc t) q ≤ l - beta t q) → (p : ℕ) → p ≡ q → length (split_body lo l k upper lower) + 3 ≡ 3 * l + (beta t q + stores t (l - beta (suc t) q))
    go (inr full) p same =
        let at : k ≡ beta (suc t) q = omega (arith, split, full) in
        let none : k - beta (suc t) q ≡ 0 = omega arith in
        let over : l - k ≡ l - beta (suc t) q = omega arith in
        omega (
          arith,
          joined lo l k upper lower,
          part,
          ap (λ z. stores t z) over,
          rest_counted lo k t lower is.some below q (omega arith) (omega (arith, at, beta-more t q)),
          stores-few t (k - beta (suc t) q) (omega arith),
          is.less,
        )
    go (inl short) zero same =
        let none : q ≡ 0 = sym same in
        absurd (omega (arith, short, is.less, is.some, ap (λ z. beta t z) none, ap (λ z. beta (suc t) z) none, beta-zero_repetitions t, beta-zero_repetitions (suc t)))
    go (inl short) (suc p) same =
        let at : k ≡ l - beta t q = omega (arith, split, short) in
        let step : beta (suc t) q ≡ beta t q + beta (suc t) p = ap (λ z. beta (suc t) z) (sym same) ∙ (beta-step t p ∙ ap (λ z. beta t z + beta (suc t) p) same) in
        let more : beta (suc t) q < l = is.least.fewer q (omega arith) in
        let upper_is : l - k ≡ beta t (suc p) = let e : beta t (suc p) ≡ beta t q = ap (λ z. beta t z) same in omega arith in
        let over : k - beta (suc t) p ≡ l - beta (suc t) q = omega arith in
        omega (
          arith,
          joined lo l k upper lower,
          part,
          ap (λ z. stores t z) upper_is,
          stores-full t p,
          ap (λ z. beta t z) same,
          rest_counted lo k t lower is.some below p (omega arith) (let e : beta (suc t) (suc p) ≡ beta (suc t) q = ap (λ z. beta (suc t) z) same in omega arith),
          ap (λ z. stores t z) over,
          is.less,
        )

-- and at any number that is counted by
split_any : (l t q j n : ℕ) → IsRepetitions l (suc t) (suc q) → n ≡ 3 * l + (beta t q + stores t (l - beta (suc t) q)) → beta (suc t) j ≤ l → l ≤ beta (suc t) (suc j) → n ≡ 3 * l + (beta t j + stores t (l - beta (suc t) j))
split_any l t q j n is h fits most = go (cases_order j q)
  where
    go : (j ≡ q) ⊎ ((j < q) ⊎ (q < j)) → n ≡ 3 * l + (beta t j + stores t (l - beta (suc t) j))
    go (inl e) = h ∙ ap (λ z. 3 * l + (beta t z + stores t (l - beta (suc t) z))) (sym e)
    go (inr (inl k)) = absurd (omega (arith, is.fewer q (omega arith), beta-mono (suc t) (suc j) q (omega arith)))
    go (inr (inr k)) = next (cases_lt (suc q) j)
      where
        next : (suc q < j) ⊎ (j ≤ suc q) → n ≡ 3 * l + (beta t j + stores t (l - beta (suc t) j))
        next (inl g) = absurd (omega (arith, is.enough, beta-more t (suc q), beta-mono (suc t) (suc (suc q)) j (omega arith)))
        next (inr g) =
            let e : j ≡ suc q = omega arith in
            let whole : beta (suc t) j ≡ beta (suc t) (suc q) = ap (λ z. beta (suc t) z) e in
            let over : l - beta (suc t) q ≡ beta t (suc q) = omega (arith, whole, is.enough, beta-step t q) in
            omega (
              arith,
              h,
              ap (λ z. stores t z) over,
              stores-full t q,
              ap (λ z. beta t z) e,
              stores-few t (l - beta (suc t) j) (omega (arith, whole, is.enough)),
            )

-- so every split is counted
split_counted : HoldsOfSplits (λ lo l s xs. Counted l s xs)
split_counted lo l zero k q upper lower pos is above below j fits most = absurd (omega arith)
split_counted lo l (suc t) k q upper lower pos is above below j fits most =
    let fewer : suc t - 1 ≡ t = omega arith in
    rw fewer
    (split_any l t q j (length (split_body lo l k upper lower) + 3) is.least
    (split_least lo l t k q upper lower is (λ g. subst (λ z. Counted (l - k) z upper) fewer (above g)) below) fits most)

-- ---- how many actions there are

-- from a return to a place on
pub length-returned : (lo l t q : ℕ) → 1 ≤ l → beta (suc t) q ≤ l → l ≤ beta (suc t) (suc q) → length (returned lo l (suc t)) + 2 ≡ 3 * l + (beta t q + stores t (l - beta (suc t) q))
length-returned lo l t q some fits most =
    rest_counted lo l t (body l lo l (suc t)) some (λ two. body_has (λ lo l s xs. Counted l s xs) split_counted l lo l (suc t) (omega arith) (omega arith) two) q fits most

-- in a whole schedule
pub length-schedule : (lo l s : ℕ) → 1 ≤ l → (2 ≤ l → 0 < s) → length (schedule_of lo l s) + 2 ≡ 3 * l + stores s l
length-schedule lo l s some slot =
    part_counted lo l s (body l lo l s) some slot (λ two. body_has (λ lo l s xs. Counted l s xs) split_counted l lo l s (omega arith) (slot two) two)

-- two steps or more at any number of repetitions that is counted by
pub stores-more : (t l q : ℕ) → 2 ≤ l → beta (suc t) q ≤ l → l ≤ beta (suc t) (suc q) → stores (suc t) l ≡ beta t q + stores t (l - beta (suc t) q)
stores-more t l q two fits most = go (repetitions l (suc t)) (repetitions_is l (suc t) (omega arith))
  where
    go : (r : ℕ) → IsRepetitions l (suc t) r → stores (suc t) l ≡ beta t q + stores t (l - beta (suc t) q)
    go zero is = absurd (omega (arith, is.enough, beta-zero_repetitions (suc t)))
    go (suc p) is = omega (arith, split_any l t p q (3 * l + (beta t p + stores t (l - beta (suc t) p))) is refl fits most, stores-least t l p two is)

-- ---- as the code counts them

-- no more snapshots than steps, nearly
pub stores-le : (s l : ℕ) → stores s l ≤ l + 2
stores-le zero l = omega (arith, stores-no_slot l)
stores-le (suc t) zero = omega (arith, stores-few (suc t) 0 (omega arith))
stores-le (suc t) (suc l) = omega (arith, length-schedule 0 (suc l) (suc t) (omega arith) (λ two. omega arith), length-schedule_of 0 (suc l) (suc t) (omega arith))

-- one turn of the loop, where `full` steps are those of the repetitions and `again` the snapshots that these take
pub record IsTurn (left slots full again : ℕ) : Type 0 where
  pub some : 0 < full
  pub fits : full ≤ left
  pub counted : stores slots left ≡ again + stores (slots - 1) (left - full)
  pub slot : 2 ≤ left - full → 0 < slots - 1

-- and it is one
pub turn_is : (left slots q full again : ℕ) → 2 ≤ left → 0 < slots → beta slots q ≤ left → left < beta slots (q + 1) → full ≡ min left (beta slots q) → again ≡ min left (beta (slots - 1) q) → IsTurn left slots full again
turn_is left zero q full again two pos fits most f g = absurd (omega arith)
turn_is left (suc t) q full again two pos fits most f g =
    let fewer : suc t - 1 ≡ t = omega arith in
    let next : q + 1 ≡ suc q = omega arith in
    let most' : left < beta (suc t) (suc q) = rw next at most in
    let again' : again ≡ min left (beta t q) = rw fewer at g in
    let whole : full ≡ beta (suc t) q = omega arith in
    record {
      some = omega (arith, beta-pos (suc t) q);
      fits = omega arith;
      counted = rw (fewer, whole) (omega (arith, stores-more t left q two fits (omega arith), beta-slots t q));
      slot = λ h. rw fewer (slot t (omega (arith, beta-step t q)));
    }
  where
    slot : (t : ℕ) → 2 ≤ beta t (suc q) → 0 < t
    slot zero h = absurd (omega (arith, beta-zero_slots (suc q)))
    slot (suc u) h = omega arith
