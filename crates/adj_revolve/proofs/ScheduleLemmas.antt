-- The schedule plays, at the least cost, with few advances over each step, and is short.
use Rattle.std.proofs.Common.{◌≡◌, ℕ, zero, suc, ◌+◌, ◌*◌, ◌-◌, ◌≤◌, ◌<◌, ◌⊎◌, inl, inr, Bool, true, false, cond, ◌==◌, List, [], ◌∷◌, ◌++◌, length, Option, Some, None, refl, sym, ◌∙◌, ap, subst, arith}
use Rattle.std.specs.Prelude.{nat_le, nat_lt, ◌&&◌}
use Rattle.std.proofs.lemmas.Bool.{cases_lt}
use Rattle.std.proofs.lemmas.Bool.Decides.{nat_tests}
use Rattle.std.proofs.lemmas.List.{append_assoc, append-nil, length-append}
use Rattle.adj_revolve.specs.Binomial.{beta}
use Rattle.adj_revolve.specs.LeastCost.{least_cost}
use Rattle.adj_revolve.specs.Split.{repetitions, split_of}
use Rattle.adj_revolve.specs.Machine.{State, IsAmong, without, start_state, action_cost, total_cost, PlaysFrom, Plays, advances_over}
use Rattle.adj_revolve.specs.Schedule.{with_snapshot, from_snapshot, body, schedule_of}
use Rattle.adj_revolve.specs.declared.machine.Action.{Action}
use Rattle.adj_revolve.specs.declared.machine.Action.TheVariants.{Store, Advance, Turn, Keep, Drop}
use Rattle.adj_revolve.proofs.BinomialLemmas.{spared}
use Rattle.adj_revolve.proofs.LeastCostLemmas.{Peak, peak_same, peak_small, least-peak}
use Rattle.adj_revolve.proofs.SplitLemmas.{IsSplit, split_is, repetitions_is, repetitions_peak}
use Rattle.adj_revolve.proofs.Induction.{HoldsOfSplits, body_has, split_body, with_snapshot-none, with_snapshot-one, with_snapshot-more, from_snapshot-one, from_snapshot-more, with_snapshot_has, from_snapshot_has}

-- ---- its cost

-- a list after another adds its cost
total_cost-append : (xs ys : List Action) → total_cost (xs ++ ys) ≡ total_cost xs + total_cost ys
total_cost-append [] ys = omega arith
total_cost-append (x ∷ xs) ys = omega (arith, total_cost-append xs ys)

-- what l steps cost with s snapshots, where j is a peak of the bounds
abbrev CostsPeak : ℕ → ℕ → List Action → Type 0
CostsPeak l s xs = (j : ℕ) → Peak l s j → total_cost xs ≡ j * l - spared s j

-- one step costs nothing
costs_small : (l s : ℕ) (xs : List Action) → l ≡ 1 → total_cost xs ≡ 0 → CostsPeak l s xs
costs_small l s xs one e j p = e ∙ sym (peak_small l s j (omega arith) p)

-- an action that is no advance adds nothing
costs_after : (l s : ℕ) (x : Action) (xs : List Action) → action_cost x ≡ 0 → CostsPeak l s xs → CostsPeak l s (x ∷ xs)
costs_after l s x xs free h j p = omega (arith, h j p)

-- the parts of a split pay what the peak says
split_costs : HoldsOfSplits (λ lo l s xs. CostsPeak l s xs)
split_costs lo l s k q upper lower pos is above below j p =
    let front : CostsPeak (l - k) (s - 1) (with_snapshot (lo + k) (l - k) upper) =
    with_snapshot_has (λ xs. CostsPeak (l - k) (s - 1) xs) (lo + k) (l - k) upper (omega (arith, is.less)) (λ e. costs_small (l - k) (s - 1) (Turn (lo + k) ∷ []) e refl) (λ g. costs_after (l - k) (s - 1) (Store (lo + k)) upper refl (above g)) in
    let back : CostsPeak k s (from_snapshot lo k lower) =
    from_snapshot_has (λ xs. CostsPeak k s xs) lo k lower is.some (λ e. costs_small k s (Drop lo ∷ Turn lo ∷ []) e refl) (λ g. costs_after k s (Keep lo) lower refl (below g)) in
    omega (
      arith,
      total_cost-append (with_snapshot (lo + k) (l - k) upper) (from_snapshot lo k lower),
      front (suc q) is.upper,
      back q is.lower,
      is.cost,
      peak_same l s j (suc q) p (repetitions_peak l s (suc q) is.least),
    )

-- the schedule has the least cost
pub schedule_cost : (lo l s : ℕ) → 0 < s → total_cost (schedule_of lo l s) ≡ least_cost l s
schedule_cost lo l s pos = go (cases_lt 0 l) ∙ sym (least-peak l s r pos p)
  where
    r : ℕ
    r = repetitions l s

    p : Peak l s r
    p = repetitions_peak l s r (repetitions_is l s pos)

    go : (0 < l) ⊎ (l ≤ 0) → total_cost (schedule_of lo l s) ≡ r * l - spared s r
    go (inl some) =
        with_snapshot_has (λ xs. CostsPeak l s xs) lo l (body l lo l s) some (λ e. costs_small l s (Turn lo ∷ []) e refl)
        (λ two. costs_after l s (Store lo) (body l lo l s) refl (body_has (λ lo l s xs. CostsPeak l s xs) split_costs l lo l s (omega arith) pos two)) r p
    go (inr none) = ap total_cost (with_snapshot-none lo l (body l lo l s) (omega arith)) ∙ sym (peak_small l s r (omega arith) p)

-- ---- the machine allows it

-- a state
abbrev at : Option ℕ → List ℕ → ℕ → State
at w st left = record { working = w; stored = st; left = left }

-- each stored place is below lo
abbrev Below : ℕ → List ℕ → Type 0
Below lo st = (y : ℕ) → IsAmong y st → y < lo

-- the first place is taken out
without_head : (p : ℕ) (st : List ℕ) → without p (p ∷ st) ≡ st
without_head p st = go (p == p) refl
  where
    go : (b : Bool) → (p == p) ≡ b → cond b st (p ∷ without p st) ≡ st
    go true e = refl
    go false e = absurd (grind (arith, nat_tests))

-- Where lo is stored, and the program stands there, the actions turn l steps from lo on, take its snapshot away, and leave
-- whatever follows to go on.
abbrev TurnsStored : ℕ → ℕ → ℕ → ℕ → List Action → Type 0
TurnsStored slots lo l s xs = (st : List ℕ) (rest : List Action) → Below lo st → length st + s ≤ slots → PlaysFrom slots (at None st lo) rest → PlaysFrom slots (at (Some lo) (lo ∷ st) (lo + l)) (xs ++ rest)

-- the same where lo is not stored yet
part_turns : (slots lo l s : ℕ) (after : List Action) → 1 ≤ l → (2 ≤ l → 0 < s) → (2 ≤ l → TurnsStored slots lo l s after) → (st : List ℕ) (rest : List Action) → Below lo st → length st + s ≤ slots → PlaysFrom slots (at None st lo) rest → PlaysFrom slots (at (Some lo) st (lo + l)) (with_snapshot lo l after ++ rest)
part_turns slots lo l s after some slot more st rest low room next =
    with_snapshot_has (λ xs. PlaysFrom slots (at (Some lo) st (lo + l)) (xs ++ rest)) lo l after some (λ e. ((refl, omega arith), next))
    (λ g. ((refl, (λ i. let lt : lo < lo = low lo i in absurd (omega arith)), omega (arith, slot g)), more g st rest low room next))

-- and where the program is to go back to lo
rest_turns : (slots lo k s : ℕ) (again : List Action) → 1 ≤ k → (2 ≤ k → TurnsStored slots lo k s again) → (st : List ℕ) (rest : List Action) → Below lo st → length st + s ≤ slots → PlaysFrom slots (at None st lo) rest → PlaysFrom slots (at None (lo ∷ st) (lo + k)) (from_snapshot lo k again ++ rest)
rest_turns slots lo k s again some more st rest low room next =
    from_snapshot_has (λ xs. PlaysFrom slots (at None (lo ∷ st) (lo + k)) (xs ++ rest)) lo k again some
    (λ e. (inl refl, ((refl, omega arith), subst (λ st'. PlaysFrom slots (at None st' lo) rest) (sym (without_head lo st)) next)))
    (λ g. (inl refl, more g st rest low room next))

-- an advance to the split, both parts one after the other
split_turns : (slots : ℕ) → HoldsOfSplits (λ lo l s xs. TurnsStored slots lo l s xs)
split_turns slots lo l s k q upper lower pos is above below st rest low room next = (
  (refl, omega (arith, is.some), omega (arith, is.less)),
  subst (λ xs. PlaysFrom slots (at (Some (lo + k)) (lo ∷ st) (lo + l)) xs) (sym (append_assoc (with_snapshot (lo + k) (l - k) upper) (from_snapshot lo k lower) rest))
      (subst (λ z. PlaysFrom slots (at (Some (lo + k)) (lo ∷ st) z) (with_snapshot (lo + k) (l - k) upper ++ (from_snapshot lo k lower ++ rest))) whole
      (part_turns slots (lo + k) (l - k) (s - 1) upper (omega (arith, is.less)) is.slot above (lo ∷ st) (from_snapshot lo k lower ++ rest) low_too (omega arith)
      (rest_turns slots lo k s lower is.some below st rest low room next))),
)
  where
    whole : (lo + k) + (l - k) ≡ lo + l
    whole = omega (arith, is.less)

    low_too : Below (lo + k) (lo ∷ st)
    low_too y (inl e) = omega (arith, is.some)
    low_too y (inr i) = omega (arith, low y i)

-- the machine allows the schedule
pub schedule_plays : (l s : ℕ) → 0 < s → Plays l s (schedule_of 0 l s)
schedule_plays zero s pos = refl
schedule_plays (suc l) s pos =
    subst (λ xs. PlaysFrom s (start_state (suc l)) xs) (append-nil (schedule_of 0 (suc l) s))
    (subst (λ z. PlaysFrom s (at (Some 0) [] z) (schedule_of 0 (suc l) s ++ [])) whole
    (part_turns s 0 (suc l) s (body (suc l) 0 (suc l) s) (omega arith) (λ g. pos)
    (λ g. body_has (λ lo l t xs. TurnsStored s lo l t xs) (split_turns s) (suc l) 0 (suc l) s (omega arith) pos g) [] [] (λ y i. elim i [ ]) (omega arith) refl))
  where
    whole : 0 + suc l ≡ suc l
    whole = omega arith

-- ---- how many advances lead over a step

-- a list after another adds its advances
advances_over-append : (i : ℕ) (xs ys : List Action) → advances_over i (xs ++ ys) ≡ advances_over i xs + advances_over i ys
advances_over-append i [] ys = omega arith
advances_over-append i (Store p ∷ xs) ys = advances_over-append i xs ys
advances_over-append i (Advance p q ∷ xs) ys = omega (arith, advances_over-append i xs ys)
advances_over-append i (Turn p ∷ xs) ys = advances_over-append i xs ys
advances_over-append i (Keep p ∷ xs) ys = advances_over-append i xs ys
advances_over-append i (Drop p ∷ xs) ys = advances_over-append i xs ys

-- an advance leads over no step outside it, and once over one inside
one_over : (i p q : ℕ) (xs : List Action) → ((i < p) ⊎ (q ≤ i) → advances_over i (Advance p q ∷ xs) ≡ advances_over i xs) × (advances_over i (Advance p q ∷ xs) ≤ 1 + advances_over i xs)
one_over i p q xs = go (nat_le p i) refl (nat_lt i q) refl
  where
    go : (b : Bool) → nat_le p i ≡ b → (c : Bool) → nat_lt i q ≡ c → ((i < p) ⊎ (q ≤ i) → cond (b && c) 1 0 + advances_over i xs ≡ advances_over i xs) × (cond (b && c) 1 0 + advances_over i xs ≤ 1 + advances_over i xs)
    go true e true f = ((λ h. absurd (out h)), omega arith)
      where
        out : (i < p) ⊎ (q ≤ i) → ⊥
        out (inl k) = grind (arith, nat_tests)
        out (inr k) = grind (arith, nat_tests)
    go true e false f = ((λ h. omega arith), omega arith)
    go false e true f = ((λ h. omega arith), omega arith)
    go false e false f = ((λ h. omega arith), omega arith)

-- the list leads over step i only where i is one of the l steps from lo on, and then at most r times
record LeadsOver (i lo l r : ℕ) (xs : List Action) : Type 0 where
  before : i < lo → advances_over i xs ≡ 0
  after : lo + l ≤ i → advances_over i xs ≡ 0
  within : advances_over i xs ≤ r

-- a list that does not lead over step i
leads_nowhere : (i lo l r : ℕ) (xs : List Action) → advances_over i xs ≡ 0 → LeadsOver i lo l r xs
leads_nowhere i lo l r xs e = record { before = λ k. e; after = λ k. e; within = omega arith }

-- the same list with an action more that is no advance
leads_same : (i lo l r : ℕ) (xs ys : List Action) → advances_over i ys ≡ advances_over i xs → LeadsOver i lo l r xs → LeadsOver i lo l r ys
leads_same i lo l r xs ys e h = record { before = λ k. e ∙ h.before k; after = λ k. e ∙ h.after k; within = omega (arith, h.within) }

-- as often as l steps with s snapshots must be led over
abbrev LeadsSeldom : ℕ → ℕ → ℕ → ℕ → List Action → Type 0
LeadsSeldom i lo l s xs = (r : ℕ) → l ≤ beta s r → LeadsOver i lo l r xs

-- a part leads over no more, nor does a return to a snapshot
part_leads : (i lo l s : ℕ) (after : List Action) → 1 ≤ l → (2 ≤ l → LeadsSeldom i lo l s after) → LeadsSeldom i lo l s (with_snapshot lo l after)
part_leads i lo l s after some h r enough =
    with_snapshot_has (λ xs. LeadsOver i lo l r xs) lo l after some (λ e. leads_nowhere i lo l r (Turn lo ∷ []) refl) (λ g. leads_same i lo l r after (Store lo ∷ after) refl (h g r enough))

rest_leads : (i lo k s : ℕ) (again : List Action) → 1 ≤ k → (2 ≤ k → LeadsSeldom i lo k s again) → LeadsSeldom i lo k s (from_snapshot lo k again)
rest_leads i lo k s again some h r enough =
    from_snapshot_has (λ xs. LeadsOver i lo k r xs) lo k again some (λ e. leads_nowhere i lo k r (Drop lo ∷ Turn lo ∷ []) refl) (λ g. leads_same i lo k r again (Keep lo ∷ again) refl (h g r enough))

-- two parts after an advance over the lower one
leads_joined : (i lo l k q r : ℕ) (xs ys : List Action) → 1 ≤ k → k < l → suc q ≤ r → LeadsOver i (lo + k) (l - k) (suc q) xs → LeadsOver i lo k q ys → LeadsOver i lo l r (Advance lo (lo + k) ∷ (xs ++ ys))
leads_joined i lo l k q r xs ys some less enough f g = record {
  before = λ c. omega (arith, (one_over i lo (lo + k) (xs ++ ys)).0 (inl c), advances_over-append i xs ys, f.before (omega arith), g.before c);
  after = λ c. omega (arith, (one_over i lo (lo + k) (xs ++ ys)).0 (inr (omega arith)), advances_over-append i xs ys, f.after (omega arith), g.after (omega arith));
  within = apart (cases_lt i (lo + k));
}
  where
    apart : (i < lo + k) ⊎ (lo + k ≤ i) → advances_over i (Advance lo (lo + k) ∷ (xs ++ ys)) ≤ r
    apart (inl c) = omega (arith, (one_over i lo (lo + k) (xs ++ ys)).1, advances_over-append i xs ys, f.before c, g.within)
    apart (inr c) = omega (arith, (one_over i lo (lo + k) (xs ++ ys)).0 (inr c), advances_over-append i xs ys, f.within, g.after c)

-- so the parts of a split lead over step i as seldom as they must
split_leads : (i : ℕ) → HoldsOfSplits (λ lo l s xs. LeadsSeldom i lo l s xs)
split_leads i lo l s k q upper lower pos is above below r enough =
    leads_joined i lo l k q r _ _ is.some is.less (needed (cases_lt q r))
    (part_leads i (lo + k) (l - k) (s - 1) upper (omega (arith, is.less)) above (suc q) is.upper.enough)
    (rest_leads i lo k s lower is.some below q is.lower.enough)
  where
    needed : (q < r) ⊎ (r ≤ q) → suc q ≤ r
    needed (inl c) = omega arith
    needed (inr c) = absurd (omega (arith, is.least.fewer r (omega arith)))

-- and so does the schedule
pub schedule_leads : (i l s : ℕ) → 0 < s → (r : ℕ) → l ≤ beta s r → advances_over i (schedule_of 0 l s) ≤ r
schedule_leads i zero s pos r enough = omega arith
schedule_leads i (suc l) s pos r enough =
    (part_leads i 0 (suc l) s (body (suc l) 0 (suc l) s) (omega arith) (λ g. body_has (λ lo l t xs. LeadsSeldom i lo l t xs) (split_leads i) (suc l) 0 (suc l) s (omega arith) pos g) r enough).within

-- ---- how long it is

-- the parts of a split are short
split_short : HoldsOfSplits (λ lo l s xs. length xs + 4 ≤ 4 * l)
split_short lo l s k q upper lower pos is above below =
    let front : length (with_snapshot (lo + k) (l - k) upper) + 3 ≤ 4 * (l - k) =
    with_snapshot_has (λ xs. length xs + 3 ≤ 4 * (l - k)) (lo + k) (l - k) upper (omega (arith, is.less)) (λ e. omega arith) (λ g. omega (arith, above g)) in
    let back : length (from_snapshot lo k lower) + 2 ≤ 4 * k =
    from_snapshot_has (λ xs. length xs + 2 ≤ 4 * k) lo k lower is.some (λ e. omega arith) (λ g. omega (arith, below g)) in
    omega (arith, length-append (with_snapshot (lo + k) (l - k) upper) (from_snapshot lo k lower), is.less)

-- no more than four actions a step
pub length-schedule_of : (lo l s : ℕ) → 0 < s → length (schedule_of lo l s) ≤ 4 * l
length-schedule_of lo zero s pos = omega arith
length-schedule_of lo (suc l) s pos =
    with_snapshot_has (λ xs. length xs ≤ 4 * suc l) lo (suc l) (body (suc l) lo (suc l) s) (omega arith) (λ e. omega arith)
    (λ two. let h : length (body (suc l) lo (suc l) s) + 4 ≤ 4 * suc l = body_has (λ lo l s xs. length xs + 4 ≤ 4 * l) split_short (suc l) lo (suc l) s (omega arith) pos two in omega arith)

-- ---- its recursion

-- a part depends on what follows its snapshot only where it has two steps
with_snapshot_same : (lo l : ℕ) (xs ys : List Action) → 1 ≤ l → (2 ≤ l → xs ≡ ys) → with_snapshot lo l xs ≡ with_snapshot lo l ys
with_snapshot_same lo l xs ys some h =
    with_snapshot_has (λ zs. zs ≡ with_snapshot lo l ys) lo l xs some (λ e. sym (with_snapshot-one lo l ys e)) (λ g. ap (λ zs. Store lo ∷ zs) (h g) ∙ sym (with_snapshot-more lo l ys g))

-- likewise
from_snapshot_same : (lo k : ℕ) (xs ys : List Action) → 1 ≤ k → (2 ≤ k → xs ≡ ys) → from_snapshot lo k xs ≡ from_snapshot lo k ys
from_snapshot_same lo k xs ys some h =
    from_snapshot_has (λ zs. zs ≡ from_snapshot lo k ys) lo k xs some (λ e. sym (from_snapshot-one lo k ys e)) (λ g. ap (λ zs. Keep lo ∷ zs) (h g) ∙ sym (from_snapshot-more lo k ys g))

-- so does a split
split_same : (lo l k : ℕ) (us vs xs ys : List Action) → 1 ≤ k → k < l → (2 ≤ l - k → us ≡ vs) → (2 ≤ k → xs ≡ ys) → split_body lo l k us xs ≡ split_body lo l k vs ys
split_same lo l k us vs xs ys some less above below =
    ap (λ zs. Advance lo (lo + k) ∷ (zs ++ from_snapshot lo k xs)) (with_snapshot_same (lo + k) (l - k) us vs (omega arith) above)
    ∙ ap (λ zs. Advance lo (lo + k) ∷ (with_snapshot (lo + k) (l - k) vs ++ zs)) (from_snapshot_same lo k xs ys some below)

-- any depth that is large enough gives the same list
split_deep : HoldsOfSplits (λ lo l s xs. (m : ℕ) → l ≤ m → xs ≡ body m lo l s)
unfolding body
split_deep lo l s k q upper lower pos is above below zero h = absurd (omega (arith, is.less))
split_deep lo l s k q upper lower pos is above below (suc m) h =
    split_same lo l k upper (body m (lo + k) (l - k) (s - 1)) lower (body m lo k s) is.some is.less (λ g. above g m (omega (arith, is.some))) (λ g. below g m (omega (arith, is.less)))
    ∙ ap (λ z. split_body lo l z (body m (lo + z) (l - z) (s - 1)) (body m lo z s)) is.is

-- one depth gives what another gives
body-depth : (n m lo l s : ℕ) → l ≤ n → l ≤ m → 0 < s → 2 ≤ l → body n lo l s ≡ body m lo l s
body-depth n m lo l s h g pos two = body_has (λ lo l s xs. (m : ℕ) → l ≤ m → xs ≡ body m lo l s) split_deep n lo l s h pos two m g

-- a body is an advance to the split, the schedule of the steps above it with one snapshot fewer, and the return to those below
pub body-unfold : (lo l s : ℕ) → 0 < s → 2 ≤ l → let k = split_of l s in body l lo l s ≡ Advance lo (lo + k) ∷ (schedule_of (lo + k) (l - k) (s - 1) ++ from_snapshot lo k (body k lo k s))
unfolding body
body-unfold lo zero s pos two = absurd (omega arith)
body-unfold lo (suc l) s pos two = go (split_is (suc l) s pos two)
  where
    go : (q : ℕ) × IsSplit (suc l) s (split_of (suc l) s) q → body (suc l) lo (suc l) s ≡ split_body lo (suc l) (split_of (suc l) s) (body (suc l - split_of (suc l) s) (lo + split_of (suc l) s) (suc l - split_of (suc l) s) (s - 1)) (body (split_of (suc l) s) lo (split_of (suc l) s) s)
    go (q, is) =
        split_same lo (suc l) (split_of (suc l) s) _ _ _ _ is.some is.less
        (λ g. body-depth l (suc l - split_of (suc l) s) (lo + split_of (suc l) s) (suc l - split_of (suc l) s) (s - 1) (omega (arith, is.some)) (omega arith) (is.slot g) g)
        (λ g. body-depth l (split_of (suc l) s) lo (split_of (suc l) s) s (omega (arith, is.less)) (omega arith) pos g)

-- the steps above the split have a snapshot left if they need one
pub upper_slot : (l s : ℕ) → 0 < s → 2 ≤ l → 2 ≤ l - split_of l s → 0 < s - 1
upper_slot l s pos two more = let found = split_is l s pos two in found.1.slot more
