-- What holds of a schedule as soon as it holds of its parts.
use Rattle.std.proofs.Common.{◌≡◌, ℕ, zero, suc, ◌+◌, ◌-◌, ◌≤◌, ◌<◌, ◌⊎◌, inl, inr, List, [], ◌∷◌, ◌++◌, refl, subst, sym, arith}
use Rattle.std.proofs.lemmas.Bool.Decides.{nat_tests}
use Rattle.adj_revolve.specs.Schedule.{with_snapshot, from_snapshot, body}
use Rattle.adj_revolve.specs.Split.{split_of}
use Rattle.adj_revolve.specs.declared.machine.Action.{Action}
use Rattle.adj_revolve.specs.declared.machine.Action.TheVariants.{Store, Advance, Turn, Keep, Drop}
use Rattle.adj_revolve.proofs.SplitLemmas.{IsSplit, split_is}

-- no step, one step or more
cases_two : (l : ℕ) → (l ≡ 0) ⊎ ((l ≡ 1) ⊎ (2 ≤ l))
cases_two zero = inl refl
cases_two (suc zero) = inr (inl refl)
cases_two (suc (suc l)) = inr (inr (omega arith))

-- the cases of a part
pub with_snapshot-none : (lo l : ℕ) (after : List Action) → l ≡ 0 → with_snapshot lo l after ≡ []
with_snapshot-none lo l after e = rw e refl

pub with_snapshot-one : (lo l : ℕ) (after : List Action) → l ≡ 1 → with_snapshot lo l after ≡ Turn lo ∷ []
with_snapshot-one lo l after e = rw e refl

pub with_snapshot-more : (lo l : ℕ) (after : List Action) → 2 ≤ l → with_snapshot lo l after ≡ Store lo ∷ after
with_snapshot-more lo l after h = grind (arith, nat_tests)

-- the cases of a return to a snapshot
pub from_snapshot-one : (lo k : ℕ) (again : List Action) → k ≡ 1 → from_snapshot lo k again ≡ Drop lo ∷ Turn lo ∷ []
from_snapshot-one lo k again e = rw e refl

pub from_snapshot-more : (lo k : ℕ) (again : List Action) → 2 ≤ k → from_snapshot lo k again ≡ Keep lo ∷ again
from_snapshot-more lo k again h = grind (arith, nat_tests)

-- what holds of a turn, and of a snapshot before what comes after it, holds of a part
pub with_snapshot_has : (P : List Action → Type 0) (lo l : ℕ) (after : List Action) → 1 ≤ l → (l ≡ 1 → P (Turn lo ∷ [])) → (2 ≤ l → P (Store lo ∷ after)) → P (with_snapshot lo l after)
with_snapshot_has P lo l after some one more = go (cases_two l)
  where
    go : (l ≡ 0) ⊎ ((l ≡ 1) ⊎ (2 ≤ l)) → P (with_snapshot lo l after)
    go (inl e) = absurd (omega arith)
    go (inr (inl e)) = subst P (sym (with_snapshot-one lo l after e)) (one e)
    go (inr (inr g)) = subst P (sym (with_snapshot-more lo l after g)) (more g)

-- likewise where work goes on from a snapshot
pub from_snapshot_has : (P : List Action → Type 0) (lo k : ℕ) (again : List Action) → 1 ≤ k → (k ≡ 1 → P (Drop lo ∷ Turn lo ∷ [])) → (2 ≤ k → P (Keep lo ∷ again)) → P (from_snapshot lo k again)
from_snapshot_has P lo k again some one more = go (cases_two k)
  where
    go : (k ≡ 0) ⊎ ((k ≡ 1) ⊎ (2 ≤ k)) → P (from_snapshot lo k again)
    go (inl e) = absurd (omega arith)
    go (inr (inl e)) = subst P (sym (from_snapshot-one lo k again e)) (one e)
    go (inr (inr g)) = subst P (sym (from_snapshot-more lo k again g)) (more g)

-- l steps from lo on that are split at k
abbrev pub split_body : ℕ → ℕ → ℕ → List Action → List Action → List Action
split_body lo l k upper lower = Advance lo (lo + k) ∷ (with_snapshot (lo + k) (l - k) upper ++ from_snapshot lo k lower)

-- P holds of split steps where it holds of both their parts, as far as these have two steps
abbrev pub HoldsOfSplits : (ℕ → ℕ → ℕ → List Action → Type 0) → Type 0
HoldsOfSplits P = (lo l s k q : ℕ) (upper lower : List Action) → 0 < s → IsSplit l s k q → (2 ≤ l - k → P (lo + k) (l - k) (s - 1) upper) → (2 ≤ k → P lo k s lower) → P lo l s (split_body lo l k upper lower)

-- then it holds of every body
pub body_has : (P : ℕ → ℕ → ℕ → List Action → Type 0) → HoldsOfSplits P → (n lo l s : ℕ) → l ≤ n → 0 < s → 2 ≤ l → P lo l s (body n lo l s)
unfolding body
body_has P step zero lo l s h pos two = absurd (omega arith)
body_has P step (suc n) lo l s h pos two = go (split_is l s pos two) (λ lo b t g some more. body_has P step n lo b t g some more)
  where
    go : (q : ℕ) × IsSplit l s (split_of l s) q → ((lo b t : ℕ) → b ≤ n → 0 < t → 2 ≤ b → P lo b t (body n lo b t)) → P lo l s (body (suc n) lo l s)
    go (q, is) rest =
        step lo l s (split_of l s) q _ _ pos is (λ g. rest (lo + split_of l s) (l - split_of l s) (s - 1) (omega (arith, is.some)) (is.slot g) g) (λ g. rest lo (split_of l s) s (omega (arith, is.less)) pos g)
