-- How a play goes on, action by action.
use Rattle.std.proofs.Common.{◌≡◌, ℕ, zero, suc, ◌+◌, ◌≤◌, ◌<◌, inl, inr, Bool, true, false, cond, ◌==◌, List, [], ◌∷◌, length, drop, get_or, refl, sym, ◌∙◌, ap, subst, arith}
use Rattle.std.specs.List.{remove}
use Rattle.std.proofs.Math.Seq.{drop-cons}
use Rattle.std.proofs.Math.ListN.{drop_of_length-le}
use Rattle.std.proofs.lemmas.Bool.Decides.{nat_tests}
use Rattle.adj_revolve.specs.LeastCost.{least_cost}
use Rattle.adj_revolve.specs.Split.{repetitions}
use Rattle.adj_revolve.specs.Machine.{State, IsAmong, without, start_state, Allowed, next_state, action_cost, total_cost, PlaysFrom, Plays, FailsFrom}
use Rattle.adj_revolve.specs.declared.machine.Action.{Action}
use Rattle.adj_revolve.proofs.LeastCostLemmas.{least-le}
use Rattle.adj_revolve.proofs.SplitLemmas.{repetitions_is, repetitions_peak}
use Rattle.adj_revolve.proofs.LowerBound.{plays_covers}

-- The first i actions of the list were allowed, and led to the state, at the cost.
pub record Played (s : ℕ) (start : State) (actions : List Action) (i : ℕ) (now : State) (cost : ℕ) : Type 0 where
  pub plays : PlaysFrom s now (drop i actions) → PlaysFrom s start actions
  pub fails : (j : ℕ) → FailsFrom s now (drop i actions) j → FailsFrom s start actions (i + j)
  pub cost_so_far : cost + total_cost (drop i actions) ≡ total_cost actions

-- one action more
played_more : (s : ℕ) (start : State) (actions : List Action) (i : ℕ) (now : State) (cost : ℕ) (x : Action) → drop i actions ≡ x ∷ drop (i + 1) actions → Allowed s now x → Played s start actions i now cost → Played s start actions (i + 1) (next_state now x) (cost + action_cost x)
played_more s start actions i now cost x e ok p = record {
  plays = λ h. p.plays (subst (λ xs. PlaysFrom s now xs) (sym e) (ok, h));
  fails = λ j h. subst (λ k. FailsFrom s start actions k) (omega arith) (p.fails (suc j) (subst (λ xs. FailsFrom s now xs (suc j)) (sym e) (ok, h)));
  cost_so_far = omega (arith, p.cost_so_far, ap total_cost e);
}

-- a list that plays costs at least the least cost
pub plays_least : (l s : ℕ) (actions : List Action) → 0 < s → Plays l s actions → least_cost l s ≤ total_cost actions
plays_least l s actions pos h =
    least-le l s (repetitions l s) (total_cost actions) pos (repetitions_peak l s (repetitions l s) (repetitions_is l s pos)) (plays_covers l s actions h)

-- a list that fails does not play
pub fails_apart : (s : ℕ) (a : State) (actions : List Action) (i : ℕ) → FailsFrom s a actions i → PlaysFrom s a actions → ⊥
fails_apart s a [] i f h = f.1 h
fails_apart s a (x ∷ xs) zero f h = f h.0
fails_apart s a (x ∷ xs) (suc i) f h = fails_apart s (next_state a x) xs i f.1 h.1

-- it fails at one place
fails-unique : (s : ℕ) (a : State) (actions : List Action) (i j : ℕ) → FailsFrom s a actions i → FailsFrom s a actions j → i ≡ j
fails-unique s a [] i j f g = f.0 ∙ sym g.0
fails-unique s a (x ∷ xs) zero zero f g = refl
fails-unique s a (x ∷ xs) zero (suc j) f g = absurd (f g.0)
fails-unique s a (x ∷ xs) (suc i) zero f g = absurd (g f.0)
fails-unique s a (x ∷ xs) (suc i) (suc j) f g = ap suc (fails-unique s (next_state a x) xs i j f.1 g.1)

-- so failing at i tells where else it fails
pub fails_only : (s : ℕ) (a : State) (actions : List Action) (i : ℕ) → FailsFrom s a actions i → (j : ℕ) → (i ≡ j → FailsFrom s a actions j) × (FailsFrom s a actions j → i ≡ j)
fails_only s a actions i f j = ((λ e. subst (λ k. FailsFrom s a actions k) e f), (λ g. fails-unique s a actions i j f g))

-- where p stands in the list, and what is left without it
pub record StandsAt (p : ℕ) (xs : List ℕ) (i : ℕ) : Type 0 where
  pub within : i < length xs
  pub member : IsAmong p xs
  pub rest : remove xs i ≡ without p xs

-- the first index at which p is read
pub stands_at_index : (p : ℕ) (xs : List ℕ) (i : ℕ) → i < length xs → get_or xs i 0 ≡ p → ((k : ℕ) → k < i → get_or xs k 0 ≡ p → ⊥) → StandsAt p xs i
stands_at_index p [] i h e f = absurd (omega arith)
stands_at_index p (x ∷ xs) zero h e f = record { within = h; member = inl e; rest = go (x == p) refl }
  where
    go : (b : Bool) → (x == p) ≡ b → xs ≡ cond b xs (x ∷ without p xs)
    go true g = refl
    go false g = absurd (grind (arith, nat_tests))
stands_at_index p (x ∷ xs) (suc i) h e f = go (x == p) refl (stands_at_index p xs i (omega arith) e (λ k l. f (suc k) (omega arith)))
  where
    go : (b : Bool) → (x == p) ≡ b → StandsAt p xs i → StandsAt p (x ∷ xs) (suc i)
    go true g rest = absurd (f 0 (omega arith) (grind (arith, nat_tests)))
    go false g rest = record { within = h; member = inr rest.member; rest = ap (λ zs. x ∷ zs) rest.rest ∙ ap (λ b. cond b xs (x ∷ without p xs)) (sym g) }

-- p is read at no index
pub stands_nowhere : (p : ℕ) (xs : List ℕ) → ((k : ℕ) → k < length xs → get_or xs k 0 ≡ p → ⊥) → IsAmong p xs → ⊥
stands_nowhere p [] f i = i
stands_nowhere p (x ∷ xs) f (inl e) = f 0 (omega arith) e
stands_nowhere p (x ∷ xs) f (inr i) = stands_nowhere p xs (λ k l. f (suc k) (omega arith)) i

-- the rest begins with the action at i
at_next : (actions : List Action) (i : ℕ) (d : Action) → i < length actions → drop i actions ≡ get_or actions i d ∷ drop (i + 1) actions
at_next actions i d h = let e : i + 1 ≡ suc i = omega arith in rw e (drop-cons actions i d h)

-- the action at i was allowed and done
pub played_next : (s : ℕ) (start : State) (actions : List Action) (i : ℕ) (now then : State) (cost k : ℕ) (d : Action) → i < length actions → Allowed s now (get_or actions i d) → then ≡ next_state now (get_or actions i d) → k ≡ action_cost (get_or actions i d) → Played s start actions i now cost → Played s start actions (i + 1) then (cost + k)
played_next s start actions i now then cost k d h ok e f p =
    rw (e, f) (played_more s start actions i now cost (get_or actions i d) (at_next actions i d h) ok p)

-- the action at i is not allowed
pub failed_here : (s : ℕ) (start : State) (actions : List Action) (i : ℕ) (now : State) (cost : ℕ) (d : Action) → i < length actions → (Allowed s now (get_or actions i d) → ⊥) → Played s start actions i now cost → FailsFrom s start actions i
failed_here s start actions i now cost d h bad p =
    subst (λ k. FailsFrom s start actions k) (omega arith) (p.fails 0 (subst (λ xs. FailsFrom s now xs 0) (sym (at_next actions i d h)) bad))

-- at the end nothing is left
at_end : (actions : List Action) (i : ℕ) → length actions ≤ i → drop i actions ≡ []
at_end actions i h = drop_of_length-le actions h

-- all actions were done and no step is left
pub played_all : (s : ℕ) (start : State) (actions : List Action) (i : ℕ) (now : State) (cost : ℕ) → length actions ≤ i → now.left ≡ 0 → Played s start actions i now cost → PlaysFrom s start actions × (cost ≡ total_cost actions)
played_all s start actions i now cost h none p = (
  p.plays (subst (λ xs. PlaysFrom s now xs) (sym (at_end actions i h)) none),
  omega (arith, p.cost_so_far, ap total_cost (at_end actions i h)),
)

-- all actions were done and steps are left
pub failed_end : (s : ℕ) (start : State) (actions : List Action) (i : ℕ) (now : State) (cost : ℕ) → length actions ≡ i → (now.left ≡ 0 → ⊥) → Played s start actions i now cost → FailsFrom s start actions (length actions)
failed_end s start actions i now cost h some p =
    subst (λ k. FailsFrom s start actions k) (omega arith) (p.fails 0 (subst (λ xs. FailsFrom s now xs 0) (sym (at_end actions i (omega arith))) (refl, some)))

-- what was paid is at least the least cost
pub played_least : (l s : ℕ) (actions : List Action) (i : ℕ) (now : State) (cost : ℕ) → 0 < s → length actions ≤ i → now.left ≡ 0 → Played s (start_state l) actions i now cost → least_cost l s ≤ cost
played_least l s actions i now cost pos h none p =
    let all = played_all s (start_state l) actions i now cost h none p in
    omega (arith, all.1, plays_least l s actions pos all.0)
