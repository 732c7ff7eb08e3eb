-- Schedules: their actions one by one, and the words that ask for them.
use Rattle.std.proofs.Common.{◌≡◌, ℕ, zero, suc, ◌+◌, ◌-◌, ◌<◌, ◌≤◌, ◌^◌, ◌⊎◌, inl, inr, Bool, true, false, List, [], ◌∷◌, drop, refl, sym, ap, subst, ◌∙◌, arith, if◌then◌else◌}
use Rattle.std.specs.Prelude.{ℤ, ◌==◌, ◌&&◌, slice_get, Result, Ok, Err, Option, Some, None, IfOk, MatchOption}
use Rattle.std.specs.Result.{result_ok}
use Rattle.adj_revolve.specs.declared.machine.Action.{Action}
use Rattle.adj_revolve.specs.declared.machine.Action.TheVariants.{Store, Advance, Turn, Keep, Drop}
use Rattle.adj_revolve.specs.Machine.{State, IsAmong, without, start_state, Allowed, next_state, PlaysFrom}
use Rattle.adj_revolve.specs.Schedule.{schedule_of}
use Rattle.adj_revolve.proofs.ScheduleLemmas.{schedule_plays}
use Rattle.adj_tree.specs.Code.{Term}
use Rattle.adj_tree.specs.declared.value.Trap.{Trap as CodeTrap}
use Rattle.def_meaning.specs.Trap.{Trap, then_ok}
use Rattle.def_meaning.specs.Store.{Store as Cells}
use Rattle.def_meaning.specs.Value.{Setting, value}
use Rattle.def_meaning.specs.Scene.{Stand, Outcome, with_value}
use Rattle.def_meaning.specs.Runtime.{steps_of, snapshots_of, actions_of, action_at, lower_of, upper_of}
use Rattle.adj_interp.specs.Tallied.{Plan}
use Rattle.adj_interp.specs.Held.{plan_in, action_in}

-- ---- the places of a schedule

-- what is left without a place was there before
among_before : (p q : ℕ) (xs : List ℕ) → IsAmong q (without p xs) → IsAmong q xs
among_before p q [] h = h
among_before p q (x ∷ xs) h = go (x == p) (λ g. among_before p q xs g) h
  where
    go : (b : Bool) → (IsAmong q (without p xs) → IsAmong q xs) → IsAmong q (if b then xs else (x ∷ without p xs)) → (x ≡ q) ⊎ IsAmong q xs
    go true f g = inr g
    go false f (inl g) = inl g
    go false f (inr g) = inr (f g)

-- no place of a state lies above a limit
record IsWithin (most : ℕ) (a : State) : Type 0 where
  pub working : (p : ℕ) → a.working ≡ Some p → p ≤ most
  pub stored : (p : ℕ) → IsAmong p a.stored → p ≤ most
  pub left : a.left ≤ most

-- an action that is allowed has no place above it
within_places : (most slots : ℕ) (a : State) (x : Action) → IsWithin most a → Allowed slots a x → (lower_of x ≤ most) × (upper_of x ≤ most)
within_places most slots a (Store p) w h = (w.working p h.0, w.working p h.0)
within_places most slots a (Advance p q) w h = let l = w.left in let b = h.2 in (w.working p h.0, omega (arith, l, b))
within_places most slots a (Turn p) w h = let l = w.left in let b = h.1 in (w.working p h.0, omega (arith, l, b))
within_places most slots a (Keep p) w h = (w.stored p h, w.stored p h)
within_places most slots a (Drop p) w h = (w.stored p h, w.stored p h)

some_is : (p q : ℕ) → Some p ≡ Some q → p ≡ q
some_is p q e = cc

-- and leads to a state with none
within_next : (most slots : ℕ) (a : State) (x : Action) → IsWithin most a → Allowed slots a x → IsWithin most (next_state a x)
within_next most slots a (Store p) w h = record {
  working = w.working;
  stored = λ q g. stored q g;
  left = w.left;
}
  where
    stored : (q : ℕ) → (p ≡ q) ⊎ IsAmong q a.stored → q ≤ most
    stored q (inl g) = subst (λ z. z ≤ most) g (w.working p h.0)
    stored q (inr g) = w.stored q g
within_next most slots a (Advance p q) w h = record {
  working = λ z g. let l = w.left in let b = h.2 in let s = some_is q z g in omega (arith, l, b, s);
  stored = w.stored;
  left = w.left;
}
within_next most slots a (Turn p) w h = record {
  working = λ z g. absurd cc;
  stored = w.stored;
  left = w.working p h.0;
}
within_next most slots a (Keep p) w h = record {
  working = λ z g. subst (λ y. y ≤ most) (some_is p z g) (w.stored p h);
  stored = w.stored;
  left = w.left;
}
within_next most slots a (Drop p) w h = record {
  working = λ z g. subst (λ y. y ≤ most) (some_is p z g) (w.stored p h);
  stored = λ z g. w.stored z (among_before p z a.stored g);
  left = w.left;
}

-- so no action of a list that plays has one
played_places : (most slots : ℕ) (a : State) (xs : List Action) (i : ℕ) (x : Action) → IsWithin most a → PlaysFrom slots a xs → slice_get xs i ≡ Some x → (lower_of x ≤ most) × (upper_of x ≤ most)
played_places most slots a [] i x w h e = absurd cc
played_places most slots a (y ∷ ys) zero x w h e = subst (λ z. (lower_of z ≤ most) × (upper_of z ≤ most)) (some_action y x e) (within_places most slots a y w h.0)
  where
    some_action : (y x : Action) → Some y ≡ Some x → y ≡ x
    some_action y x e = cc
played_places most slots a (y ∷ ys) (suc i) x w h e = played_places most slots (next_state a y) ys i x (within_next most slots a y w h.0) h.1 e

-- nor one of a schedule
pub schedule_places : (l s i : ℕ) (x : Action) → 0 < s → slice_get (schedule_of 0 l s) i ≡ Some x → (lower_of x ≤ l) × (upper_of x ≤ l)
schedule_places l s i x lt e = played_places l s (start_state l) (schedule_of 0 l s) i x (record { working = λ p g. let z = some_is 0 p g in omega (arith, z); stored = λ p g. absurd g; left = omega arith }) (schedule_plays l s lt) e

-- ---- actions one by one

-- of none, none is left
pub drop_none : {A : Type 0} (i : ℕ) (xs : List A) → xs ≡ [] → drop i xs ≡ []
drop_none i (x ∷ xs) h = absurd cc
drop_none zero [] h = refl
drop_none (suc i) [] h = refl

-- what is left behind some members, behind some more
dropped_on : {A : Type 0} (i j : ℕ) (xs : List A) → drop j (drop i xs) ≡ drop (i + j) xs
dropped_on i j [] = drop_none j (drop i []) (drop_none i [] refl) ∙ sym (drop_none (i + j) [] refl)
dropped_on zero j (x ∷ xs) = let p : j ≡ 0 + j = omega arith in ap (λ z. drop z (x ∷ xs)) p
dropped_on (suc i) j (x ∷ xs) = let p : suc (i + j) ≡ suc i + j = omega arith in dropped_on i j xs ∙ ap (λ z. drop z (x ∷ xs)) p

pub dropped_more : {A : Type 0} (i n : ℕ) (xs rest : List A) → i < n → rest ≡ drop i xs → drop (n - 1 - i) rest ≡ drop (n - 1) xs
dropped_more i n xs rest lt h = let p : i + (n - 1 - i) ≡ n - 1 = omega arith in ap (drop (n - 1 - i)) h ∙ dropped_on i (n - 1 - i) xs ∙ ap (λ z. drop z xs) p

-- what is left behind one member more
pub drop_one : {A : Type 0} (i : ℕ) (xs ys : List A) (x : A) → 0 < i → xs ≡ x ∷ ys → drop i xs ≡ drop (i - 1) ys
drop_one zero xs ys x lt h = absurd (omega arith)
drop_one (suc i) xs ys x lt h = let d : suc i - 1 ≡ i = omega arith in ap (drop (suc i)) h ∙ ap (λ j. drop j ys) (sym d)

-- a plan is its parts
pub same_plan : (p : Plan) (l s : ℕ) → (p.steps == l && p.snapshots == s) ≡ true → p ≡ record { steps = l; snapshots = s }
same_plan p l s h = let a : p.steps ≡ l = grind arith in let b : p.snapshots ≡ s = grind arith in (λ i. record { steps = a i; snapshots = b i })

-- a member and those behind it
pub dropped_at : {A : Type 0} (i : ℕ) (xs ys : List A) (x : A) → drop i xs ≡ x ∷ ys → (slice_get xs i ≡ Some x) × (drop (suc i) xs ≡ ys)
dropped_at zero [] ys x h = absurd cc
dropped_at zero (z ∷ zs) ys x h = (cc, cc)
dropped_at (suc i) [] ys x h = absurd cc
dropped_at (suc i) (z ∷ zs) ys x h = dropped_at i zs ys x h

-- none is left
pub dropped_all : {A : Type 0} (i : ℕ) (xs : List A) → drop i xs ≡ [] → (slice_get xs i ≡ None) × (drop (suc i) xs ≡ [])
dropped_all zero [] h = (refl, refl)
dropped_all zero (z ∷ zs) h = absurd cc
dropped_all (suc i) [] h = (refl, refl)
dropped_all (suc i) (z ∷ zs) h = dropped_all i zs h

-- what was taken is a member, and what is left lies behind it
pub taken : (i : ℕ) (xs now later : List Action) (o : Option Action) → now ≡ drop i xs → MatchOption o ((now ≡ []) × (later ≡ [])) (λ a. now ≡ a ∷ later) → (later ≡ drop (suc i) xs) × (o ≡ slice_get xs i)
taken i xs now later None h g = let d = dropped_all i xs (sym h ∙ g.0) in (g.1 ∙ sym d.1, sym d.0)
taken i xs now later (Some a) h g = let d = dropped_at i xs later a (sym h ∙ g) in (sym d.1, sym d.0)

-- an action that was found has no place above 2 ^ 40
pub found_within : (l k i : ℕ) (o : Option Action) (r : Result Action CodeTrap) → 0 < k → l ≤ 2 ^ 40 → o ≡ slice_get (schedule_of 0 l k) i → o ≡ result_ok r → IfOk r (λ a. (lower_of a ≤ 2 ^ 40) × (upper_of a ≤ 2 ^ 40))
found_within l k i o (Ok a) lt le p q = let b = schedule_places l k i a lt (sym p ∙ q) in let b0 = b.0 in let b1 = b.1 in (omega (arith, b0, le), omega (arith, b1, le))
found_within l k i o (Err t) lt le p q = tt

-- ---- the words that ask for them

-- what goes on from a plan goes on from its parts
chain : {B C : Type 0} (shown : C → ℤ) (a b : Result C Trap) (f g : ℤ → Result ℕ Trap) (line : ℕ) (w : Stand) (go : ℕ → ℕ → Outcome B) →
    with_value (then_ok a (λ u. then_ok b (λ v. then_ok (f (shown u)) (λ x. then_ok (g (shown v)) (λ y. Ok (x, y)))))) line w (λ (p : ℕ × ℕ). go p.0 p.1) ≡ with_value a line w (λ u. with_value b line w (λ v. with_value (f (shown u)) line w (λ x. with_value (g (shown v)) line w (λ y. go x y))))
chain shown (Err t) b f g line w go = refl
chain shown (Ok u) (Err t) f g line w go = refl
chain shown (Ok u) (Ok v) f g line w go = rest (f (shown u)) (g (shown v))
  where
    rest : (x y : Result ℕ Trap) → with_value (then_ok x (λ i. then_ok y (λ j. Ok (i, j)))) line w (λ (p : ℕ × ℕ). go p.0 p.1) ≡ with_value x line w (λ i. with_value y line w (λ j. go i j))
    rest (Ok i) (Ok j) = refl
    rest (Ok i) (Err t) = refl
    rest (Err t) y = refl

pub plan_chain : {B C : Type 0} (n : Setting C) (l m : Term) (s : Cells C) (line : ℕ) (w : Stand) (go : ℕ → ℕ → Outcome B) →
    with_value (plan_in n l m s) line w (λ (p : ℕ × ℕ). go p.0 p.1) ≡ with_value (value n l s) line w (λ u. with_value (value n m s) line w (λ v. with_value (steps_of (n.numbers.shown u)) line w (λ x. with_value (snapshots_of (n.numbers.shown v)) line w (λ y. go x y))))
plan_chain n l m s line w go = chain n.numbers.shown (value n l s) (value n m s) steps_of snapshots_of line w go

-- from a list of actions, too
pub actions_chain : {B : Type 0} (u v : ℤ) (line : ℕ) (w : Stand) (go : List Action → Outcome B) →
    with_value (steps_of u) line w (λ x. with_value (snapshots_of v) line w (λ y. go (schedule_of 0 x y))) ≡ with_value (actions_of u v) line w go
actions_chain u v line w go = rest (steps_of u) (snapshots_of v)
  where
    rest : (x y : Result ℕ Trap) → with_value x line w (λ i. with_value y line w (λ j. go (schedule_of 0 i j))) ≡ with_value (then_ok x (λ i. then_ok y (λ j. Ok (schedule_of 0 i j)))) line w go
    rest (Ok i) (Ok j) = refl
    rest (Ok i) (Err t) = refl
    rest (Err t) y = refl

-- and from how many there are
pub count_chain : {B C : Type 0} (n : Setting C) (l m : Term) (s : Cells C) (line : ℕ) (w : Stand) (go : List Action → Outcome B) →
    with_value (plan_in n l m s) line w (λ (p : ℕ × ℕ). go (schedule_of 0 p.0 p.1)) ≡ with_value (value n l s) line w (λ u. with_value (value n m s) line w (λ v. with_value (actions_of (n.numbers.shown u) (n.numbers.shown v)) line w go))
count_chain n l m s line w go = plan_chain n l m s line w (λ x y. go (schedule_of 0 x y)) ∙ (λ i. with_value (value n l s) line w (λ u. with_value (value n m s) line w (λ v. actions_chain (n.numbers.shown u) (n.numbers.shown v) line w go i)))

-- an action that was looked up
pub looked_up : (u v w : ℤ) (l k : ℕ) (r : Result Action Trap) → Ok l ≡ steps_of u → Ok k ≡ snapshots_of v → r ≡ action_at w (schedule_of 0 l k) → r ≡ then_ok (actions_of u v) (λ list. action_at w list)
looked_up u v w l k r p q h = h ∙ (λ i. then_ok (then_ok (p i) (λ steps. then_ok (q i) (λ snapshots. Ok (schedule_of 0 steps snapshots)))) (λ list. action_at w list))

pub action_chain : {B C : Type 0} (n : Setting C) (l m e : Term) (s : Cells C) (line : ℕ) (w : Stand) (go : Action → Outcome B) →
    with_value (action_in n l m e s) line w go ≡ with_value (value n l s) line w (λ u. with_value (value n m s) line w (λ v. with_value (value n e s) line w (λ z. with_value (actions_of (n.numbers.shown u) (n.numbers.shown v)) line w (λ list. with_value (action_at (n.numbers.shown z) list) line w go))))
action_chain {C = C} n l m e s line w go = first (value n l s)
  where
    last : (z : ℤ) (r : Result (List Action) Trap) → with_value (then_ok r (λ list. action_at z list)) line w go ≡ with_value r line w (λ list. with_value (action_at z list) line w go)
    last z (Ok list) = refl
    last z (Err t) = refl

    third : (u v : C) (c : Result C Trap) → with_value (then_ok c (λ z. then_ok (actions_of (n.numbers.shown u) (n.numbers.shown v)) (λ list. action_at (n.numbers.shown z) list))) line w go ≡ with_value c line w (λ z. with_value (actions_of (n.numbers.shown u) (n.numbers.shown v)) line w (λ list. with_value (action_at (n.numbers.shown z) list) line w go))
    third u v (Ok z) = last (n.numbers.shown z) (actions_of (n.numbers.shown u) (n.numbers.shown v))
    third u v (Err t) = refl

    second : (u : C) (b : Result C Trap) → with_value (then_ok b (λ v. then_ok (value n e s) (λ z. then_ok (actions_of (n.numbers.shown u) (n.numbers.shown v)) (λ list. action_at (n.numbers.shown z) list)))) line w go ≡ with_value b line w (λ v. with_value (value n e s) line w (λ z. with_value (actions_of (n.numbers.shown u) (n.numbers.shown v)) line w (λ list. with_value (action_at (n.numbers.shown z) list) line w go)))
    second u (Ok v) = third u v (value n e s)
    second u (Err t) = refl

    first : (a : Result C Trap) → with_value (then_ok a (λ u. then_ok (value n m s) (λ v. then_ok (value n e s) (λ z. then_ok (actions_of (n.numbers.shown u) (n.numbers.shown v)) (λ list. action_at (n.numbers.shown z) list))))) line w go ≡ with_value a line w (λ u. with_value (value n m s) line w (λ v. with_value (value n e s) line w (λ z. with_value (actions_of (n.numbers.shown u) (n.numbers.shown v)) line w (λ list. with_value (action_at (n.numbers.shown z) list) line w go))))
    first (Ok u) = second u (value n m s)
    first (Err t) = refl
