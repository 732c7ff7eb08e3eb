-- No list of actions that plays costs less than the bounds, by a potential over chains.
use Rattle.std.proofs.Common.{◌≡◌, ◌≢◌, ℕ, zero, suc, ◌+◌, ◌*◌, ◌-◌, ◌≤◌, ◌<◌, ◌⊎◌, inl, inr, Bool, true, false, cond, ◌==◌, List, [], ◌∷◌, length, Some, sym, subst, arith}
use Rattle.std.proofs.lemmas.Bool.{cases_order, cases_lt}
use Rattle.adj_revolve.specs.Machine.{State, IsAmong, without, start_state, next_state, total_cost, PlaysFrom, Plays}
use Rattle.adj_revolve.specs.declared.machine.Action.{Action}
use Rattle.adj_revolve.specs.declared.machine.Action.TheVariants.{Store, Advance, Turn, Keep, Drop}
use Rattle.adj_revolve.proofs.BinomialLemmas.{spared, spared-zero_slots, spared-step, spared-raise}

-- a cost of v is no less than any bound on b steps with t slots
abbrev pub Covers : ℕ → ℕ → ℕ → Type 0
Covers b t v = (r : ℕ) → r * b ≤ v + spared t r

-- a first part of a steps, after which b are left with one slot fewer
covers_split : (a b t u w : ℕ) → Covers a (suc t) u → Covers b t w → Covers (a + b) (suc t) (a + u + w)
covers_split a b t u w ca cb zero = omega arith
covers_split a b t u w ca cb (suc r) = omega (arith, ca r, cb (suc r), spared-step t r)

-- a slot more needs no greater cost
covers_raise : (b t v : ℕ) → Covers b t v → Covers b (suc t) v
covers_raise b t v c r = omega (arith, c r, spared-raise t r)

-- one step needs none
covers_one : (t : ℕ) → Covers 1 t 0
covers_one zero r = omega (arith, spared-zero_slots r)
covers_one (suc t) r = covers_raise 1 t 0 (covers_one t) r

-- A chain of parts from place m up to end, with t slots for the first, whose value is at most v.
-- Each part has a source, at or below its first place, and the sources increase; x is the first.
data Chain (S : ℕ → Type 0) (end : ℕ) : ℕ → ℕ → ℕ → ℕ → Type 0 where
  final : {t x m v : ℕ} (b u : ℕ) → S x → x ≤ m → m < end → m + b ≡ end → Covers b t u → u + m ≤ v + x → Chain S end t x m v
  part : {t x m v : ℕ} (a u y n w : ℕ) → S x → x ≤ m → n ≡ m + a → Covers a (suc t) u → x < y → Chain S end t y n w → u + m + w ≤ v + x → Chain S end (suc t) x m v

-- fewer sources, and a greater value
chain_weaken : (S R : ℕ → Type 0) (end : ℕ) {t x m v : ℕ} → Chain S end t x m v → (v' : ℕ) → ((y : ℕ) → x ≤ y → S y → R y) → v ≤ v' → Chain R end t x m v'
chain_weaken S R end {x = x} (final b u s le lt e c h) v' f g = final b u (f x (omega arith) s) le lt e c (omega arith)
chain_weaken S R end {x = x} (part a u y n w s le e c lt ch h) v' f g =
    part a u y n w (f x (omega arith) s) le e c lt (chain_weaken S R end ch w (λ z k. f z (omega arith)) (omega arith)) (omega arith)

-- one slot more
chain_raise : (S : ℕ → Type 0) (end : ℕ) {t x m v : ℕ} → Chain S end t x m v → Chain S end (suc t) x m v
chain_raise S end {t = t} (final b u s le lt e c h) = final b u s le lt e (covers_raise b t u c) h
chain_raise S end (part {t = t} a u y n w s le e c lt ch h) =
    part a u y n w s le e (covers_raise a (suc t) u c) lt (chain_raise S end ch) h

-- An advance from p to q = p + d loses the source q; p stands in for it.
module _ (S R : ℕ → Type 0) (end p q d : ℕ) (others : (y : ℕ) → y ≢ q → R y → S y) (here : S p) (apart : q ≡ p + d) (forward : p < q) where
  -- where all sources lie above q, q is none of them
  chain_above : {t x m v : ℕ} → Chain R end t x m v → q < x → Chain S end t x m v
  chain_above {v = v} ch h = chain_weaken R S end ch v (λ y k. others y (omega arith)) (omega arith)

  -- where q is the first source
  chain_back_head : {t m v : ℕ} → Chain R end t q m v → Chain S end t p m (v + d)
  chain_back_head (final b u s le lt e c h) = final b u here (omega arith) lt e c (omega arith)
  chain_back_head (part a u y n w s le e c lt ch h) =
      part a u y n w here (omega arith) e c (omega arith) (chain_above ch lt) (omega arith)

  -- where the part before q has a source from p on, it takes in the part of q
  chain_back_merge : {t x m n w : ℕ} (v a u : ℕ) → S x → x ≤ m → p ≤ x → x < q → n ≡ m + a → Covers a (suc t) u → u + m + w ≤ v + x → Chain R end t q n w → Chain S end (suc t) x m (v + d)
  chain_back_merge {t = t} v a u s le from lt e c h (final b u' r le' lt' e' c' h') =
      final (a + b) (a + u + u') s le (omega arith) (omega arith) (covers_split a b t u u' c c') (omega arith)
  chain_back_merge v a u s le from lt e c h (part {t = t} a' u' y n' w' r le' e' c' lt' ch h') =
      part (a + a') (a + u + u') y n' w' s le (omega arith) (covers_split a a' (suc t) u u' c c') (omega arith) (chain_raise S end (chain_above ch lt')) (omega arith)

  -- so the chain goes back over the advance, at its cost
  chain_back : {t x m v : ℕ} → Chain R end t x m v → x < q → Chain S end t x m (v + d)
  chain_back (final b u s le lt e c h) below = final b u (others _ (omega arith) s) le lt e c (omega arith)
  chain_back {x = x} {m = m} {v = v} (part {t = t} a u y n w s le e c lt ch h) below = back_from (λ k. chain_back ch k) (cases_order y q)
    where
      src : S x
      src = others x (omega arith) s

      at_q : y ≡ q → (x < p) ⊎ (p ≤ x) → Chain S end (suc t) x m (v + d)
      at_q same (inl k) = part a u p n (w + d) src le e c k (chain_back_head (subst (λ z. Chain R end t z n w) same ch)) (omega arith)
      at_q same (inr k) = chain_back_merge v a u src le k below e c h (subst (λ z. Chain R end t z n w) same ch)

      back_from : (y < q → Chain S end t y n (w + d)) → (y ≡ q) ⊎ ((y < q) ⊎ (q < y)) → Chain S end (suc t) x m (v + d)
      back_from again (inl same) = at_q same (cases_lt x p)
      back_from again (inr (inl k)) = part a u y n (w + d) src le e c lt (again k) (omega arith)
      back_from again (inr (inr k)) = part a u y n w src le e c lt (chain_above ch k) (omega arith)

-- how many members are at least x
at_least : ℕ → List ℕ → ℕ
at_least x [] = 0
at_least x (y ∷ ys) = (1 - (x - y)) + at_least x ys

-- no more than all
at_least-length : (x : ℕ) (xs : List ℕ) → at_least x xs ≤ length xs
unfolding at_least
at_least-length x [] = omega arith
at_least-length x (y ∷ ys) = omega (arith, at_least-length x ys)

-- fewer are at least a greater x
at_least-fall : (x y : ℕ) (xs : List ℕ) → x ≤ y → at_least y xs ≤ at_least x xs
unfolding at_least
at_least-fall x y [] h = omega arith
at_least-fall x y (z ∷ zs) h = omega (arith, at_least-fall x y zs h)

-- and fewer still past a member
at_least-member : (x y : ℕ) (xs : List ℕ) → IsAmong x xs → x < y → at_least y xs + 1 ≤ at_least x xs
unfolding at_least
at_least-member x y [] i h = elim i [ ]
at_least-member x y (z ∷ zs) (inl e) h = omega (arith, at_least-fall x y zs (omega arith))
at_least-member x y (z ∷ zs) (inr i) h = omega (arith, at_least-member x y zs i h)

-- A turn of p: the sources of a chain up to p are stored places, so a slot is left for the part of p alone.
module _ (S : ℕ → Type 0) (xs : List ℕ) (p end : ℕ) (keep : (y : ℕ) → IsAmong y xs → S y) (here : S p) (next : end ≡ p + 1) where
  -- the chain up to p goes on to the end
  chain_turn : (t : ℕ) {x m v : ℕ} → Chain (λ y. IsAmong y xs) p t x m v → at_least x xs ≤ t → Chain S end t x m v
  chain_turn zero {x = x} (final b u s le lt e c h) few = absurd (omega (arith, at_least-member x (suc x) xs s (omega arith)))
  chain_turn (suc t) {x = x} (final b u s le lt e c h) few =
      part b u p p 0 (keep x s) le (omega arith) c (omega arith) (final 1 0 here (omega arith) (omega arith) (omega arith) (covers_one t) (omega arith)) (omega arith)
  chain_turn (suc t) {x = x} (part a u y n w s le e c lt ch h) few =
      part a u y n w (keep x s) le e c lt (chain_turn t ch (omega (arith, at_least-member x y xs s lt))) h

-- the places from which the machine may go on
abbrev Source : State → ℕ → Type 0
Source a y = (a.working ≡ Some y) ⊎ IsAmong y a.stored

-- what is left without p was there
in_without : (p y : ℕ) (xs : List ℕ) → IsAmong y (without p xs) → IsAmong y xs
in_without p y [] i = i
in_without p y (x ∷ xs) i = go (x == p) (λ j. in_without p y xs j) i
  where
    go : (b : Bool) → (IsAmong y (without p xs) → IsAmong y xs) → IsAmong y (cond b xs (x ∷ without p xs)) → IsAmong y (x ∷ xs)
    go false rest (inl e) = inl e
    go false rest (inr j) = inr (rest j)
    go true rest j = inr j

-- and is no more
length-without : (p : ℕ) (xs : List ℕ) → length (without p xs) ≤ length xs
length-without p [] = omega arith
length-without p (x ∷ xs) = go (x == p) (length-without p xs)
  where
    go : (b : Bool) → length (without p xs) ≤ length xs → length (cond b xs (x ∷ without p xs)) ≤ length (x ∷ xs)
    go true h = omega arith
    go false h = omega arith

-- Where the rest of the actions ends the run, some chain has a value of at most their cost.
chain_of : (s : ℕ) (actions : List Action) (a : State) → PlaysFrom s a actions → length a.stored ≤ s → 0 < a.left → Chain (Source a) a.left s 0 0 (total_cost actions)
chain_of s [] a h room some = absurd (omega arith)
chain_of s (Store p ∷ rest) a (ok, h) room some =
    chain_weaken (Source (next_state a (Store p))) (Source a) a.left (chain_of s rest (next_state a (Store p)) h (omega arith) some) _ (λ y k src. from_stored y src) (omega arith)
  where
    from_stored : (y : ℕ) → Source (next_state a (Store p)) y → Source a y
    from_stored y (inl e) = inl e
    from_stored y (inr (inl e)) = inl (cc (ok.0, e))
    from_stored y (inr (inr i)) = inr i
chain_of s (Advance p q ∷ rest) a (ok, h) room some =
    chain_weaken (Source a) (Source a) a.left
    (chain_back (Source a) (Source (next_state a (Advance p q))) a.left p q (q - p) others (inl ok.0) (omega (arith, ok.1)) ok.1
    (chain_of s rest (next_state a (Advance p q)) h room some) (omega (arith, ok.1)))
    _ (λ y k src. src) (omega arith)
  where
    others : (y : ℕ) → y ≢ q → Source (next_state a (Advance p q)) y → Source a y
    others y other (inl e) = absurd (other (cc e))
    others y other (inr i) = inr i
chain_of s (Turn p ∷ rest) a (ok, h) room some = turned (cases_lt 0 p) (λ k. chain_of s rest (next_state a (Turn p)) h room k)
  where
    from_none : (y : ℕ) → Source (next_state a (Turn p)) y → IsAmong y a.stored
    from_none y (inl e) = absurd (cc e)
    from_none y (inr i) = i

    turned : (0 < p) ⊎ (p ≤ 0) → (0 < p → Chain (Source (next_state a (Turn p))) p s 0 0 (total_cost rest)) → Chain (Source a) a.left s 0 0 (total_cost (Turn p ∷ rest))
    turned (inl k) ch =
        chain_turn (Source a) a.stored p a.left (λ y i. inr i) (inl ok.0) (sym ok.1) s
        (chain_weaken (Source (next_state a (Turn p))) (λ y. IsAmong y a.stored) p (ch k) _ (λ y l src. from_none y src) (omega arith))
        (omega (arith, at_least-length 0 a.stored))
    turned (inr k) ch =
        let zero-is : p ≡ 0 = omega arith in
        final 1 0 (inl (cc (ok.0, zero-is))) (omega arith) some (omega (arith, ok.1)) (covers_one s) (omega arith)
chain_of s (Keep p ∷ rest) a (ok, h) room some =
    chain_weaken (Source (next_state a (Keep p))) (Source a) a.left (chain_of s rest (next_state a (Keep p)) h room some) _ (λ y k src. from_kept y src) (omega arith)
  where
    from_kept : (y : ℕ) → Source (next_state a (Keep p)) y → Source a y
    from_kept y (inl e) = inr (let e' : p ≡ y = cc e in subst (λ z. IsAmong z a.stored) e' ok)
    from_kept y (inr i) = inr i
chain_of s (Drop p ∷ rest) a (ok, h) room some =
    chain_weaken (Source (next_state a (Drop p))) (Source a) a.left (chain_of s rest (next_state a (Drop p)) h (omega (arith, length-without p a.stored)) some) _ (λ y k src. from_dropped y src) (omega arith)
  where
    from_dropped : (y : ℕ) → Source (next_state a (Drop p)) y → Source a y
    from_dropped y (inl e) = inr (let e' : p ≡ y = cc e in subst (λ z. IsAmong z a.stored) e' ok)
    from_dropped y (inr i) = inr (in_without p y a.stored i)

-- the first source of a chain is a source
chain_source : (S : ℕ → Type 0) (end : ℕ) {t x m v : ℕ} → Chain S end t x m v → S x
chain_source S end (final b u s le lt e c h) = s
chain_source S end (part a u y n w s le e c lt ch h) = s

-- at the start the one source is 0
start_source : (l y : ℕ) → Source (start_state l) y → y ≡ 0
start_source l y (inl e) = cc e
start_source l y (inr i) = elim i [ ]

-- so a chain there has one part, of all steps
start_covers : (l s : ℕ) {v : ℕ} → Chain (Source (start_state l)) l s 0 0 v → Covers l s v
start_covers l s (final b u src le lt e c h) r =
    let e' : b ≡ l = omega arith in
    omega (arith, subst (λ z. Covers z s u) e' c r)
start_covers l _ (part a u y n w src le e c lt ch h) r =
    absurd (omega (arith, start_source l y (chain_source (Source (start_state l)) l ch)))

-- A list that plays costs no less than any of the bounds.
pub plays_covers : (l s : ℕ) (actions : List Action) → Plays l s actions → Covers l s (total_cost actions)
plays_covers zero s actions h r = omega arith
plays_covers (suc l) s actions h r = start_covers (suc l) s (chain_of s actions (start_state (suc l)) h (omega arith) (omega arith)) r
