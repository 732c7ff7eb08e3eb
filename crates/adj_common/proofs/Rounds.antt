-- A round more than there are units finds no unit more that uses a block.
use Rattle.std.proofs.Common.{◌≡◌, ◌⊎◌, inl, inr, ℕ, zero, suc, ◌+◌, ◌<◌, ◌≤◌, Bool, true, false, List, [], ◌∷◌, refl, sym, ap, ◌∙◌, subst, arith, if◌then◌else◌}
use Rattle.std.specs.Prelude.{◌||◌, length, Option, Some, None}
use Rattle.adj_tree.specs.Code.{name_eq, Act, assign, choose, loop, during, call, runtime, Code, stop, step}
use Rattle.adj_tree.proofs.Names.{name_same}
use Rattle.def_meaning.proofs.Booleans.{or_more}
use Rattle.adj_tree.specs.Common.{Shared}
use Rattle.def_common.specs.Blocks.{declares, find_shared, calls_some_act, calls_some, found_uses, uses_after}

abbrev Each : (Shared → Type 0) → List Shared → Type 0
Each P [] = Unit {0}
Each P (s ∷ l) = P s × Each P l

each_found : (P : List ℕ → Type 0) (ps : List Shared) → Each (λ s. P s.unit.name) ps → (name : List ℕ) (s : Shared) → find_shared ps name ≡ Some s → P name
each_found P [] h name s e = cc
each_found P (p ∷ ps) h name s e = go (name_eq p.unit.name name) refl e (each_found P ps h.1 name s)
  where
    go : (b : Bool) → name_eq p.unit.name name ≡ b → (if b then Some p else find_shared ps name) ≡ Some s → (find_shared ps name ≡ Some s → P name) → P name
    go true k e r = subst P (name_same p.unit.name name k) h.0
    go false k e r = r e

module _ (f g : List ℕ → Bool) (h : (name : List ℕ) → f name ≡ true → g name ≡ true) where
  mutual
    act_more : (a : Act) → calls_some_act f a ≡ true → calls_some_act g a ≡ true
    act_more (assign x subs e) t = t
    act_more (choose c a b) t = or_more (calls_some f a) (calls_some f b) (calls_some g a) (calls_some g b) (calls_more a) (calls_more b) t
    act_more (loop x first last by body m) t = calls_more body t
    act_more (during c body) t = calls_more body t
    act_more (call name args) t = h name t
    act_more (runtime r) t = t

    calls_more : (c : Code) → calls_some f c ≡ true → calls_some g c ≡ true
    calls_more stop t = t
    calls_more (step line a rest) t = or_more (calls_some_act f a) (calls_some f rest) (calls_some_act g a) (calls_some g rest) (act_more a) (calls_more rest) t

-- ---- round by round

abbrev add : Bool → ℕ → ℕ
add true n = suc n
add false n = n

-- how many units are in a set
abbrev count : (List ℕ → Bool) → List Shared → ℕ
count f [] = 0
count f (s ∷ l) = add (f s.unit.name) (count f l)

few : (f : List ℕ → Bool) (l : List Shared) → count f l ≤ length l
few f [] = let e : 0 ≤ 0 = omega arith in e
few f (s ∷ l) = go (f s.unit.name) (few f l)
  where
    go : (b : Bool) → count f l ≤ length l → add b (count f l) ≤ suc (length l)
    go true h = omega arith
    go false h = omega arith

-- a greater set has more units, or the same
more_or_same : (f g : List ℕ → Bool) → ((name : List ℕ) → f name ≡ true → g name ≡ true) → (l : List Shared) → (count f l < count g l) ⊎ (Each (λ s. g s.unit.name ≡ f s.unit.name) l × (count f l ≤ count g l))
more_or_same f g h [] = inr (tt, omega arith)
more_or_same f g h (s ∷ l) = go (f s.unit.name) refl (g s.unit.name) refl (h s.unit.name) (more_or_same f g h l)
  where
    Goal : Bool → Bool → Type 0
    Goal b c = (add b (count f l) < add c (count g l)) ⊎ (Each (λ s. g s.unit.name ≡ f s.unit.name) (s ∷ l) × (add b (count f l) ≤ add c (count g l)))

    go : (b : Bool) → f s.unit.name ≡ b → (c : Bool) → g s.unit.name ≡ c → (f s.unit.name ≡ true → g s.unit.name ≡ true) → (count f l < count g l) ⊎ (Each (λ s. g s.unit.name ≡ f s.unit.name) l × (count f l ≤ count g l)) → Goal b c
    go true e false d k r = absurd (let z : true ≡ false = sym (k e) ∙ d in cc)
    go true e true d k (inl x) = inl (omega arith)
    go true e true d k (inr x) = inr ((d ∙ sym e, x.0), let y = x.1 in omega arith)
    go false e true d k (inl x) = inl (omega arith)
    go false e true d k (inr x) = inl (let y = x.1 in omega arith)
    go false e false d k (inl x) = inl x
    go false e false d k (inr x) = inr ((d ∙ sym e, x.0), x.1)

module _ (ps : List Shared) (b : List ℕ) where
  abbrev after : ℕ → List ℕ → Bool
  after k name = uses_after ps b k name

  abbrev Stays : ℕ → Type 0
  Stays k = (name : List ℕ) → after (suc k) name ≡ after k name

  rises : (k : ℕ) (name : List ℕ) → after k name ≡ true → after (suc k) name ≡ true
  rises zero name h = absurd (let z : false ≡ true = h in cc)
  rises (suc k) name h = go (find_shared ps name) (rises k) h
    where
      go : (o : Option Shared) → ((name : List ℕ) → after k name ≡ true → after (suc k) name ≡ true) → found_uses (λ s. declares b s || calls_some (after k) s.unit.body) o ≡ true → found_uses (λ s. declares b s || calls_some (after (suc k)) s.unit.body) o ≡ true
      go None r e = absurd (let z : false ≡ true = e in cc)
      go (Some s) r e = or_more (declares b s) (calls_some (after k) s.unit.body) (declares b s) (calls_some (after (suc k)) s.unit.body) (λ z. z) (calls_more (after k) (after (suc k)) r s.unit.body) e

  stays_on : (k : ℕ) → Stays k → Stays (suc k)
  stays_on k h name = λ i. found_uses (λ s. declares b s || calls_some (λ n. h n i) s.unit.body) (find_shared ps name)

  stays_long : (j d : ℕ) → Stays j → Stays (d + j)
  stays_long j zero h = let e : j ≡ 0 + j = omega arith in subst Stays e h
  stays_long j (suc d) h = let e : suc (d + j) ≡ suc d + j = omega arith in subst Stays e (stays_on (d + j) (stays_long j d h))

  none_there : (k : ℕ) (name : List ℕ) → find_shared ps name ≡ None → after k name ≡ false
  none_there zero name e = refl
  none_there (suc k) name e = ap (found_uses (λ s. declares b s || calls_some (after k) s.unit.body)) e

  to_stays : (k : ℕ) → Each (λ s. after (suc k) s.unit.name ≡ after k s.unit.name) ps → Stays k
  to_stays k h name = go (find_shared ps name) refl
    where
      go : (o : Option Shared) → find_shared ps name ≡ o → after (suc k) name ≡ after k name
      go None e = none_there (suc k) name e ∙ sym (none_there k name e)
      go (Some s) e = let f : after (suc k) name ≡ after k name = each_found (λ n. after (suc k) n ≡ after k n) ps h name s e in f

  -- an earlier round that found nothing more
  record Settled (k : ℕ) : Type 0 where
    pub round : ℕ
    pub later : ℕ
    pub is : k ≡ suc (later + round)
    pub stays : Stays round

  settled : (k : ℕ) → Settled k ⊎ (k ≤ count (after k) ps)
  settled zero = inr (omega arith)
  settled (suc k) = go (settled k) (more_or_same (after k) (after (suc k)) (rises k) ps)
    where
      go : Settled k ⊎ (k ≤ count (after k) ps) → (count (after k) ps < count (after (suc k)) ps) ⊎ (Each (λ s. after (suc k) s.unit.name ≡ after k s.unit.name) ps × (count (after k) ps ≤ count (after (suc k)) ps)) → Settled (suc k) ⊎ (suc k ≤ count (after (suc k)) ps)
      go (inl z) r = inl (record { round = z.round; later = suc z.later; is = (let e : k ≡ suc (z.later + z.round) = z.is in let f : suc k ≡ suc (suc z.later + z.round) = omega arith in f); stays = z.stays })
      go (inr z) (inl x) = inr (omega arith)
      go (inr z) (inr x) = inl (record { round = k; later = 0; is = (let f : suc k ≡ suc (0 + k) = omega arith in f); stays = to_stays k x.0 })

  pub all_rounds : Stays (length ps)
  all_rounds = go (settled (suc (length ps))) (few (after (suc (length ps))) ps)
    where
      go : Settled (suc (length ps)) ⊎ (suc (length ps) ≤ count (after (suc (length ps))) ps) → count (after (suc (length ps))) ps ≤ length ps → Stays (length ps)
      go (inl z) l = let e : suc (length ps) ≡ suc (z.later + z.round) = z.is in let f : z.later + z.round ≡ length ps = omega arith in subst Stays f (stays_long z.round z.later z.stays)
      go (inr z) l = absurd (let e : ⊥ = omega arith in e)
