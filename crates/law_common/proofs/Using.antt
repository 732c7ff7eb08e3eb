-- What a unit uses is closed under calls.
use Rattle.std.proofs.Common.{◌≡◌, ◌⊎◌, inl, inr, ℕ, zero, suc, ◌+◌, ◌<◌, ◌≤◌, Bool, true, false, List, [], ◌∷◌, refl, sym, ap, ◌∙◌, subst, arith, if◌then◌else◌}
use Rattle.std.specs.Prelude.{◌||◌, length, Option, Some, None}
use Rattle.adj_tree.specs.Code.{Var, plain, name_eq, Terms, Act, assign, choose, loop, during, call, runtime, Code, stop, step, Procedure}
use Rattle.adj_tree.proofs.Names.{name_refl}
use Rattle.def_meaning.specs.Apart.{has_name}
use Rattle.def_meaning.specs.Written.{find_unit, is_handed_back, handed_back}
use Rattle.def_meaning.specs.Rename.{rename_act, rename}
use Rattle.def_meaning.proofs.Booleans.{or_first, or_second, or_more}
use Rattle.adj_tree.specs.Common.{Shared}
use Rattle.def_common.specs.Blocks.{declares, find_shared, blocks, calls_some_act, calls_some, found_uses, uses_after, uses, chosen, first_declaring}
use Rattle.def_common.specs.Members.{member_slots, found_members, block_members, slots_for}
use Rattle.law_common.specs.Passing.{EachCall', EachCall}
use Rattle.def_common.specs.Slots.{shared_units}
use Rattle.def_names.specs.Standing.{count_of}
use Rattle.law_common.specs.Lowers.{Each, own_dummies, FoundFits, CallChecks}
use Rattle.law_common.proofs.Laying.{slots_append}
use Rattle.law_common.proofs.Keeping.{each_found}

module _ (f g : List ℕ → Bool) (h : (name : List ℕ) → f name ≡ true → g name ≡ true) where
  mutual
    act_more : (a : Act) → calls_some_act f a ≡ true → calls_some_act g a ≡ true
    act_more (assign x subs e) t = t
    act_more (choose c a b) t = or_more (calls_some f a) (calls_some f b) (calls_some g a) (calls_some g b) (calls_more a) (calls_more b) t
    act_more (loop x first last by body m) t = calls_more body t
    act_more (during c body) t = calls_more body t
    act_more (call name args) t = h name t
    act_more (runtime r) t = t

    calls_more : (c : Code) → calls_some f c ≡ true → calls_some g c ≡ true
    calls_more stop t = t
    calls_more (step line a rest) t = or_more (calls_some_act f a) (calls_some f rest) (calls_some_act g a) (calls_some g rest) (act_more a) (calls_more rest) t

-- ---- round by round

abbrev add : Bool → ℕ → ℕ
add true n = suc n
add false n = n

-- how many units are in a set
abbrev count : (List ℕ → Bool) → List Shared → ℕ
count f [] = 0
count f (s ∷ l) = add (f s.unit.name) (count f l)

few : (f : List ℕ → Bool) (l : List Shared) → count f l ≤ length l
few f [] = let e : 0 ≤ 0 = omega arith in e
few f (s ∷ l) = go (f s.unit.name) (few f l)
  where
    go : (b : Bool) → count f l ≤ length l → add b (count f l) ≤ suc (length l)
    go true h = omega arith
    go false h = omega arith

-- a greater set has more units, or the same
more_or_same : (f g : List ℕ → Bool) → ((name : List ℕ) → f name ≡ true → g name ≡ true) → (l : List Shared) → (count f l < count g l) ⊎ (Each (λ s. g s.unit.name ≡ f s.unit.name) l × (count f l ≤ count g l))
more_or_same f g h [] = inr (tt, omega arith)
more_or_same f g h (s ∷ l) = go (f s.unit.name) refl (g s.unit.name) refl (h s.unit.name) (more_or_same f g h l)
  where
    Goal : Bool → Bool → Type 0
    Goal b c = (add b (count f l) < add c (count g l)) ⊎ (Each (λ s. g s.unit.name ≡ f s.unit.name) (s ∷ l) × (add b (count f l) ≤ add c (count g l)))

    go : (b : Bool) → f s.unit.name ≡ b → (c : Bool) → g s.unit.name ≡ c → (f s.unit.name ≡ true → g s.unit.name ≡ true) → (count f l < count g l) ⊎ (Each (λ s. g s.unit.name ≡ f s.unit.name) l × (count f l ≤ count g l)) → Goal b c
    go true e false d k r = absurd (let z : true ≡ false = sym (k e) ∙ d in cc)
    go true e true d k (inl x) = inl (omega arith)
    go true e true d k (inr x) = inr ((d ∙ sym e, x.0), let y = x.1 in omega arith)
    go false e true d k (inl x) = inl (omega arith)
    go false e true d k (inr x) = inl (let y = x.1 in omega arith)
    go false e false d k (inl x) = inl x
    go false e false d k (inr x) = inr ((d ∙ sym e, x.0), x.1)

module _ (ps : List Shared) (b : List ℕ) where
  abbrev after : ℕ → List ℕ → Bool
  after k name = uses_after ps b k name

  abbrev Stays : ℕ → Type 0
  Stays k = (name : List ℕ) → after (suc k) name ≡ after k name

  rises : (k : ℕ) (name : List ℕ) → after k name ≡ true → after (suc k) name ≡ true
  rises zero name h = absurd (let z : false ≡ true = h in cc)
  rises (suc k) name h = go (find_shared ps name) (rises k) h
    where
      go : (o : Option Shared) → ((name : List ℕ) → after k name ≡ true → after (suc k) name ≡ true) → found_uses (λ s. declares b s || calls_some (after k) s.unit.body) o ≡ true → found_uses (λ s. declares b s || calls_some (after (suc k)) s.unit.body) o ≡ true
      go None r e = absurd (let z : false ≡ true = e in cc)
      go (Some s) r e = or_more (declares b s) (calls_some (after k) s.unit.body) (declares b s) (calls_some (after (suc k)) s.unit.body) (λ z. z) (calls_more (after k) (after (suc k)) r s.unit.body) e

  stays_on : (k : ℕ) → Stays k → Stays (suc k)
  stays_on k h name = λ i. found_uses (λ s. declares b s || calls_some (λ n. h n i) s.unit.body) (find_shared ps name)

  stays_long : (j d : ℕ) → Stays j → Stays (d + j)
  stays_long j zero h = let e : j ≡ 0 + j = omega arith in subst Stays e h
  stays_long j (suc d) h = let e : suc (d + j) ≡ suc d + j = omega arith in subst Stays e (stays_on (d + j) (stays_long j d h))

  none_there : (k : ℕ) (name : List ℕ) → find_shared ps name ≡ None → after k name ≡ false
  none_there zero name e = refl
  none_there (suc k) name e = ap (found_uses (λ s. declares b s || calls_some (after k) s.unit.body)) e

  to_stays : (k : ℕ) → Each (λ s. after (suc k) s.unit.name ≡ after k s.unit.name) ps → Stays k
  to_stays k h name = go (find_shared ps name) refl
    where
      go : (o : Option Shared) → find_shared ps name ≡ o → after (suc k) name ≡ after k name
      go None e = none_there (suc k) name e ∙ sym (none_there k name e)
      go (Some s) e = let f = each_found (λ s. after (suc k) s.unit.name ≡ after k s.unit.name) ps h name s e in subst (λ n. after (suc k) n ≡ after k n) f.named f.is

  -- an earlier round that found nothing more
  record Settled (k : ℕ) : Type 0 where
    pub round : ℕ
    pub later : ℕ
    pub is : k ≡ suc (later + round)
    pub stays : Stays round

  settled : (k : ℕ) → Settled k ⊎ (k ≤ count (after k) ps)
  settled zero = inr (omega arith)
  settled (suc k) = go (settled k) (more_or_same (after k) (after (suc k)) (rises k) ps)
    where
      go : Settled k ⊎ (k ≤ count (after k) ps) → (count (after k) ps < count (after (suc k)) ps) ⊎ (Each (λ s. after (suc k) s.unit.name ≡ after k s.unit.name) ps × (count (after k) ps ≤ count (after (suc k)) ps)) → Settled (suc k) ⊎ (suc k ≤ count (after (suc k)) ps)
      go (inl z) r = inl (record { round = z.round; later = suc z.later; is = (let e : k ≡ suc (z.later + z.round) = z.is in let f : suc k ≡ suc (suc z.later + z.round) = omega arith in f); stays = z.stays })
      go (inr z) (inl x) = inr (omega arith)
      go (inr z) (inr x) = inl (record { round = k; later = 0; is = (let f : suc k ≡ suc (0 + k) = omega arith in f); stays = to_stays k x.0 })

  pub all_rounds : Stays (length ps)
  all_rounds = go (settled (suc (length ps))) (few (after (suc (length ps))) ps)
    where
      go : Settled (suc (length ps)) ⊎ (suc (length ps) ≤ count (after (suc (length ps))) ps) → count (after (suc (length ps))) ps ≤ length ps → Stays (length ps)
      go (inl z) l = let e : suc (length ps) ≡ suc (z.later + z.round) = z.is in let f : z.later + z.round ≡ length ps = omega arith in subst Stays f (stays_long z.round z.later z.stays)
      go (inr z) l = absurd (let e : ⊥ = omega arith in e)

-- ---- calls

module _ (ps : List Shared) (name : List ℕ) where
  abbrev UsesLess : List ℕ → Terms → Type 0
  UsesLess g args = (b : List ℕ) → uses ps g b ≡ true → uses ps name b ≡ true

  mutual
    act_less : (a : Act) → ((b : List ℕ) → calls_some_act (λ g. uses ps g b) a ≡ true → uses ps name b ≡ true) → EachCall' UsesLess a
    act_less (assign x subs e) h = tt
    act_less (choose c a d) h = (code_less a (λ b k. h b (or_first (calls_some (λ g. uses ps g b) a) (calls_some (λ g. uses ps g b) d) k)), code_less d (λ b k. h b (or_second (calls_some (λ g. uses ps g b) a) (calls_some (λ g. uses ps g b) d) k)))
    act_less (loop x first last by body m) h = code_less body h
    act_less (during c body) h = code_less body h
    act_less (call g args) h = h
    act_less (runtime r) h = tt

    code_less : (c : Code) → ((b : List ℕ) → calls_some (λ g. uses ps g b) c ≡ true → uses ps name b ≡ true) → EachCall UsesLess c
    code_less stop h = tt
    code_less (step line a rest) h =
        (act_less a (λ b k. h b (or_first (calls_some_act (λ g. uses ps g b) a) (calls_some (λ g. uses ps g b) rest) k)), code_less rest (λ b k. h b (or_second (calls_some_act (λ g. uses ps g b) a) (calls_some (λ g. uses ps g b) rest) k)))

  -- a unit uses each block that a unit uses which it calls
  pub closed : (s : Shared) → find_shared ps name ≡ Some s → EachCall UsesLess s.unit.body
  closed s e = code_less s.unit.body (λ b k. sym (all_rounds ps b name) ∙ ap (found_uses (λ s. declares b s || calls_some (uses_after ps b (length ps)) s.unit.body)) e ∙ or_second (declares b s) (calls_some (uses_after ps b (length ps)) s.unit.body) k)

  fewer_slots : (g : List ℕ) → ((b : List ℕ) → uses ps g b ≡ true → uses ps name b ≡ true) → (bs : List (List ℕ)) (x : List ℕ) → has_name x (member_slots (block_members ps (chosen (uses ps g) bs))) ≡ true → has_name x (member_slots (block_members ps (chosen (uses ps name) bs))) ≡ true
  fewer_slots g h [] x k = k
  fewer_slots g h (b ∷ bs) x k = go (uses ps g b) refl (uses ps name b) refl k (fewer_slots g h bs x)
    where
      rest : Bool
      rest = has_name x (member_slots (block_members ps (chosen (uses ps name) bs)))

      own : Bool
      own = has_name x (member_slots (found_members b (first_declaring b ps)))

      go : (p : Bool) → uses ps g b ≡ p → (q : Bool) → uses ps name b ≡ q → has_name x (member_slots (block_members ps (if p then b ∷ chosen (uses ps g) bs else chosen (uses ps g) bs))) ≡ true → (has_name x (member_slots (block_members ps (chosen (uses ps g) bs))) ≡ true → rest ≡ true) → has_name x (member_slots (block_members ps (if q then b ∷ chosen (uses ps name) bs else chosen (uses ps name) bs))) ≡ true
      go true e false f k r = absurd (let z : true ≡ false = sym (h b e) ∙ f in cc)
      go true e true f k r =
          slots_append x (found_members b (first_declaring b ps)) (block_members ps (chosen (uses ps name) bs))
          ∙ or_more own (has_name x (member_slots (block_members ps (chosen (uses ps g) bs)))) own rest (λ z. z) r (sym (slots_append x (found_members b (first_declaring b ps)) (block_members ps (chosen (uses ps g) bs))) ∙ k)
      go false e true f k r = slots_append x (found_members b (first_declaring b ps)) (block_members ps (chosen (uses ps name) bs)) ∙ or_second own rest (r k)
      go false e false f k r = r k

  -- so the called unit has no slots but the caller's
  pub slots_less : (g : List ℕ) → ((b : List ℕ) → uses ps g b ≡ true → uses ps name b ≡ true) → (x : List ℕ) → has_name x (slots_for ps g) ≡ true → has_name x (slots_for ps name) ≡ true
  slots_less g h x k = fewer_slots g h (blocks ps) x k

-- ---- calls under other names

mutual
  act_renamed : (r : Var → Var) (P : List ℕ → Type 0) (a : Act) → EachCall' (λ g args. P g) a → EachCall' (λ g args. P g) (rename_act r a)
  act_renamed r P (assign x subs e) h = tt
  act_renamed r P (choose c a b) h = (calls_renamed r P a h.0, calls_renamed r P b h.1)
  act_renamed r P (loop x first last by body m) h = calls_renamed r P body h
  act_renamed r P (during c body) h = calls_renamed r P body h
  act_renamed r P (call g args) h = h
  act_renamed r P (runtime c) h = tt

  pub calls_renamed : (r : Var → Var) (P : List ℕ → Type 0) (c : Code) → EachCall (λ g args. P g) c → EachCall (λ g args. P g) (rename r c)
  calls_renamed r P stop h = tt
  calls_renamed r P (step line a rest) h = (act_renamed r P a h.0, calls_renamed r P rest h.1)

mutual
  act_both : (P Q R : List ℕ → Terms → Type 0) → ((g : List ℕ) (args : Terms) → P g args → Q g args → R g args) → (a : Act) → EachCall' P a → EachCall' Q a → EachCall' R a
  act_both P Q R f (assign x subs e) h k = tt
  act_both P Q R f (choose c a b) h k = (calls_both P Q R f a h.0 k.0, calls_both P Q R f b h.1 k.1)
  act_both P Q R f (loop x first last by body m) h k = calls_both P Q R f body h k
  act_both P Q R f (during c body) h k = calls_both P Q R f body h k
  act_both P Q R f (call g args) h k = f g args h k
  act_both P Q R f (runtime c) h k = tt

  pub calls_both : (P Q R : List ℕ → Terms → Type 0) → ((g : List ℕ) (args : Terms) → P g args → Q g args → R g args) → (c : Code) → EachCall P c → EachCall Q c → EachCall R c
  calls_both P Q R f stop h k = tt
  calls_both P Q R f (step line a rest) h k = (act_both P Q R f a h.0 k.0, calls_both P Q R f rest h.1 k.1)

-- a call of a unit that is there has an actual for each of its own dummies, and none of its slots is an actual of a dummy that it writes
abbrev pub FoundMatches : List Shared → List ℕ → Terms → Option Procedure → Type 0
FoundMatches ps name args None = Unit {0}
FoundMatches ps name args (Some u) = (count_of args ≡ length (own_dummies ps name)) × Each (λ x. is_handed_back (plain x) (handed_back (shared_units ps) name) args ≡ false) (slots_for ps name)

abbrev pub CallMatches : List Shared → List ℕ → Terms → Type 0
CallMatches ps name args = FoundMatches ps name args (find_unit (shared_units ps) name)

each_inside : (A B : List ℕ → Type 0) (l : List (List ℕ)) → ((x : List ℕ) → has_name x l ≡ true → B x) → Each A l → Each (λ x. B x × A x) l
each_inside A B [] f h = tt
each_inside A B (x ∷ l) f h = ((f x (or_first (name_eq x x) (has_name x l) (name_refl x)), h.0), each_inside A B l (λ y k. f y (or_second (name_eq y x) (has_name y l) k)) h.1)

-- what matches in a unit that is found fits there
pub calls_fit : (ps : List Shared) (name : List ℕ) (s : Shared) → find_shared ps name ≡ Some s → (r : Var → Var) → EachCall (CallMatches ps) (rename r s.unit.body) → EachCall (CallChecks ps (slots_for ps name)) (rename r s.unit.body)
calls_fit ps name s e r h =
    calls_both (λ g args. (b : List ℕ) → uses ps g b ≡ true → uses ps name b ≡ true) (CallMatches ps) (CallChecks ps (slots_for ps name)) (λ g args u m. go g args u (find_unit (shared_units ps) g) m) (rename r s.unit.body)
    (calls_renamed r (λ g. (b : List ℕ) → uses ps g b ≡ true → uses ps name b ≡ true) s.unit.body (closed ps name s e)) h
  where
    go : (g : List ℕ) (args : Terms) → ((b : List ℕ) → uses ps g b ≡ true → uses ps name b ≡ true) → (o : Option Procedure) → FoundMatches ps g args o → FoundFits ps (slots_for ps name) g args o
    go g args u None m = tt
    go g args u (Some v) m = (m.0, each_inside (λ x. is_handed_back (plain x) (handed_back (shared_units ps) g) args ≡ false) (λ x. has_name x (slots_for ps name) ≡ true) (slots_for ps g) (slots_less ps name g u) m.1)
