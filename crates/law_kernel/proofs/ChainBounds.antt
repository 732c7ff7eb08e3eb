-- Where no calls lead back, no chain is longer than those with as many units as there are.
use Rattle.std.proofs.Common.{◌≡◌, ℕ, zero, suc, ◌+◌, ◌≤◌, ◌⊎◌, inl, inr, Bool, true, false, List, [], ◌∷◌, ◌++◌, length, refl, sym, ap, ◌∙◌, arith, subst}
use Rattle.std.proofs.lemmas.Bool.{or_cases}
use Rattle.std.specs.Prelude.{◌||◌, max, Option, Some, None}
use Rattle.std.specs.List.{list_any}
use Rattle.adj_tree.specs.Code.{name_eq, Mark, unmarked, with_count, count_from, Act, assign, choose, loop, during, call, runtime, Code, stop, step, Procedure}
use Rattle.adj_tree.proofs.Names.{name_refl, name_same}
use Rattle.def_meaning.specs.Written.{find_unit}
use Rattle.def_meaning.proofs.Booleans.{or_false, or_first, or_second}
use Rattle.def_names.specs.Variables.{Name}
use Rattle.def_names.specs.Calls.{leads, with_mark, act_chain, chain, chain_found, chain_within}
use Rattle.def_names.proofs.Variables.{not_true}
use Rattle.law_kernel.proofs.Faultless.{not_back}
use Rattle.law_kernel.proofs.Shortening.{callees_in, callees, on_from, leads_next, without, found_without, none_without, leads_with, fewer, any_join, some_of}

-- ---- longer from the called units, longer in all

-- the name is one of some
abbrev pub IsAmong : Name → List Name → Type 0
IsAmong x xs = list_any (name_eq x) xs ≡ true

-- in the first of two lists
among_first : (x : Name) (xs ys : List Name) → IsAmong x xs → IsAmong x (xs ++ ys)
among_first x xs ys h = any_join (name_eq x) xs ys ∙ or_first (list_any (name_eq x) xs) (list_any (name_eq x) ys) h

-- in the second
among_second : (x : Name) (xs ys : List Name) → IsAmong x ys → IsAmong x (xs ++ ys)
among_second x xs ys h = any_join (name_eq x) xs ys ∙ or_second (list_any (name_eq x) xs) (list_any (name_eq x) ys) h

-- with a mark
marked_more : (m : Mark) (a b : ℕ) → a ≤ b → with_mark m a ≤ with_mark m b
marked_more unmarked a b l = l
marked_more (with_count n) a b l = omega (arith, l)
marked_more (count_from x) a b l = omega (arith, l)

-- a mark makes no chain shorter
marked_grows : (m : Mark) (a : ℕ) → a ≤ with_mark m a
marked_grows unmarked a = omega arith
marked_grows (with_count n) a = omega arith
marked_grows (count_from x) a = omega arith

module _ (f g : Name → ℕ) where
  mutual
    chain_act_more : (a : Act) → ((x : Name) → IsAmong x (callees_in a) → f x ≤ g x) → act_chain f a ≤ act_chain g a
    chain_act_more (assign x subs e) h = omega arith
    chain_act_more (choose c a b) h = let p = chain_more a (λ x k. h x (among_first x (callees a) (callees b) k)) in let q = chain_more b (λ x k. h x (among_second x (callees a) (callees b) k)) in omega (arith, p, q)
    chain_act_more (loop x first last by body m) h = marked_more m (chain f body) (chain g body) (chain_more body h)
    chain_act_more (during c body) h = chain_more body h
    chain_act_more (call name args) h = h name (or_first (name_eq name name) false (name_refl name))
    chain_act_more (runtime r) h = omega arith

    -- of a list
    pub chain_more : (c : Code) → ((x : Name) → IsAmong x (callees c) → f x ≤ g x) → chain f c ≤ chain g c
    chain_more stop h = omega arith
    chain_more (step line a rest) h = let p = chain_act_more a (λ x k. h x (among_first x (callees_in a) (callees rest) k)) in let q = chain_more rest (λ x k. h x (among_second x (callees_in a) (callees rest) k)) in omega (arith, p, q)

-- ---- a program without a unit

-- what none of some names holds
none_of : (f : Name → Bool) (xs : List Name) (x : Name) → list_any f xs ≡ false → IsAmong x xs → f x ≡ false
none_of f [] x h k = absurd cc
none_of f (y ∷ ys) x h k = go (name_eq x y) refl k (none_of f ys x (or_false (f y) (list_any f ys) h).1)
  where
    go : (b : Bool) → name_eq x y ≡ b → (b || list_any (name_eq x) ys) ≡ true → (IsAmong x ys → f x ≡ false) → f x ≡ false
    go true e k ih = ap f (name_same x y e) ∙ (or_false (f y) (list_any f ys) h).0
    go false e k ih = ih k

-- chains that don't lead to a unit are there without it
chain_without : (a : Name) (ps : List Procedure) (k : ℕ) (x : Name) → leads ps k x a ≡ false → chain_within ps k x ≤ chain_within (without a ps) k x
chain_without a ps zero x h = omega arith
chain_without a ps (suc k) x h =
    let p = or_false (name_eq x a) (on_from (λ c. leads ps k c a) (find_unit ps x)) (sym (leads_next ps k x a) ∙ h) in
    subst (λ o. chain_within ps (suc k) x ≤ chain_found (chain_within (without a ps) k) o) (sym (found_without a x ps p.0)) (go (find_unit ps x) p.1 (chain_without a ps k))
  where
    go : (o : Option Procedure) → on_from (λ c. leads ps k c a) o ≡ false → ((c : Name) → leads ps k c a ≡ false → chain_within ps k c ≤ chain_within (without a ps) k c) → chain_found (chain_within ps k) o ≤ chain_found (chain_within (without a ps) k) o
    go None n ih = omega arith
    go (Some u) n ih = let p = chain_more (chain_within ps k) (chain_within (without a ps) k) u.body (λ c m. ih c (none_of (λ c. leads ps k c a) (callees u.body) c n m)) in omega (arith, p)

-- and those that are there without it are there with it
chain_with : (a : Name) (ps : List Procedure) (k : ℕ) (x : Name) → chain_within (without a ps) k x ≤ chain_within ps k x
chain_with a ps zero x = omega arith
chain_with a ps (suc k) x = go (name_eq x a) refl (chain_with a ps k)
  where
    within : (o : Option Procedure) → ((c : Name) → chain_within (without a ps) k c ≤ chain_within ps k c) → chain_found (chain_within (without a ps) k) o ≤ chain_found (chain_within ps k) o
    within None ih = omega arith
    within (Some u) ih = let p = chain_more (chain_within (without a ps) k) (chain_within ps k) u.body (λ c m. ih c) in omega (arith, p)

    go : (b : Bool) → name_eq x a ≡ b → ((c : Name) → chain_within (without a ps) k c ≤ chain_within ps k c) → chain_found (chain_within (without a ps) k) (find_unit (without a ps) x) ≤ chain_found (chain_within ps k) (find_unit ps x)
    go true e ih = subst (λ o. chain_found (chain_within (without a ps) k) o ≤ chain_found (chain_within ps k) (find_unit ps x)) (sym (ap (find_unit (without a ps)) (name_same x a e) ∙ none_without a ps)) (omega arith)
    go false e ih = subst (λ o. chain_found (chain_within (without a ps) k) o ≤ chain_found (chain_within ps k) (find_unit ps x)) (sym (found_without a x ps e)) (within (find_unit ps x) ih)

-- ---- no calls lead back

-- no calls of a unit lead back to it
abbrev pub NoWayBack : List Procedure → Type 0
NoWayBack ps = (x : Name) (u : Procedure) → find_unit ps x ≡ Some u → (c : Name) → list_any (name_eq c) (callees u.body) ≡ true → (k : ℕ) → leads ps k c x ≡ false

-- nor do they without a unit
no_way_without : (a : Name) (ps : List Procedure) → NoWayBack ps → NoWayBack (without a ps)
no_way_without a ps n x u f c m k = go (name_eq x a) refl
  where
    go : (b : Bool) → name_eq x a ≡ b → leads (without a ps) k c x ≡ false
    go true e = absurd (let z : None ≡ Some u = sym (ap (find_unit (without a ps)) (name_same x a e) ∙ none_without a ps) ∙ f in cc)
    go false e = not_back (leads (without a ps) k c x) (leads ps k c x) (leads_with a ps k c x) (n x u (sym (found_without a x ps e) ∙ f) c m k)

-- chains have at most as many units as there are
bounded : (n : ℕ) (ps : List Procedure) → length ps ≤ n → NoWayBack ps → (k : ℕ) (x : Name) → chain_within ps k x ≤ chain_within ps n x
bounded n ps l w zero x = omega arith
bounded zero [] l w (suc k) x = omega arith
bounded zero (u ∷ us) l w (suc k) x = absurd (omega (arith, l))
bounded (suc n) ps l w (suc k) x = go (find_unit ps x) refl (bounded n (without x ps))
  where
    go : (o : Option Procedure) → find_unit ps x ≡ o → (length (without x ps) ≤ n → NoWayBack (without x ps) → (j : ℕ) (c : Name) → chain_within (without x ps) j c ≤ chain_within (without x ps) n c) → chain_found (chain_within ps k) o ≤ chain_found (chain_within ps n) o
    go None f ih = omega arith
    go (Some u) f ih =
        let less = fewer x ps u f in
        let p = chain_more (chain_within ps k) (chain_within ps n) u.body (λ c m.
        let a = chain_without x ps k c (w x u f c m k) in
        let b = ih (omega (arith, less, l)) (no_way_without x ps w) k c in
        let d = chain_with x ps n c in
        omega (arith, a, b, d)) in
        omega (arith, p)

-- so a unit's chain is longer than that of what it calls
pub longest : (ps : List Procedure) → NoWayBack ps → (x : Name) (u : Procedure) → find_unit ps x ≡ Some u → suc (chain (chain_within ps (length ps)) u.body) ≤ chain_within ps (length ps) x
longest ps w x u f = subst (λ o. chain_found (chain_within ps (length ps)) o ≤ chain_within ps (length ps) x) f (bounded (length ps) ps (omega arith) w (suc (length ps)) x)

-- ---- bounded chains, no way back

-- a unit that is called has no longer chain than the list that calls it
mutual
  act_called : (f : Name → ℕ) (a : Act) (x : Name) → IsAmong x (callees_in a) → f x ≤ act_chain f a
  act_called f (assign y subs e) x h = absurd cc
  act_called f (choose c a b) x h = go (or_cases (list_any (name_eq x) (callees a)) (list_any (name_eq x) (callees b)) (sym (any_join (name_eq x) (callees a) (callees b)) ∙ h)) (called f a x) (called f b x)
    where
      go : (IsAmong x (callees a)) ⊎ (IsAmong x (callees b)) → (IsAmong x (callees a) → f x ≤ chain f a) → (IsAmong x (callees b) → f x ≤ chain f b) → f x ≤ max (chain f a) (chain f b)
      go (inl m) p q = let l = p m in omega (arith, l)
      go (inr m) p q = let l = q m in omega (arith, l)
  act_called f (loop y first last by body m) x h = let l = called f body x h in let g = marked_grows m (chain f body) in omega (arith, l, g)
  act_called f (during c body) x h = called f body x h
  act_called f (call name args) x h = go (or_cases (name_eq x name) false h)
    where
      go : (name_eq x name ≡ true) ⊎ (false ≡ true) → f x ≤ f name
      go (inl e) = let same : f x ≡ f name = ap f (name_same x name e) in omega (arith, same)
      go (inr e) = absurd cc
  act_called f (runtime r) x h = absurd cc

  -- of a list
  pub called : (f : Name → ℕ) (c : Code) (x : Name) → IsAmong x (callees c) → f x ≤ chain f c
  called f stop x h = absurd cc
  called f (step line a rest) x h = go (or_cases (list_any (name_eq x) (callees_in a)) (list_any (name_eq x) (callees rest)) (sym (any_join (name_eq x) (callees_in a) (callees rest)) ∙ h)) (act_called f a x) (called f rest x)
    where
      go : (IsAmong x (callees_in a)) ⊎ (IsAmong x (callees rest)) → (IsAmong x (callees_in a) → f x ≤ act_chain f a) → (IsAmong x (callees rest) → f x ≤ chain f rest) → f x ≤ max (act_chain f a) (chain f rest)
      go (inl m) p q = let l = p m in omega (arith, l)
      go (inr m) p q = let l = q m in omega (arith, l)

module _ (ps : List Procedure) where
  -- with more units called within one another chains are no shorter
  longer : (j k : ℕ) (x : Name) → j ≤ k → chain_within ps j x ≤ chain_within ps k x
  longer zero k x l = omega arith
  longer (suc j) zero x l = absurd (omega (arith, l))
  longer (suc j) (suc k) x l = go (find_unit ps x) (λ c. longer j k c (omega (arith, l)))
    where
      go : (o : Option Procedure) → ((c : Name) → chain_within ps j c ≤ chain_within ps k c) → chain_found (chain_within ps j) o ≤ chain_found (chain_within ps k) o
      go None ih = omega arith
      go (Some u) ih = let p = chain_more (chain_within ps j) (chain_within ps k) u.body (λ c m. ih c) in omega (arith, p)

  -- what calls lead to has a chain that is part of a longer one
  leads_chain : (j i : ℕ) (a b : Name) → leads ps j a b ≡ true → chain_within ps i b ≤ chain_within ps (i + j) a
  leads_chain zero i a b h = let same : chain_within ps i a ≡ chain_within ps i b = ap (chain_within ps i) (name_same a b h) in let l = longer i (i + 0) a (omega arith) in omega (arith, same, l)
  leads_chain (suc j) i a b h = go (or_cases (name_eq a b) (on_from (λ c. leads ps j c b) (find_unit ps a)) (sym (leads_next ps j a b) ∙ h)) (find_unit ps a) refl (λ c g. leads_chain j i c b g)
    where
      go : (name_eq a b ≡ true) ⊎ (on_from (λ c. leads ps j c b) (find_unit ps a) ≡ true) → (o : Option Procedure) → find_unit ps a ≡ o → ((c : Name) → leads ps j c b ≡ true → chain_within ps i b ≤ chain_within ps (i + j) c) → chain_within ps i b ≤ chain_within ps (i + suc j) a
      go (inl e) o f ih = let same : chain_within ps i a ≡ chain_within ps i b = ap (chain_within ps i) (name_same a b e) in let l = longer i (i + suc j) a (omega arith) in omega (arith, same, l)
      go (inr e) None f ih = absurd (let z : false ≡ true = sym (ap (on_from (λ c. leads ps j c b)) f) ∙ e in cc)
      go (inr e) (Some u) f ih =
          let s = some_of (λ c. leads ps j c b) (callees u.body) (sym (ap (on_from (λ c. leads ps j c b)) f) ∙ e) in
          let l = ih s.one s.is in
          let m = called (chain_within ps (i + j)) u.body s.one s.among in
          let is : chain_within ps (suc (i + j)) a ≡ suc (chain (chain_within ps (i + j)) u.body) = ap (chain_found (chain_within ps (i + j))) f in
          let n = longer (suc (i + j)) (i + suc j) a (omega arith) in
          omega (arith, l, m, is, n)

  -- how many calls there are in so many rounds
  abbrev rounds : ℕ → ℕ → ℕ
  rounds zero j = 0
  rounds (suc m) j = suc (rounds m j + j)

  -- where calls lead back chains have any length
  around : (x : Name) (u : Procedure) → find_unit ps x ≡ Some u → (c : Name) → IsAmong c (callees u.body) → (j : ℕ) → leads ps j c x ≡ true → (m : ℕ) → m ≤ chain_within ps (rounds m j) x
  around x u f c n j h zero = omega arith
  around x u f c n j h (suc m) =
      let l = around x u f c n j h m in
      let p = leads_chain j (rounds m j) c x h in
      let q = called (chain_within ps (rounds m j + j)) u.body c n in
      let is : chain_within ps (suc (rounds m j + j)) x ≡ suc (chain (chain_within ps (rounds m j + j)) u.body) = ap (chain_found (chain_within ps (rounds m j + j))) f in
      omega (arith, l, p, q, is)

  -- so none lead back where they have a bound
  pub no_way_bounded : (x : Name) (u : Procedure) → find_unit ps x ≡ Some u → (most : ℕ) → ((k : ℕ) → chain_within ps k x ≤ most) → (c : Name) → IsAmong c (callees u.body) → (j : ℕ) → leads ps j c x ≡ false
  no_way_bounded x u f most b c n j = not_true (leads ps j c x) (λ h. let l = around x u f c n j h (suc most) in let m = b (rounds (suc most) j) in absurd (omega (arith, l, m)))
