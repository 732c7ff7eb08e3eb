-- The first of some faults: it is one of them, none is before it, and it doesn't depend on how they are listed.
use Rattle.std.proofs.Common.{map, ◌≡◌, inl, inr, ℕ, ◌++◌, ◌+◌, ◌<◌, length, drop, get_or, Bool, true, false, List, [], ◌∷◌, refl, ap, sym, ◌∙◌, subst, arith, Option, Some, None, if◌then◌else◌}
use Rattle.std.specs.List.{flat_map}
use Rattle.std.proofs.lemmas.List.{drop_more}
use Rattle.std.proofs.lemmas.Bool.Decides.{nat_tests}
use Rattle.adj_tree.specs.declared.fault.Refusal.{Refusal}
use Rattle.def_names.specs.Fault.{is_before, earlier, sooner, first_of}
use Rattle.def_names.specs.Laws.{IsIn}

-- nothing is before itself
before_itself : (r : Refusal) → is_before r r ≡ false
before_itself r = grind (arith, nat_tests)

-- of three, where neither of the later two is before the one ahead of it
before_none : (r s t : Refusal) → is_before s r ≡ false → is_before t s ≡ false → is_before t r ≡ false
before_none r s t h g = grind (arith, nat_tests)

-- where the third isn't before the first and is before the second, nor is the second before the first
before_chain : (r t s : Refusal) → is_before t r ≡ false → is_before t s ≡ true → is_before s r ≡ false
before_chain r t s h g = grind (arith, nat_tests)

-- what is before another isn't behind it
before_after : (r s : Refusal) → is_before r s ≡ true → is_before s r ≡ false
before_after r s h = grind (arith, nat_tests)

-- of two faults none of which is before the other both are one
before_same : (r s : Refusal) → is_before r s ≡ false → is_before s r ≡ false → r ≡ s
before_same r s h g = grind (arith, nat_tests)

-- ---- the first of a list

-- what a first one is
abbrev IsFirstOf : List Refusal → Refusal → Type 0
IsFirstOf rs r = IsIn r rs × ((s : Refusal) → IsIn s rs → is_before s r ≡ false)

-- a fault ahead of a list is its first where the list has none
first_alone : (t : Refusal) (rs : List Refusal) → rs ≡ [] → IsFirstOf (t ∷ rs) t
first_alone t rs e = (inl refl, λ s h. none s h)
  where
    none : (s : Refusal) → IsIn s (t ∷ rs) → is_before s t ≡ false
    none s (inl q) = subst (λ w. is_before w t ≡ false) (sym q) (before_itself t)
    none s (inr q) = absurd (subst (IsIn s) e q)

-- where the first of the list isn't before it
first_stays : (t : Refusal) (rs : List Refusal) (u : Refusal) → IsFirstOf rs u → is_before u t ≡ false → IsFirstOf (t ∷ rs) t
first_stays t rs u f b = (inl refl, λ s h. none s h)
  where
    none : (s : Refusal) → IsIn s (t ∷ rs) → is_before s t ≡ false
    none s (inl q) = subst (λ w. is_before w t ≡ false) (sym q) (before_itself t)
    none s (inr q) = before_none t u s b (f.1 s q)

-- and where it is
first_moves : (t : Refusal) (rs : List Refusal) (u : Refusal) → IsFirstOf rs u → is_before u t ≡ true → IsFirstOf (t ∷ rs) u
first_moves t rs u f b = (inr f.0, λ s h. none s h)
  where
    none : (s : Refusal) → IsIn s (t ∷ rs) → is_before s u ≡ false
    none s (inl q) = subst (λ w. is_before w u ≡ false) (sym q) (before_after u t b)
    none s (inr q) = f.1 s q

-- there is a first wherever there is a fault
pub no_first : (rs : List Refusal) → first_of rs ≡ None → rs ≡ []
no_first [] h = refl
no_first (t ∷ rs) h = go (first_of rs) h
  where
    go : (f : Option Refusal) → earlier t f ≡ None → t ∷ rs ≡ []
    go None h = cc
    go (Some u) h = pick (is_before u t) h
      where
        pick : (b : Bool) → (if b then Some u else Some t) ≡ None → t ∷ rs ≡ []
        pick true h = cc
        pick false h = cc

pub first_is_first : (rs : List Refusal) (r : Refusal) → first_of rs ≡ Some r → IsFirstOf rs r
first_is_first [] r h = absurd cc
first_is_first (t ∷ rs) r h = go (first_of rs) refl h (first_is_first rs)
  where
    pick : (u : Refusal) → IsFirstOf rs u → (b : Bool) → is_before u t ≡ b → (if b then Some u else Some t) ≡ Some r → IsFirstOf (t ∷ rs) r
    pick u f true b e = let same : u ≡ r = cc in subst (IsFirstOf (t ∷ rs)) same (first_moves t rs u f b)
    pick u f false b e = let same : t ≡ r = cc in subst (IsFirstOf (t ∷ rs)) same (first_stays t rs u f b)

    go : (f : Option Refusal) → first_of rs ≡ f → earlier t f ≡ Some r → ((q : Refusal) → first_of rs ≡ Some q → IsFirstOf rs q) → IsFirstOf (t ∷ rs) r
    go None f e ih = let same : t ≡ r = cc in subst (IsFirstOf (t ∷ rs)) same (first_alone t rs (no_first rs f))
    go (Some u) f e ih = pick u (ih u f) (is_before u t) refl e

-- a list with a member has a first
some_first : (rs : List Refusal) (r : Refusal) → IsIn r rs → first_of rs ≡ None → ⊥
some_first rs r h e = subst (IsIn r) (no_first rs e) h

-- lists with the same members have the same first
pub first_of_same : (rs ss : List Refusal) → ((r : Refusal) → IsIn r rs → IsIn r ss) → ((r : Refusal) → IsIn r ss → IsIn r rs) → first_of rs ≡ first_of ss
first_of_same rs ss f g = go (first_of rs) (first_of ss) refl refl
  where
    both : (r s : Refusal) → IsFirstOf rs r → IsFirstOf ss s → r ≡ s
    both r s p q = before_same r s (q.1 r (f r p.0)) (p.1 s (g s q.0))

    go : (a b : Option Refusal) → first_of rs ≡ a → first_of ss ≡ b → first_of rs ≡ first_of ss
    go None None e d = e ∙ sym d
    go None (Some s) e d = absurd (some_first rs s (g s (first_is_first ss s d).0) e)
    go (Some r) None e d = absurd (some_first ss r (f r (first_is_first rs r e).0) d)
    go (Some r) (Some s) e d = e ∙ ap Some (both r s (first_is_first rs r e) (first_is_first ss s d)) ∙ sym d

-- ---- the first of lists put together

pub sooner_none : (a : Option Refusal) → sooner a None ≡ a
sooner_none None = refl
sooner_none (Some r) = refl

-- of three, the first of the later two is looked at first or last
earlier_twice : (r s : Refusal) (t : Option Refusal) → sooner (earlier r (Some s)) t ≡ earlier r (earlier s t)
earlier_twice r s None = sooner_none (earlier r (Some s))
earlier_twice r s (Some t) = go (is_before s r) (is_before t s) (is_before t r) refl refl refl
  where
    go : (a b c : Bool) → is_before s r ≡ a → is_before t s ≡ b → is_before t r ≡ c → sooner (if a then Some s else Some r) (Some t) ≡ earlier r (if b then Some t else Some s)
    go true true true e d f = rw d (rw f refl)
    go true true false e d f = absurd (let p : is_before s r ≡ false = before_chain r t s f d in cc)
    go true false c e d f = rw d (rw e refl)
    go false true true e d f = rw f refl
    go false true false e d f = rw f refl
    go false false true e d f = absurd (let p = before_none r s t e d in cc)
    go false false false e d f = rw f (rw e refl)

pub sooner_assoc : (a b c : Option Refusal) → sooner (sooner a b) c ≡ sooner a (sooner b c)
sooner_assoc None b c = refl
sooner_assoc (Some r) None c = refl
sooner_assoc (Some r) (Some s) c = earlier_twice r s c

pub first_of-append : (rs ss : List Refusal) → first_of (rs ++ ss) ≡ sooner (first_of rs) (first_of ss)
first_of-append [] ss = refl
first_of-append (r ∷ rs) ss = ap (earlier r) (first_of-append rs ss) ∙ sym (sooner_assoc (Some r) (first_of rs) (first_of ss))

-- the first of some faults and one list more
pub sooner-append : (a : Option Refusal) (rs ss : List Refusal) → sooner (sooner a (first_of rs)) (first_of ss) ≡ sooner a (first_of (rs ++ ss))
sooner-append a rs ss = sooner_assoc a (first_of rs) (first_of ss) ∙ ap (sooner a) (sym (first_of-append rs ss))

-- the first of what one member of a list adds, and of what those behind it add
pub sooner_more : {X : Type 0} (f : X → List Refusal) (xs : List X) (i : ℕ) (d : X) (a b : Option Refusal) → i < length xs → b ≡ sooner a (first_of (f (get_or xs i d))) → sooner b (first_of (flat_map f (drop (i + 1) xs))) ≡ sooner a (first_of (flat_map f (drop i xs)))
sooner_more f xs i d a b lt e =
    ap (λ z. sooner z (first_of (flat_map f (drop (i + 1) xs)))) e
    ∙ sooner-append a (f (get_or xs i d)) (flat_map f (drop (i + 1) xs))
    ∙ ap (λ z. sooner a (first_of (flat_map f z))) (sym (drop_more xs i d lt))

-- ---- the order of faults doesn't count

-- of two faults the first is the same whichever is looked at first
sooner_two : (r s : Refusal) → earlier r (Some s) ≡ earlier s (Some r)
sooner_two r s = go (is_before s r) (is_before r s) refl refl
  where
    go : (a b : Bool) → is_before s r ≡ a → is_before r s ≡ b → (if a then Some s else Some r) ≡ (if b then Some r else Some s)
    go true true e d = absurd (let p = before_after s r e in cc)
    go true false e d = refl
    go false true e d = refl
    go false false e d = ap Some (before_same r s d e)

pub sooner_comm : (a b : Option Refusal) → sooner a b ≡ sooner b a
sooner_comm None b = sym (sooner_none b)
sooner_comm (Some r) None = refl
sooner_comm (Some r) (Some s) = sooner_two r s

-- a fault with itself
pub sooner_same : (a : Option Refusal) → sooner a a ≡ a
sooner_same None = refl
sooner_same (Some r) = go (is_before r r) refl
  where
    go : (b : Bool) → is_before r r ≡ b → (if b then Some r else Some r) ≡ Some r
    go true e = refl
    go false e = refl

-- the same where members are looked at by a view
pub sooner_mapped : {X Y : Type 0} (view : X → Y) (f : Y → List Refusal) (xs : List X) (i : ℕ) (x : X) (a b : Option Refusal) → i < length xs → x ≡ get_or xs i x → b ≡ sooner a (first_of (f (view x))) → sooner b (first_of (flat_map f (map view (drop (i + 1) xs)))) ≡ sooner a (first_of (flat_map f (map view (drop i xs))))
sooner_mapped view f xs i x a b lt is e =
    ap (λ z. sooner z (first_of (flat_map f (map view (drop (i + 1) xs))))) e
    ∙ sooner-append a (f (view x)) (flat_map f (map view (drop (i + 1) xs)))
    ∙ ap (λ z. sooner a (first_of (flat_map f (map view z)))) (sym (drop_more xs i x lt ∙ ap (λ z. z ∷ drop (i + 1) xs) (sym is)))

-- two lists of faults looked at one after the other
pub sooner_then : (rs ss : List Refusal) (a b c : Option Refusal) → b ≡ sooner a (first_of rs) → c ≡ sooner b (first_of ss) → c ≡ sooner a (first_of (rs ++ ss))
sooner_then rs ss a b c e d = d ∙ ap (λ z. sooner z (first_of ss)) e ∙ sooner-append a rs ss
