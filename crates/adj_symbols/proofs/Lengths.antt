-- Lengths of chains up to a limit.
use Rattle.std.proofs.Common.{◌≡◌, ℕ, zero, suc, ◌+◌, ◌-◌, min, max, nat_lt, Bool, true, false, List, [], ◌∷◌, ◌++◌, map, length, refl, sym, ap, ◌∙◌, Option, Some, None, arith}
use Rattle.std.specs.Prelude.{◌&&◌, nat_le, unwrap_or}
use Rattle.std.specs.List.{flat_map}
use Rattle.std.specs.Option.{option_map}
use Rattle.std.proofs.lemmas.Bool.Decides.{nat_tests}
use Rattle.std.proofs.lemmas.Option.{unwrap_or-slice_get, slice_get-map}
use Rattle.adj_tree.specs.Code.{Mark, unmarked, with_count, count_from, Act, assign, choose, loop, during, call, runtime, Code, stop, step, Procedure}
use Rattle.adj_tree.specs.declared.fault.Refusal.{Refusal}
use Rattle.def_meaning.specs.Written.{find_unit}
use Rattle.def_names.specs.Statements.{At, statements}
use Rattle.def_names.specs.Variables.{Name}
use Rattle.def_names.specs.Calls.{with_mark, act_chain, chain, chain_found, chain_within, chain_from}
use Rattle.def_names.specs.ChainFaults.{begins_chain, long_chains}
use Rattle.def_names.specs.Fault.{Rules, passed, faults_if, first_of, sooner}
use Rattle.def_names.proofs.Order.{sooner_assoc, sooner_comm, first_of-append, sooner-append}
use Rattle.std.proofs.lemmas.Grind.{flat_map-append}
use Rattle.adj_symbols.specs.Chain.{length_at, length_of, faults_of_chain, longer}
use Rattle.adj_symbols.proofs.Scopes.{found_at, number_found}
use Rattle.adj_symbols_writes.specs.Graph.{number_from}

-- a mark counts the same up to a limit
pub mark_capped : (L : ℕ) (m : Mark) (a b : ℕ) → min L a ≡ min L b → min L (with_mark m a) ≡ min L (with_mark m b)
mark_capped L unmarked a b h = h
mark_capped L (with_count k) a b h = omega arith
mark_capped L (count_from x) a b h = omega arith

-- the longer of two is the same up to a limit
max_capped : (L a b c d : ℕ) → min L a ≡ min L b → min L c ≡ min L d → min L (max a c) ≡ min L (max b d)
max_capped L a b c d h g = omega arith

module _ (L : ℕ) (f g : Name → ℕ) (h : (x : Name) → min L (f x) ≡ min L (g x)) where
  mutual
    -- chains up to a limit look at no more of the called units than that
    pub act_capped : (a : Act) → min L (act_chain f a) ≡ min L (act_chain g a)
    act_capped (assign x subs e) = refl
    act_capped (choose c a b) = max_capped L (chain f a) (chain g a) (chain f b) (chain g b) (chain_capped a) (chain_capped b)
    act_capped (loop x first last by body m) = mark_capped L m (chain f body) (chain g body) (chain_capped body)
    act_capped (during c body) = chain_capped body
    act_capped (call name args) = h name
    act_capped (runtime r) = refl

    pub chain_capped : (c : Code) → min L (chain f c) ≡ min L (chain g c)
    chain_capped stop = refl
    chain_capped (step line a rest) = max_capped L (act_chain f a) (act_chain g a) (chain f rest) (chain g rest) (act_capped a) (chain_capped rest)

-- ---- rounds

found_capped : (L : ℕ) (f g : Name → ℕ) (u : Option Procedure) → ((x : Name) → min L (f x) ≡ min L (g x)) → min (suc L) (chain_found f u) ≡ min (suc L) (chain_found g u)
found_capped L f g None h = refl
found_capped L f g (Some u) h = next L (chain f u.body) (chain g u.body) (chain_capped L f g h u.body)
  where
    next : (L a b : ℕ) → min L a ≡ min L b → min (suc L) (suc a) ≡ min (suc L) (suc b)
    next L a b e = omega arith

-- as many rounds as the limit tell
enough : (ps : List Procedure) (L k : ℕ) (x : Name) → min L (chain_within ps (k + L) x) ≡ min L (chain_within ps L x)
enough ps zero k x = none (chain_within ps (k + 0) x)
  where
    none : (a : ℕ) → min 0 a ≡ min 0 0
    none a = omega arith
enough ps (suc L) k x =
    let e : k + suc L ≡ suc (k + L) = omega arith in
    ap (λ n. min (suc L) (chain_within ps n x)) e ∙ found_capped L (chain_within ps (k + L)) (chain_within ps L) (find_unit ps x) (enough ps L k)

pub rounds_enough : (ps : List Procedure) (L : ℕ) (x : Name) → min L (chain_within ps (min L (length ps)) x) ≡ min L (chain_from ps x)
rounds_enough ps L x = go (length ps) (nat_le L (length ps)) refl
  where
    go : (n : ℕ) (b : Bool) → nat_le L n ≡ b → min L (chain_within ps (min L n) x) ≡ min L (chain_within ps n x)
    go n true e =
        let a : min L n ≡ L = below L n e in
        let d : (n - L) + L ≡ n = back L n e in
        ap (λ k. min L (chain_within ps k x)) a ∙ sym (enough ps L (n - L) x) ∙ ap (λ k. min L (chain_within ps k x)) d
      where
        below : (L n : ℕ) → nat_le L n ≡ true → min L n ≡ L
        below L n e = grind (arith, nat_tests)

        back : (L n : ℕ) → nat_le L n ≡ true → (n - L) + L ≡ n
        back L n e = grind (arith, nat_tests)
    go n false e =
        let a : min L n ≡ n = above L n e in
        ap (λ k. min L (chain_within ps k x)) a
      where
        above : (L n : ℕ) → nat_le L n ≡ false → min L n ≡ n
        above L n e = grind (arith, nat_tests)

-- what a table made from the units says of a name
table_found : (f : Procedure → ℕ) (ps : List Procedure) (x : Name) → length_of ps (map f ps) x ≡ unwrap_or (option_map f (find_unit ps x)) 0
table_found f ps x = go (number_from 0 ps x) ∙ ap (λ u. unwrap_or (option_map f u) 0) (number_found ps x)
  where
    go : (n : Option ℕ) → length_at (map f ps) n ≡ unwrap_or (option_map f (found_at ps n)) 0
    go None = refl
    go (Some n) = sym (unwrap_or-slice_get (map f ps) n 0) ∙ ap (λ z. unwrap_or z 0) (slice_get-map f ps n)

-- one round more
pub round_more : (ps : List Procedure) (L k : ℕ) (lengths made : List ℕ) → made ≡ map (longer L (length_of ps lengths)) ps → ((x : Name) → min L (length_of ps lengths x) ≡ min L (chain_within ps k x)) → (x : Name) → min L (length_of ps made x) ≡ min L (chain_within ps (k + 1) x)
round_more ps L k lengths made e h x =
    let n : k + 1 ≡ suc k = omega arith in
    ap (λ z. min L (length_of ps z x)) e
    ∙ ap (min L) (table_found (longer L (length_of ps lengths)) ps x)
    ∙ go (find_unit ps x)
    ∙ ap (λ m. min L (chain_within ps m x)) (sym n)
  where
    next : (L a b : ℕ) → min L a ≡ min L b → min L (min L (suc a)) ≡ min L (suc b)
    next L a b e = omega arith

    go : (u : Option Procedure) → min L (unwrap_or (option_map (longer L (length_of ps lengths)) u) 0) ≡ min L (chain_found (chain_within ps k) u)
    go None = refl
    go (Some u) = next L (chain (length_of ps lengths) u.body) (chain (chain_within ps k) u.body) (chain_capped L (length_of ps lengths) (chain_within ps k) h u.body)

-- a table of no units
pub no_lengths : (ps : List Procedure) (lengths : List ℕ) (x : Name) → lengths ≡ [] → length_of ps lengths x ≡ 0
no_lengths ps lengths x e = ap (λ z. length_of ps z x) e ∙ go (number_from 0 ps x)
  where
    go : (n : Option ℕ) → length_at [] n ≡ 0
    go None = refl
    go (Some n) = refl

-- ---- faults

limit_capped : (L a b : ℕ) → min L a ≡ min L b → nat_lt L (suc a) ≡ nat_lt L (suc b)
limit_capped L a b e = grind (arith, nat_tests)

-- the faults are those by the lengths of chains themselves
pub chains_listed : (m : Rules) (ps : List Procedure) (lengths : List ℕ) → ((x : Name) → min m.chain (length_of ps lengths x) ≡ min m.chain (chain_from ps x)) → flat_map (λ u. flat_map (faults_of_chain m.chain (length_of ps lengths)) (statements u.body)) ps ≡ long_chains m ps
chains_listed m ps lengths h =
    let same = λ (s : At Act). limit_capped m.chain (act_chain (length_of ps lengths) s.1) (act_chain (chain_from ps) s.1) (act_capped m.chain (length_of ps lengths) (chain_from ps) h s.1) in
    λ i. flat_map (λ u. flat_map (λ s. faults_if (begins_chain s.1 && same s i) (passed m.chain s.0)) (statements u.body)) ps

-- a chain up to the limit is too long where it has the limit
pub long_capped : (L a n line : ℕ) (b : Bool) → n ≡ min L a → faults_if (b && nat_le L n) (passed L line) ≡ faults_if (b && nat_lt L (suc a)) (passed L line)
long_capped L a n line b e = ap (λ t. faults_if (b && t) (passed L line)) (test L a n e)
  where
    test : (L a n : ℕ) → n ≡ min L a → nat_le L n ≡ nat_lt L (suc a)
    test L a n e = grind (arith, nat_tests)

-- ---- the first of the faults in statements

-- in two lists of statements
pub lists_then : {X : Type 0} (f : X → List Refusal) (xs ys : List X) (a b c : Option Refusal) → b ≡ sooner a (first_of (flat_map f xs)) → c ≡ sooner b (first_of (flat_map f ys)) → c ≡ sooner a (first_of (flat_map f (xs ++ ys)))
lists_then f xs ys a b c e d =
    d ∙ ap (λ z. sooner z (first_of (flat_map f ys))) e
    ∙ sooner-append a (flat_map f xs) (flat_map f ys)
    ∙ ap (λ z. sooner a (first_of z)) (sym (flat_map-append f xs ys))

-- of a statement, of those in it, and of those behind it
pub inner_first : {X : Type 0} (f : X → List Refusal) (s : X) (xs ys : List X) (a b c : Option Refusal) → b ≡ sooner a (first_of (flat_map f xs)) → c ≡ sooner b (first_of (f s)) → sooner c (first_of (flat_map f ys)) ≡ sooner a (first_of (flat_map f (s ∷ (xs ++ ys))))
inner_first f s xs ys a b c e d =
    let x = first_of (flat_map f xs) in
    let y = first_of (flat_map f ys) in
    let t = first_of (f s) in
    ap (λ z. sooner z y) (d ∙ ap (λ z. sooner z t) e ∙ sooner_assoc a x t ∙ ap (sooner a) (sooner_comm x t))
    ∙ sooner_assoc a (sooner t x) y
    ∙ ap (sooner a) (sooner_assoc t x y ∙ ap (sooner t) (sym (first_of-append (flat_map f xs) (flat_map f ys)) ∙ ap first_of (sym (flat_map-append f xs ys))) ∙ sym (first_of-append (f s) (flat_map f (xs ++ ys))))

-- one more of a length up to the limit
pub longer_capped : (L a n : ℕ) → n ≡ min L a → min L (suc n) ≡ min L (suc a)
longer_capped L a n e = omega arith

-- the longest chain so far and that of one statement more
pub max_more : (L m n p q r : ℕ) → r ≡ max m n → n ≡ min L p → max r (min L q) ≡ max m (min L (max p q))
max_more L m n p q r e d = omega arith
