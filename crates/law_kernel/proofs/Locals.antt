-- The locals of a unit are apart from its variables, and from one another.
use Rattle.std.proofs.Common.{◌≡◌, ℕ, zero, suc, ◌<◌, ◌≤◌, ◌⊎◌, inl, inr, Bool, true, false, List, [], ◌∷◌, ◌++◌, map, refl, sym, ap, ◌∙◌, arith}
use Rattle.std.proofs.lemmas.Bool.{cases_lt, or_cases}
use Rattle.std.specs.Prelude.{◌==◌, if◌then◌else◌}
use Rattle.adj_tree.specs.Code.{Var, plain, shadow, helper, var_eq, name_eq, Term, lit, var, elem, neg, bin, pow, power_of, abs, Terms, none, more, Test, compare, negation, conjunction, disjunction, Mark, unmarked, with_count, count_from, Act, assign, choose, loop, during, call, runtime, Code, stop, step, Declaration, Procedure}
use Rattle.adj_tree.proofs.Names.{nat_refl, nat_same, name_refl, name_same}
use Rattle.def_meaning.specs.Read.{reads_term, reads_terms, reads_test}
use Rattle.def_meaning.specs.Units.{declared}
use Rattle.def_meaning.proofs.Booleans.{or_false, or_first, or_second}
use Rattle.def_meaning.proofs.Variables.{var_same, name_comm}
use Rattle.def_meaning.specs.Apart.{has_name, is_named}
use Rattle.def_names.specs.Fresh.{fresh}
use Rattle.def_names.specs.Reserved.{reserved}
use Rattle.def_names.proofs.Fresh.{fresh-is_free}
use Rattle.def_names.proofs.NameLists.{has-append}
use Rattle.def_names.proofs.Variables.{not_true}
use Rattle.law_kernel.specs.Apart.{AreLocals, TermInside, TermsInside, TestInside, MarkInside, ActInside, CodeInside}
use Rattle.def_kernel.specs.Kernel.{named, names_in, names_in_all, names_in_test, names_in_mark, names_in_act, names_in_code, declared_names, names_of, wanted_local, local_names, local_of, unit_name, taken_in, local_in, scalar_at}
use Rattle.law_kernel.specs.Fits.{is_of, PlainVar, PlainTerm, PlainTerms, PlainTest, PlainMark, PlainAct, PlainCode}

-- ---- names in lists

pub has_first : (x : List ℕ) (xs ys : List (List ℕ)) → has_name x xs ≡ true → has_name x (xs ++ ys) ≡ true
has_first x xs ys h = has-append x xs ys ∙ or_first (has_name x xs) (has_name x ys) h

pub has_second : (x : List ℕ) (xs ys : List (List ℕ)) → has_name x ys ≡ true → has_name x (xs ++ ys) ≡ true
has_second x xs ys h = has-append x xs ys ∙ or_second (has_name x xs) (has_name x ys) h

-- a name that isn't in a list isn't in its parts
pub not_first : (x : List ℕ) (xs ys : List (List ℕ)) → has_name x (xs ++ ys) ≡ false → has_name x xs ≡ false
not_first x xs ys h = (or_false (has_name x xs) (has_name x ys) (sym (has-append x xs ys) ∙ h)).0

pub not_second : (x : List ℕ) (xs ys : List (List ℕ)) → has_name x (xs ++ ys) ≡ false → has_name x ys ≡ false
not_second x xs ys h = (or_false (has_name x xs) (has_name x ys) (sym (has-append x xs ys) ∙ h)).1

-- ---- locals

module _ (taken : List (List ℕ)) where
  abbrev pub name_at : ℕ → List ℕ
  name_at k = fresh (wanted_local k) (taken ++ local_names taken k)

  -- an earlier local is among the names before a later one
  pub earlier_there : (i j : ℕ) → i < j → has_name (name_at i) (local_names taken j) ≡ true
  earlier_there i zero h = absurd (omega arith)
  earlier_there i (suc j) h = go (λ l. earlier_there i j l) (cases_lt i j)
    where
      go : (i < j → has_name (name_at i) (local_names taken j) ≡ true) → (i < j) ⊎ (j ≤ i) → has_name (name_at i) (local_names taken j ++ (name_at j ∷ [])) ≡ true
      go ih (inl l) = has_first (name_at i) (local_names taken j) (name_at j ∷ []) (ih l)
      go ih (inr l) = let e : i ≡ j = omega (arith, l, h) in has_second (name_at i) (local_names taken j) (name_at j ∷ []) (or_first (name_eq (name_at i) (name_at j)) false (ap (λ z. name_eq (name_at i) (name_at z)) (sym e) ∙ name_refl (name_at i)))

  pub later_apart : (i j : ℕ) → i < j → name_eq (name_at j) (name_at i) ≡ false
  later_apart i j h =
      not_true (name_eq (name_at j) (name_at i)) (λ e.
      let free = not_second (name_at j) taken (local_names taken j) (fresh-is_free (wanted_local j) (taken ++ local_names taken j)) in
      let there = ap (λ z. has_name z (local_names taken j)) (name_same (name_at j) (name_at i) e) ∙ earlier_there i j h in
      let z : true ≡ false = sym there ∙ free in cc)

  -- locals of different numbers have different names, and none is taken
  pub names_apart : (i j : ℕ) → var_eq (local_of taken i) (local_of taken j) ≡ (i == j)
  names_apart i j = go (i == j) refl
    where
      unequal : (i < j) ⊎ (j ≤ i) → (i == j) ≡ false → name_eq (name_at i) (name_at j) ≡ false
      unequal (inl l) e = name_comm (name_at j) (name_at i) (later_apart i j l)
      unequal (inr l) e = later_apart j i (go2 (cases_lt j i))
        where
          go2 : (j < i) ⊎ (i ≤ j) → j < i
          go2 (inl m) = m
          go2 (inr m) = absurd (let same : i ≡ j = omega (arith, l, m) in let z : true ≡ false = sym (nat_refl i) ∙ ap (λ y. i == y) same ∙ e in cc)

      go : (b : Bool) → (i == j) ≡ b → name_eq (name_at i) (name_at j) ≡ b
      go true e = ap (λ z. name_eq (name_at i) (name_at z)) (sym (nat_same i j e)) ∙ name_refl (name_at i)
      go false e = unequal (cases_lt i j) e

  pub not_taken : (k : ℕ) → has_name (name_at k) taken ≡ false
  not_taken k = not_first (name_at k) taken (local_names taken k) (fresh-is_free (wanted_local k) (taken ++ local_names taken k))

-- the locals of a unit are apart from its variables
pub unit_locals : (units : List Procedure) (u : Procedure) → AreLocals (is_of u) (local_in units u)
unit_locals units u = record {
  outside = λ j. not_first (name_at (taken_in units u) j) (names_of u) (map unit_name units ++ reserved) (not_taken (taken_in units u) j);
  apart = names_apart (taken_in units u);
}

-- ---- declarations

-- what isn't declared has no extents
undeclared : (x : List ℕ) (ds : List Declaration) → has_name x (declared_names ds) ≡ false → declared ds (plain x) ≡ []
undeclared x [] h = refl
undeclared x (d ∷ ds) h = let p = or_false (name_eq x d.name) (has_name x (declared_names ds)) h in ap (λ b. if b then d.extents else declared ds (plain x)) p.0 ∙ undeclared x ds p.1

-- a local has none in its unit
pub local_undeclared : (units : List Procedure) (u : Procedure) (k : ℕ) → declared u.declarations (local_in units u k) ≡ []
local_undeclared units u k =
    undeclared (name_at (taken_in units u) k) u.declarations
    (not_first (name_at (taken_in units u) k) (declared_names u.declarations) (names_in_code u.body)
    (not_second (name_at (taken_in units u) k) u.dummies (declared_names u.declarations ++ names_in_code u.body) ((unit_locals units u).outside k)))

-- scalars that are declared behind change no extents
pub scalars_behind : (ds : List Declaration) (line : ℕ) (xs : List (List ℕ)) (x : Var) → declared (ds ++ map (scalar_at line) xs) x ≡ declared ds x
scalars_behind [] line [] x = refl
scalars_behind [] line (y ∷ ys) x = go (var_eq x (plain y)) (scalars_behind [] line ys x)
  where
    go : (b : Bool) → declared (map (scalar_at line) ys) x ≡ [] → (if b then [] else declared (map (scalar_at line) ys) x) ≡ []
    go true h = refl
    go false h = h
scalars_behind (d ∷ ds) line xs x = ap (λ z. if var_eq x (plain d.name) then d.extents else z) (scalars_behind ds line xs x)

-- ---- the variables of a unit's statements are its own

-- the names are among some
abbrev pub Within : List (List ℕ) → List (List ℕ) → Type 0
Within xs all = (x : List ℕ) → has_name x xs ≡ true → has_name x all ≡ true

-- names within some are within more
within_first : (xs ys all : List (List ℕ)) → Within (xs ++ ys) all → Within xs all
within_first xs ys all h x e = h x (has_first x xs ys e)

-- behind others, too
within_second : (xs ys all : List (List ℕ)) → Within (xs ++ ys) all → Within ys all
within_second xs ys all h x e = h x (has_second x xs ys e)

module _ (all : List (List ℕ)) where
  -- a variable of the text is among its names
  own_var : (y : Var) → PlainVar y → Within (named y) all → is_named all y ≡ true
  own_var (plain y) p h = h y (or_first (name_eq y y) false (name_refl y))
  own_var (shadow y) p h = absurd p
  own_var (helper r k) p h = absurd p

  same_own : (x y : Var) → var_eq x y ≡ true → is_named all y ≡ true → is_named all x ≡ true
  same_own x y e h = ap (is_named all) (var_same x y e) ∙ h

  own_element : (y : Var) (subs : Terms) → PlainVar y → Within (named y) all → TermsInside (is_named all) subs → (x : Var) → (var_eq x y ≡ true) ⊎ (reads_terms x subs ≡ true) → is_named all x ≡ true
  own_element y subs p h g x (inl e) = same_own x y e (own_var y p h)
  own_element y subs p h g x (inr e) = g x e

  own_either : (a b : Term) → TermInside (is_named all) a → TermInside (is_named all) b → (x : Var) → (reads_term x a ≡ true) ⊎ (reads_term x b ≡ true) → is_named all x ≡ true
  own_either a b f g x (inl e) = f x e
  own_either a b f g x (inr e) = g x e

  own_more : (e : Term) (es : Terms) → TermInside (is_named all) e → TermsInside (is_named all) es → (x : Var) → (reads_term x e ≡ true) ⊎ (reads_terms x es ≡ true) → is_named all x ≡ true
  own_more e es f g x (inl r) = f x r
  own_more e es f g x (inr r) = g x r

  mutual
    -- the variables of an expression are among the names in it
    pub own_term : (e : Term) → PlainTerm e → Within (names_in e) all → TermInside (is_named all) e
    own_term (lit z) p h x r = absurd cc
    own_term (var y) p h x r = same_own x y r (own_var y p h)
    own_term (elem y subs) p h x r = own_element y subs p.0 (within_first (named y) (names_in_all subs) all h) (own_terms subs p.1 (within_second (named y) (names_in_all subs) all h)) x (or_cases (var_eq x y) (reads_terms x subs) r)
    own_term (neg a) p h x r = own_term a p h x r
    own_term (bin op a b) p h x r = own_either a b (own_term a p.0 (within_first (names_in a) (names_in b) all h)) (own_term b p.1 (within_second (names_in a) (names_in b) all h)) x (or_cases (reads_term x a) (reads_term x b) r)
    own_term (pow a k) p h x r = own_term a p h x r
    own_term (power_of a b) p h x r = own_either a b (own_term a p.0 (within_first (names_in a) (names_in b) all h)) (own_term b p.1 (within_second (names_in a) (names_in b) all h)) x (or_cases (reads_term x a) (reads_term x b) r)
    own_term (abs a) p h x r = own_term a p h x r

    pub own_terms : (es : Terms) → PlainTerms es → Within (names_in_all es) all → TermsInside (is_named all) es
    own_terms none p h x r = absurd cc
    own_terms (more e es) p h x r = own_more e es (own_term e p.0 (within_first (names_in e) (names_in_all es) all h)) (own_terms es p.1 (within_second (names_in e) (names_in_all es) all h)) x (or_cases (reads_term x e) (reads_terms x es) r)

  -- of a condition
  pub own_test : (c : Test) → PlainTest c → Within (names_in_test c) all → TestInside (is_named all) c
  own_test (compare r a b) p h x e = own_either a b (own_term a p.0 (within_first (names_in a) (names_in b) all h)) (own_term b p.1 (within_second (names_in a) (names_in b) all h)) x (or_cases (reads_term x a) (reads_term x b) e)
  own_test (negation c) p h x e = own_test c p h x e
  own_test (conjunction c d) p h x e = go (own_test c p.0 (within_first (names_in_test c) (names_in_test d) all h)) (own_test d p.1 (within_second (names_in_test c) (names_in_test d) all h)) (or_cases (reads_test x c) (reads_test x d) e)
    where
      go : TestInside (is_named all) c → TestInside (is_named all) d → (reads_test x c ≡ true) ⊎ (reads_test x d ≡ true) → is_named all x ≡ true
      go f g (inl r) = f x r
      go f g (inr r) = g x r
  own_test (disjunction c d) p h x e = go (own_test c p.0 (within_first (names_in_test c) (names_in_test d) all h)) (own_test d p.1 (within_second (names_in_test c) (names_in_test d) all h)) (or_cases (reads_test x c) (reads_test x d) e)
    where
      go : TestInside (is_named all) c → TestInside (is_named all) d → (reads_test x c ≡ true) ⊎ (reads_test x d ≡ true) → is_named all x ≡ true
      go f g (inl r) = f x r
      go f g (inr r) = g x r

  -- of a mark
  own_mark : (m : Mark) → PlainMark m → Within (names_in_mark m) all → MarkInside (is_named all) m
  own_mark unmarked p h x r = absurd cc
  own_mark (with_count k) p h x r = absurd cc
  own_mark (count_from y) p h x r = same_own x y r (own_var y p h)

  mutual
    -- of a statement
    pub own_act : (a : Act) → PlainAct a → Within (names_in_act a) all → ActInside (is_named all) a
    own_act (assign y subs e) p h =
        let g = within_second (named y) (names_in_all subs ++ names_in e) all h in
        (own_var y p.0 (within_first (named y) (names_in_all subs ++ names_in e) all h), (own_terms subs p.1.0 (within_first (names_in_all subs) (names_in e) all g), own_term e p.1.1 (within_second (names_in_all subs) (names_in e) all g)))
    own_act (choose c a b) p h =
        let g = within_second (names_in_test c) (names_in_code a ++ names_in_code b) all h in
        (own_test c p.0 (within_first (names_in_test c) (names_in_code a ++ names_in_code b) all h), (own_code a p.1.0 (within_first (names_in_code a) (names_in_code b) all g), own_code b p.1.1 (within_second (names_in_code a) (names_in_code b) all g)))
    own_act (loop y first last by body m) p h =
        let h1 = within_second (names_in_mark m) (named y ++ (names_in first ++ (names_in last ++ (names_in by ++ names_in_code body)))) all h in
        let g = within_second (named y) (names_in first ++ (names_in last ++ (names_in by ++ names_in_code body))) all h1 in
        let g1 = within_second (names_in first) (names_in last ++ (names_in by ++ names_in_code body)) all g in
        let g2 = within_second (names_in last) (names_in by ++ names_in_code body) all g1 in (
          own_var y p.0 (within_first (named y) (names_in first ++ (names_in last ++ (names_in by ++ names_in_code body))) all h1),
          (
            (own_mark m p.1.0.0 (within_first (names_in_mark m) (named y ++ (names_in first ++ (names_in last ++ (names_in by ++ names_in_code body)))) all h), (own_term first p.1.0.1.0 (within_first (names_in first) (names_in last ++ (names_in by ++ names_in_code body)) all g), (own_term last p.1.0.1.1.0 (within_first (names_in last) (names_in by ++ names_in_code body) all g1), own_term by p.1.0.1.1.1 (within_first (names_in by) (names_in_code body) all g2)))),
            own_code body p.1.1 (within_second (names_in by) (names_in_code body) all g2),
          ),
        )
    own_act (during c body) p h = (own_test c p.0 (within_first (names_in_test c) (names_in_code body) all h), own_code body p.1 (within_second (names_in_test c) (names_in_code body) all h))
    own_act (call name args) p h = own_terms args p h
    own_act (runtime r) p h = tt

    -- of a list
    pub own_code : (c : Code) → PlainCode c → Within (names_in_code c) all → CodeInside (is_named all) c
    own_code stop p h = tt
    own_code (step line a rest) p h = (own_act a p.0 (within_first (names_in_act a) (names_in_code rest) all h), own_code rest p.1 (within_second (names_in_act a) (names_in_code rest) all h))

module _ (u : Procedure) where
  -- so the variables of the body are
  pub own_body : PlainCode u.body → CodeInside (is_of u) u.body
  own_body p = own_code (names_of u) u.body p (λ x h. has_second x u.dummies (declared_names u.declarations ++ names_in_code u.body) (has_second x (declared_names u.declarations) (names_in_code u.body) h))

  -- and the dummies
  pub own_dummies : (x : List ℕ) → has_name x u.dummies ≡ true → is_of u (plain x) ≡ true
  own_dummies x h = has_first x u.dummies (declared_names u.declarations ++ names_in_code u.body) h
