-- The names of step units: their dummies are the variables of the loop, and what is passed comes back.
use Rattle.std.proofs.Common.{◌≡◌, ℕ, Bool, true, false, List, [], ◌∷◌, ◌++◌, map, ◌⊎◌, inl, inr, refl, sym, ap, ◌∙◌}
use Rattle.std.proofs.lemmas.Bool.{or_cases}
use Rattle.std.specs.Prelude.{◌||◌, ◌&&◌, Ok, if◌then◌else◌}
use Rattle.adj_tree.specs.Code.{Var, plain, shadow, helper, var_eq, name_eq, Term, lit, var, elem, neg, bin, pow, power_of, abs, Terms, none, more, Test, compare, negation, conjunction, disjunction, Mark, unmarked, with_count, count_from, Act, assign, choose, loop, during, call, runtime, Code, stop, step, Declaration}
use Rattle.adj_tree.proofs.Names.{name_refl, name_same}
use Rattle.def_meaning.specs.Trap.{then_ok}
use Rattle.def_meaning.specs.Numbers.{Numbers}
use Rattle.def_meaning.specs.Store.{Store, set_all}
use Rattle.def_meaning.specs.Value.{Setting}
use Rattle.def_meaning.specs.LeastSet.{Dummies}
use Rattle.def_meaning.specs.Read.{reads_term, reads_terms, reads_test, reads_mark, names_extent}
use Rattle.def_meaning.specs.Written.{is_place_of, is_handed_back, act_writes, writes}
use Rattle.def_meaning.specs.Units.{actuals, declared, entry_store, copied_out}
use Rattle.def_meaning.proofs.Booleans.{or_first, or_second, and_true}
use Rattle.def_meaning.proofs.Variables.{var_same}
use Rattle.def_meaning.specs.Apart.{has_name}
use Rattle.def_names.proofs.NameLists.{has-append}
use Rattle.law_kernel.specs.Apart.{ActInside, CodeInside, EachCall', EachCall}
use Rattle.def_kernel.specs.Kernel.{named, names_in, names_in_all, names_in_test, names_in_mark, names_in_act, names_in_code}
use Rattle.def_kernel.specs.Stepped.{once_each, is_extent_of, used_among, as_actuals, step_declarations}
use Rattle.law_kernel.proofs.HandingBack.{by_name, by_names}

-- a name in two lists one after the other is in one of them
has_either : (x : List ℕ) (xs ys : List (List ℕ)) → has_name x (xs ++ ys) ≡ true → (has_name x xs ≡ true) ⊎ (has_name x ys ≡ true)
has_either x xs ys h = or_cases (has_name x xs) (has_name x ys) (sym (has-append x xs ys) ∙ h)

-- ---- names and reading

-- a name of a variable is that variable
named_is : (y : List ℕ) (x : Var) → has_name y (named x) ≡ true → var_eq (plain y) x ≡ true
named_is y (plain x) h = go (or_cases (name_eq y x) false h)
  where
    go : (name_eq y x ≡ true) ⊎ (false ≡ true) → name_eq y x ≡ true
    go (inl e) = e
    go (inr e) = absurd cc
named_is y (shadow x) h = absurd cc
named_is y (helper r k) h = absurd cc

-- either part
in_or : (a b : Bool) → (a ≡ true) ⊎ (b ≡ true) → (a || b) ≡ true
in_or a b (inl e) = or_first a b e
in_or a b (inr e) = or_second a b e

map_either : {A B A1 B1 : Type 0} → (A → A1) → (B → B1) → A ⊎ B → A1 ⊎ B1
map_either f g (inl a) = inl (f a)
map_either f g (inr b) = inr (g b)

module _ (y : List ℕ) where
  mutual
    -- a name in an expression is read by it
    reads_named : (e : Term) → has_name y (names_in e) ≡ true → reads_term (plain y) e ≡ true
    reads_named (lit z) h = absurd cc
    reads_named (var x) h = named_is y x h
    reads_named (elem x subs) h = in_or (var_eq (plain y) x) (reads_terms (plain y) subs) (map_either (named_is y x) (reads_all_named subs) (has_either y (named x) (names_in_all subs) h))
    reads_named (neg a) h = reads_named a h
    reads_named (bin op a b) h = in_or (reads_term (plain y) a) (reads_term (plain y) b) (map_either (reads_named a) (reads_named b) (has_either y (names_in a) (names_in b) h))
    reads_named (pow a k) h = reads_named a h
    reads_named (power_of a b) h = in_or (reads_term (plain y) a) (reads_term (plain y) b) (map_either (reads_named a) (reads_named b) (has_either y (names_in a) (names_in b) h))
    reads_named (abs a) h = reads_named a h

    -- of several expressions
    reads_all_named : (es : Terms) → has_name y (names_in_all es) ≡ true → reads_terms (plain y) es ≡ true
    reads_all_named none h = absurd cc
    reads_all_named (more e es) h = in_or (reads_term (plain y) e) (reads_terms (plain y) es) (map_either (reads_named e) (reads_all_named es) (has_either y (names_in e) (names_in_all es) h))

  -- of a condition
  reads_test_named : (c : Test) → has_name y (names_in_test c) ≡ true → reads_test (plain y) c ≡ true
  reads_test_named (compare r a b) h = in_or (reads_term (plain y) a) (reads_term (plain y) b) (map_either (reads_named a) (reads_named b) (has_either y (names_in a) (names_in b) h))
  reads_test_named (negation c) h = reads_test_named c h
  reads_test_named (conjunction c d) h = in_or (reads_test (plain y) c) (reads_test (plain y) d) (map_either (reads_test_named c) (reads_test_named d) (has_either y (names_in_test c) (names_in_test d) h))
  reads_test_named (disjunction c d) h = in_or (reads_test (plain y) c) (reads_test (plain y) d) (map_either (reads_test_named c) (reads_test_named d) (has_either y (names_in_test c) (names_in_test d) h))

  -- of a mark
  reads_mark_named : (m : Mark) → has_name y (names_in_mark m) ≡ true → reads_mark (plain y) m ≡ true
  reads_mark_named unmarked h = absurd cc
  reads_mark_named (with_count k) h = absurd cc
  reads_mark_named (count_from x) h = named_is y x h

  module _ (inside : Var → Bool) where
    one_of : {A B : Type 0} → (A → inside (plain y) ≡ true) → (B → inside (plain y) ≡ true) → A ⊎ B → inside (plain y) ≡ true
    one_of f g (inl a) = f a
    one_of f g (inr b) = g b

    target_named : (x : Var) → inside x ≡ true → has_name y (named x) ≡ true → inside (plain y) ≡ true
    target_named x h e = ap inside (var_same (plain y) x (named_is y x e)) ∙ h

    mutual
      -- a name in statements that are inside is inside
      act_named : (P : List ℕ → Terms → Type 0) (a : Act) → ActInside inside a → EachCall' P a → has_name y (names_in_act a) ≡ true → inside (plain y) ≡ true
      act_named P (assign x subs e) i p h =
          one_of (target_named x i.0) (λ g. one_of (λ k. i.1.0 (plain y) (reads_all_named subs k)) (λ k. i.1.1 (plain y) (reads_named e k)) (has_either y (names_in_all subs) (names_in e) g)) (has_either y (named x) (names_in_all subs ++ names_in e) h)
      act_named P (choose c a b) i p h =
          one_of (λ k. i.0 (plain y) (reads_test_named c k)) (λ g. one_of (code_named P a i.1.0 p.0) (code_named P b i.1.1 p.1) (has_either y (names_in_code a) (names_in_code b) g)) (has_either y (names_in_test c) (names_in_code a ++ names_in_code b) h)
      act_named P (loop x first last by body m) i p h =
          one_of (λ k. i.1.0.0 (plain y) (reads_mark_named m k))
          (λ h1. one_of (target_named x i.0)
          (λ g. one_of (λ k. i.1.0.1.0 (plain y) (reads_named first k))
          (λ g1. one_of (λ k. i.1.0.1.1.0 (plain y) (reads_named last k))
          (λ g2. one_of (λ k. i.1.0.1.1.1 (plain y) (reads_named by k)) (code_named P body i.1.1 p) (has_either y (names_in by) (names_in_code body) g2))
          (has_either y (names_in last) (names_in by ++ names_in_code body) g1))
          (has_either y (names_in first) (names_in last ++ (names_in by ++ names_in_code body)) g))
          (has_either y (named x) (names_in first ++ (names_in last ++ (names_in by ++ names_in_code body))) h1))
          (has_either y (names_in_mark m) (named x ++ (names_in first ++ (names_in last ++ (names_in by ++ names_in_code body)))) h)
      act_named P (during c body) i p h = one_of (λ k. i.0 (plain y) (reads_test_named c k)) (code_named P body i.1 p) (has_either y (names_in_test c) (names_in_code body) h)
      act_named P (call name args) i p h = i (plain y) (reads_all_named args h)
      act_named P (runtime r) i p h = absurd p

      pub code_named : (P : List ℕ → Terms → Type 0) (c : Code) → CodeInside inside c → EachCall P c → has_name y (names_in_code c) ≡ true → inside (plain y) ≡ true
      code_named P stop i p h = absurd cc
      code_named P (step line a rest) i p h = one_of (act_named P a i.0 p.0) (code_named P rest i.1 p.1) (has_either y (names_in_act a) (names_in_code rest) h)

    -- of a loop
    pub loop_named : (P : List ℕ → Terms → Type 0) (x : Var) (body : Code) → inside x ≡ true → CodeInside inside body → EachCall P body → has_name y (named x ++ names_in_code body) ≡ true → inside (plain y) ≡ true
    loop_named P x body hx i p h = one_of (target_named x hx) (code_named P body i p) (has_either y (named x) (names_in_code body) h)

-- what statements inside may write is inside
place_read : (x : Var) (e : Term) → is_place_of x e ≡ true → reads_term x e ≡ true
place_read x (lit z) h = absurd cc
place_read x (var y) h = h
place_read x (elem y subs) h = or_first (var_eq x y) (reads_terms x subs) h
place_read x (neg a) h = absurd cc
place_read x (bin op a b) h = absurd cc
place_read x (pow a k) h = absurd cc
place_read x (power_of a b) h = absurd cc
place_read x (abs a) h = absurd cc

handed_read : (x : Var) (ws : List Bool) (es : Terms) → is_handed_back x ws es ≡ true → reads_terms x es ≡ true
handed_read x [] es h = absurd cc
handed_read x (w ∷ ws) none h = absurd cc
handed_read x (w ∷ ws) (more e es) h =
    in_or (reads_term x e) (reads_terms x es) (map_either (λ g. place_read x e (and_true w (is_place_of x e) g).1) (handed_read x ws es) (or_cases (w && is_place_of x e) (is_handed_back x ws es) h))

module _ (inside : Var → Bool) (handed : Dummies) (P : List ℕ → Terms → Type 0) (x : Var) where
  where_set : (y : Var) → inside y ≡ true → var_eq x y ≡ true → inside x ≡ true
  where_set y h e = ap inside (var_same x y e) ∙ h

  either_way : {A B : Type 0} → (A → inside x ≡ true) → (B → inside x ≡ true) → A ⊎ B → inside x ≡ true
  either_way f g (inl a) = f a
  either_way f g (inr b) = g b

  mutual
    -- what a statement writes is inside
    act_writes_inside : (a : Act) → ActInside inside a → EachCall' P a → act_writes handed x a ≡ true → inside x ≡ true
    act_writes_inside (assign y subs e) i p h = where_set y i.0 h
    act_writes_inside (choose c a b) i p h = either_way (writes_inside a i.1.0 p.0) (writes_inside b i.1.1 p.1) (or_cases (writes handed x a) (writes handed x b) h)
    act_writes_inside (loop y first last by body m) i p h = either_way (where_set y i.0) (writes_inside body i.1.1 p) (or_cases (var_eq x y) (writes handed x body) h)
    act_writes_inside (during c body) i p h = writes_inside body i.1 p h
    act_writes_inside (call name args) i p h = i x (handed_read x (handed name) args h)
    act_writes_inside (runtime r) i p h = absurd p

    -- and what a list writes
    pub writes_inside : (c : Code) → CodeInside inside c → EachCall P c → writes handed x c ≡ true → inside x ≡ true
    writes_inside stop i p h = absurd cc
    writes_inside (step line a rest) i p h = either_way (act_writes_inside a i.0 p.0) (writes_inside rest i.1 p.1) (or_cases (act_writes handed x a) (writes handed x rest) h)

-- ---- dummies

once_has : (y : List ℕ) (before xs : List (List ℕ)) → has_name y xs ≡ true → has_name y before ≡ false → has_name y (once_each before xs) ≡ true
once_has y before [] h n = absurd cc
once_has y before (x ∷ xs) h n = go (has_name x before) refl (name_eq y x) refl (λ g. once_has y before xs g n) (λ g m. once_has y (x ∷ before) xs g m)
  where
    go : (b : Bool) → has_name x before ≡ b → (c : Bool) → name_eq y x ≡ c → (has_name y xs ≡ true → has_name y (once_each before xs) ≡ true) → (has_name y xs ≡ true → has_name y (x ∷ before) ≡ false → has_name y (once_each (x ∷ before) xs) ≡ true) →
        has_name y (if b then once_each before xs else x ∷ once_each (x ∷ before) xs) ≡ true
    go true e true f ih ih1 = absurd (let z : true ≡ false = sym e ∙ ap (λ v. has_name v before) (sym (name_same y x f)) ∙ n in cc)
    go true e false f ih ih1 = ih (sym (ap (λ z. z || has_name y xs) f) ∙ h)
    go false e true f ih ih1 = or_first (name_eq y x) (has_name y (once_each (x ∷ before) xs)) f
    go false e false f ih ih1 = or_second (name_eq y x) (has_name y (once_each (x ∷ before) xs)) (ih1 (sym (ap (λ z. z || has_name y xs) f) ∙ h) (ap (λ z. z || has_name y before) f ∙ n))

-- each name is listed
pub listed_once : (y : List ℕ) (xs : List (List ℕ)) → has_name y xs ≡ true → has_name y (once_each [] xs) ≡ true
listed_once y xs h = once_has y [] xs h refl

-- whether a name is used
abbrev pub is_used : List Declaration → List (List ℕ) → List ℕ → Bool
is_used ds names y = has_name y names || is_extent_of ds y names

-- a variable that is used is a dummy
pub used_has : (ds : List Declaration) (names vs : List (List ℕ)) (y : List ℕ) → has_name y vs ≡ true → is_used ds names y ≡ true → has_name y (used_among ds names vs) ≡ true
used_has ds names [] y h g = absurd cc
used_has ds names (v ∷ vs) y h g = go (is_used ds names v) refl (name_eq y v) refl (λ k. used_has ds names vs y k g)
  where
    go : (b : Bool) → is_used ds names v ≡ b → (c : Bool) → name_eq y v ≡ c → (has_name y vs ≡ true → has_name y (used_among ds names vs) ≡ true) → has_name y (if b then v ∷ used_among ds names vs else used_among ds names vs) ≡ true
    go true e true f ih = or_first (name_eq y v) (has_name y (used_among ds names vs)) f
    go true e false f ih = or_second (name_eq y v) (has_name y (used_among ds names vs)) (ih (sym (ap (λ z. z || has_name y vs) f) ∙ h))
    go false e true f ih = absurd (let z : true ≡ false = sym g ∙ ap (is_used ds names) (name_same y v f) ∙ e in cc)
    go false e false f ih = ih (sym (ap (λ z. z || has_name y vs) f) ∙ h)

-- a dummy is used
pub used_is : (ds : List Declaration) (names vs : List (List ℕ)) (y : List ℕ) → has_name y (used_among ds names vs) ≡ true → is_used ds names y ≡ true
used_is ds names [] y h = absurd cc
used_is ds names (v ∷ vs) y h = go (is_used ds names v) refl (λ k. used_is ds names vs y k) h
  where
    go : (b : Bool) → is_used ds names v ≡ b → (has_name y (used_among ds names vs) ≡ true → is_used ds names y ≡ true) → has_name y (if b then v ∷ used_among ds names vs else used_among ds names vs) ≡ true → is_used ds names y ≡ true
    go true e ih h = one (or_cases (name_eq y v) (has_name y (used_among ds names vs)) h)
      where
        one : (name_eq y v ≡ true) ⊎ (has_name y (used_among ds names vs) ≡ true) → is_used ds names y ≡ true
        one (inl f) = ap (is_used ds names) (name_same y v f) ∙ e
        one (inr f) = ih f
    go false e ih h = ih h

-- an extent of a name among some is an extent of one of them, and the other way
pub extent_among : (ds : List Declaration) (d y : List ℕ) (names : List (List ℕ)) → has_name y names ≡ true → names_extent d (declared ds (plain y)) ≡ true → is_extent_of ds d names ≡ true
extent_among ds d y [] h g = absurd cc
extent_among ds d y (v ∷ vs) h g = in_or (names_extent d (declared ds (plain v))) (is_extent_of ds d vs) (map_either (λ f. ap (λ z. names_extent d (declared ds (plain z))) (sym (name_same y v f)) ∙ g) (λ k. extent_among ds d y vs k g) (or_cases (name_eq y v) (has_name y vs) h))

-- a variable of which it is an extent
pub record ExtentOf (ds : List Declaration) (d : List ℕ) (names : List (List ℕ)) : Type 0 where
  pub of : List ℕ
  pub among : has_name of names ≡ true
  pub is : names_extent d (declared ds (plain of)) ≡ true

pub among_extent : (ds : List Declaration) (d : List ℕ) (names : List (List ℕ)) → is_extent_of ds d names ≡ true → ExtentOf ds d names
among_extent ds d [] h = absurd cc
among_extent ds d (v ∷ vs) h = go (or_cases (names_extent d (declared ds (plain v))) (is_extent_of ds d vs) h) (λ k. among_extent ds d vs k)
  where
    go : (names_extent d (declared ds (plain v)) ≡ true) ⊎ (is_extent_of ds d vs ≡ true) → (is_extent_of ds d vs ≡ true → ExtentOf ds d vs) → ExtentOf ds d (v ∷ vs)
    go (inl e) ih = record { of = v; among = or_first (name_eq v v) (has_name v vs) (name_refl v); is = e }
    go (inr e) ih = let f = ih e in record { of = f.of; among = or_second (name_eq f.of v) (has_name f.of vs) f.among; is = f.is }

-- ---- declarations, actuals, entry and return

-- a dummy is declared as in the unit
pub declared_step : (ds : List Declaration) (line : ℕ) (vs : List (List ℕ)) (y : List ℕ) → has_name y vs ≡ true → declared (step_declarations ds line vs) (plain y) ≡ declared ds (plain y)
declared_step ds line [] y h = absurd cc
declared_step ds line (v ∷ vs) y h = go (name_eq y v) refl (or_cases (name_eq y v) (has_name y vs) h) (λ k. declared_step ds line vs y k)
  where
    go : (b : Bool) → name_eq y v ≡ b → (name_eq y v ≡ true) ⊎ (has_name y vs ≡ true) → (has_name y vs ≡ true → declared (step_declarations ds line vs) (plain y) ≡ declared ds (plain y)) → (if b then declared ds (plain v) else declared (step_declarations ds line vs) (plain y)) ≡ declared ds (plain y)
    go true e o ih = ap (λ z. declared ds (plain z)) (sym (name_same y v e))
    go false e (inl f) ih = absurd (let z : true ≡ false = sym f ∙ e in cc)
    go false e (inr f) ih = ih f

abbrev pub plains : List (List ℕ) → List Var
plains [] = []
plains (x ∷ xs) = plain x ∷ plains xs

module _ {C : Type 0} (n : Setting C) (t : Store C) where
  -- the actuals of the call are the variables
  pub actuals_are : (vs : List (List ℕ)) → actuals n (as_actuals vs) t ≡ Ok (by_names n t (plains vs))
  actuals_are [] = refl
  actuals_are (v ∷ vs) = ap (λ z. then_ok z (λ got. Ok (by_name n t (plain v) ∷ got))) (actuals_are vs)

  -- at the entry each dummy holds what the variable holds
  pub entry_is : (N : Numbers C) (vs : List (List ℕ)) (y : List ℕ) (i : ℕ) → has_name y vs ≡ true → entry_store N vs (by_names n t (plains vs)) (plain y) i ≡ t (plain y) i
  entry_is N [] y i h = absurd cc
  entry_is N (v ∷ vs) y i h = go (name_eq y v) refl (or_cases (name_eq y v) (has_name y vs) h) (λ k. entry_is N vs y i k)
    where
      go : (b : Bool) → name_eq y v ≡ b → (name_eq y v ≡ true) ⊎ (has_name y vs ≡ true) → (has_name y vs ≡ true → entry_store N vs (by_names n t (plains vs)) (plain y) i ≡ t (plain y) i) → (if b then t (plain v) i else entry_store N vs (by_names n t (plains vs)) (plain y) i) ≡ t (plain y) i
      go true e o ih = ap (λ z. t (plain z) i) (sym (name_same y v e))
      go false e (inl f) ih = absurd (let z : true ≡ false = sym f ∙ e in cc)
      go false e (inr f) ih = ih f

  -- a variable that isn't handed back is as it was
  pub back_kept : (f : List ℕ → Bool) (vs : List (List ℕ)) (r g : Store C) (y : List ℕ) (i : ℕ) → (has_name y vs ≡ true → f y ≡ false) → copied_out vs (map f vs) (by_names n t (plains vs)) r g (plain y) i ≡ g (plain y) i
  back_kept f [] r g y i h = refl
  back_kept f (v ∷ vs) r g y i h =
      back_kept f vs r (if f v then set_all g (plain v) (r (plain v)) else g) y i (λ k. h (or_second (name_eq y v) (has_name y vs) k)) ∙ go (f v) refl (name_eq y v) refl
    where
      go : (b : Bool) → f v ≡ b → (c : Bool) → name_eq y v ≡ c → (if b then set_all g (plain v) (r (plain v)) else g) (plain y) i ≡ g (plain y) i
      go true e true k = absurd (let z : true ≡ false = sym e ∙ ap f (sym (name_same y v k)) ∙ h (or_first (name_eq y v) (has_name y vs) k) in cc)
      go true e false k = ap (λ z. if z then r (plain v) i else g (plain y) i) k
      go false e c k = refl

  -- one that is holds what the dummy holds
  pub back_written : (f : List ℕ → Bool) (vs : List (List ℕ)) (r g : Store C) (y : List ℕ) (i : ℕ) → has_name y vs ≡ true → f y ≡ true → copied_out vs (map f vs) (by_names n t (plains vs)) r g (plain y) i ≡ r (plain y) i
  back_written f [] r g y i h w = absurd cc
  back_written f (v ∷ vs) r g y i h w = go (has_name y vs) refl (or_cases (name_eq y v) (has_name y vs) h) (λ k. back_written f vs r (if f v then set_all g (plain v) (r (plain v)) else g) y i k w)
    where
      later : Store C
      later = if f v then set_all g (plain v) (r (plain v)) else g

      go : (b : Bool) → has_name y vs ≡ b → (name_eq y v ≡ true) ⊎ (has_name y vs ≡ true) → (has_name y vs ≡ true → copied_out vs (map f vs) (by_names n t (plains vs)) r later (plain y) i ≡ r (plain y) i) → copied_out vs (map f vs) (by_names n t (plains vs)) r later (plain y) i ≡ r (plain y) i
      go true e o ih = ih e
      go false e (inr k) ih = ih k
      go false e (inl k) ih =
          back_kept f vs r later y i (λ z. absurd (let x : true ≡ false = sym z ∙ e in cc))
          ∙ ap (λ z. (if z then set_all g (plain v) (r (plain v)) else g) (plain y) i) (ap f (sym (name_same y v k)) ∙ w)
          ∙ ap (λ z. if z then r (plain v) i else g (plain y) i) k
          ∙ ap (λ z. r (plain z) i) (sym (name_same y v k))
