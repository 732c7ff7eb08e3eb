-- Actuals that clash, found one after the other.
use Rattle.std.proofs.Common.{◌≡◌, ℕ, ◌+◌, ◌<◌, length, get_or, drop, Bool, true, false, List, [], ◌∷◌, refl, sym, ap, ap₂, ◌∙◌, Option, Some, None, if◌then◌else◌}
use Rattle.std.specs.Prelude.{◌||◌, ◌&&◌}
use Rattle.std.proofs.lemmas.List.{drop_more}
use Rattle.adj_tree.specs.Code.{Var, plain, shadow, helper, var_eq, Term, lit, var, elem, neg, bin, pow, power_of, abs, Terms, none, more, Procedure}
use Rattle.def_meaning.proofs.Variables.{var_refl, var_same}
use Rattle.def_meaning.specs.Apart.{is_named, has_name}
use Rattle.def_meaning.specs.Written.{is_place_of}
use Rattle.def_names.specs.Variables.{Name}
use Rattle.def_names.specs.WriteFaults.{named_by, is_named_by, name_one, is_whole_array, clash, clashes, have_clash, hands_back_values}
use Rattle.adj_sets.specs.Sets.{with_name}
use Rattle.adj_symbols.specs.Sharing.{Named, and_named, is_met, Tests, tests_of, and_actual, meets_one, meets, some_meets}
use Rattle.adj_symbols.proofs.Repeats.{with_name-has}

-- a test that is true in both directions
pub both_ways : (a b : Bool) → (a ≡ true → b ≡ true) → (b ≡ true → a ≡ true) → a ≡ b
both_ways true true f g = refl
both_ways true false f g = sym (f refl)
both_ways false true f g = g refl
both_ways false false f g = refl

var_comm : (x y : Var) → var_eq x y ≡ var_eq y x
var_comm x y = both_ways (var_eq x y) (var_eq y x) (turned x y) (turned y x)
  where
    turned : (a b : Var) → var_eq a b ≡ true → var_eq b a ≡ true
    turned a b h = ap (λ z. var_eq z a) (sym (var_same a b h)) ∙ var_refl a

-- one more actual names the variable of another where they name one
one_named : (x : Var) (e : Term) → is_named_by (named_by e) (var x) ≡ is_place_of x e
one_named x (lit z) = refl
one_named x (var y) = var_comm y x
one_named x (elem y subs) = var_comm y x
one_named x (neg a) = refl
one_named x (bin op a b) = refl
one_named x (pow a k) = refl
one_named x (power_of a b) = refl
one_named x (abs a) = refl

-- what is asked of the variable that an actual names
by_variable : (n : Option Var) (f : Term) (x : Var) → named_by f ≡ Some x → is_named_by n f ≡ is_named_by n (var x)
by_variable None f x h = refl
by_variable (Some y) (lit z) x h = absurd cc
by_variable (Some y) (var z) x h = ap (var_eq y) (let e : z ≡ x = cc in e)
by_variable (Some y) (elem z subs) x h = ap (var_eq y) (let e : z ≡ x = cc in e)
by_variable (Some y) (neg a) x h = absurd cc
by_variable (Some y) (bin op a b) x h = absurd cc
by_variable (Some y) (pow a k) x h = absurd cc
by_variable (Some y) (power_of a b) x h = absurd cc
by_variable (Some y) (abs a) x h = absurd cc

no_variable : (n : Option Var) (f : Term) → named_by f ≡ None → is_named_by n f ≡ false
no_variable None f h = refl
no_variable (Some y) (lit z) h = refl
no_variable (Some y) (var z) h = absurd cc
no_variable (Some y) (elem z subs) h = absurd cc
no_variable (Some y) (neg a) h = refl
no_variable (Some y) (bin op a b) h = refl
no_variable (Some y) (pow a k) h = refl
no_variable (Some y) (power_of a b) h = refl
no_variable (Some y) (abs a) h = refl

-- an actual clashes with one of some and one more where it clashes with that or with one of these
table : (n s w v r wf we h : Bool) → (((n || s) && w) || (((v && n) || r) || (wf && ((we && n) || h)))) ≡ ((n && ((v || w) || (we && wf))) || ((s && w) || (r || (wf && h))))
table true true true v r wf we h = reorder v r wf we h
  where
    reorder : (v r wf we h : Bool) → true ≡ (((v || true) || (we && wf)) || true)
    reorder true r wf we h = refl
    reorder false r wf we h = refl
table true true false true r wf we h = refl
table true true false false true wf true h = last wf
  where
    last : (b : Bool) → true ≡ (b || true)
    last true = refl
    last false = refl
table true true false false true true false h = refl
table true true false false true false false h = refl
table true true false false false true true h = refl
table true true false false false true false h = refl
table true true false false false false true h = refl
table true true false false false false false h = refl
table true false true true r wf we h = refl
table true false true false r wf we h = refl
table true false false true r wf we h = refl
table true false false false true true true h = refl
table true false false false true true false h = refl
table true false false false true false true h = refl
table true false false false true false false h = refl
table true false false false false true true h = refl
table true false false false false true false h = refl
table true false false false false false true h = refl
table true false false false false false false h = refl
table false s w true r wf true h = refl
table false s w true r wf false h = refl
table false s w false r wf true h = refl
table false s w false r wf false h = refl

module _ (u : Procedure) where
  meets_more : (t : Tests) (v : Bool) (e : Term) (w : Bool) (f : Term) → meets u (and_actual u t v e) w f ≡ (clash u v e w f || meets u t w f)
  meets_more t v e w f = go (named_by f) refl
    where
      go : (n : Option Var) → named_by f ≡ n → meets_one u (and_actual u t v e) w f n ≡ ((name_one e f && ((v || w) || (is_whole_array u e && is_whole_array u f))) || meets_one u t w f n)
      go None h = ap (λ b. (b && ((v || w) || (is_whole_array u e && is_whole_array u f))) || false) (sym (no_variable (named_by e) f h))
      go (Some x) h =
          table (is_place_of x e) (t.seen x) w v (t.written x) (is_whole_array u f) (is_whole_array u e) (t.arrays x)
          ∙ ap (λ b. (b && ((v || w) || (is_whole_array u e && is_whole_array u f))) || meets_one u t w f (Some x)) (sym (by_variable (named_by e) f x h ∙ one_named x e))

  -- the first of four, in another order
  crossed : (a b c d e : Bool) → ((a || b) || (c || (d || e))) ≡ ((a || d) || (b || (c || e)))
  crossed true b c d e = refl
  crossed false true c true e = refl
  crossed false true true false e = refl
  crossed false true false false e = refl
  crossed false false true true e = refl
  crossed false false true false e = refl
  crossed false false false d e = refl

  some_more : (t : Tests) (v : Bool) (e : Term) (ws : List Bool) (fs : Terms) → some_meets u (and_actual u t v e) ws fs ≡ (clashes u v e ws fs || some_meets u t ws fs)
  some_more t v e [] fs = refl
  some_more t v e (w ∷ ws) none = refl
  some_more t v e (w ∷ ws) (more f fs) =
      ap₂ (λ a b. a || b) (meets_more t v e w f) (some_more (and_actual u t v e) w f ws fs ∙ ap (λ b. clashes u w f ws fs || b) (some_more t v e ws fs))
      ∙ crossed (clash u v e w f) (meets u t w f) (clashes u w f ws fs) (clashes u v e ws fs) (some_meets u t ws fs)
      ∙ ap (λ b. (clash u v e w f || clashes u v e ws fs) || (meets u t w f || b)) (sym (some_more t w f ws fs))

  -- one more actual is looked at
  pub goes_on : (t : Tests) (row : List Bool) (i : ℕ) (e : Term) (es : Terms) (b : Bool) → i < length row → b ≡ meets u t (get_or row i false) e → some_meets u t (drop i row) (more e es) ≡ (b || some_meets u (and_actual u t (get_or row i false) e) (drop (i + 1) row) es)
  goes_on t row i e es b lt h =
      ap (λ ws. some_meets u t ws (more e es)) (drop_more row i false lt)
      ∙ ap (λ c. c || some_meets u (and_actual u t (get_or row i false) e) (drop (i + 1) row) es) (sym h)

  pub no_actuals : (t : Tests) (ws : List Bool) → some_meets u t ws none ≡ false
  no_actuals t [] = refl
  no_actuals t (w ∷ ws) = refl

  -- where none is named, nothing clashes with any
  abbrev no_tests : Tests
  no_tests = record { seen = λ x. false; written = λ x. false; arrays = λ x. false }

  and_false : (b : Bool) → (b && false) ≡ false
  and_false true = refl
  and_false false = refl

  meets_none : (w : Bool) (e : Term) (n : Option Var) → meets_one u no_tests w e n ≡ false
  meets_none w e None = refl
  meets_none w e (Some x) = and_false (is_whole_array u e)

  some_none : (ws : List Bool) (es : Terms) → some_meets u no_tests ws es ≡ have_clash u ws es
  some_none [] es = refl
  some_none (w ∷ ws) none = refl
  some_none (w ∷ ws) (more e es) =
      ap₂ (λ a b. a || b) (meets_none w e (named_by e)) (some_more no_tests w e ws es ∙ ap (λ b. clashes u w e ws es || b) (some_none ws es))

  -- no names are no tests
  named_none : is_named [] ≡ (λ x. false)
  named_none i x = go x i
    where
      go : (y : Var) → is_named [] y ≡ false
      go (plain y) = refl
      go (shadow y) = refl
      go (helper r k) = refl

  pub at_first : (n : Named) (ws : List Bool) (es : Terms) → n ≡ record { seen = []; written = []; arrays = [] } → some_meets u (tests_of n) ws es ≡ have_clash u ws es
  at_first n ws es h = ap (λ z. some_meets u (tests_of z) ws es) h ∙ ap (λ p. some_meets u (record { seen = p; written = p; arrays = p }) ws es) named_none ∙ some_none ws es

  -- names with one more
  named_more : (xs : List Name) (x : Name) (e : Term) → named_by e ≡ Some (plain x) → is_named (with_name xs x) ≡ (λ y. is_place_of y e || is_named xs y)
  named_more xs x e h i y = go y i
    where
      place : (y : Var) → var_eq y (plain x) ≡ is_place_of y e
      place y = by_place e h
        where
          by_place : (f : Term) → named_by f ≡ Some (plain x) → var_eq y (plain x) ≡ is_place_of y f
          by_place (lit z) k = absurd cc
          by_place (var z) k = ap (var_eq y) (let q : plain x ≡ z = cc in q)
          by_place (elem z subs) k = ap (var_eq y) (let q : plain x ≡ z = cc in q)
          by_place (neg a) k = absurd cc
          by_place (bin op a b) k = absurd cc
          by_place (pow a m) k = absurd cc
          by_place (power_of a b) k = absurd cc
          by_place (abs a) k = absurd cc

      go : (y : Var) → is_named (with_name xs x) y ≡ (is_place_of y e || is_named xs y)
      go (plain z) = with_name-has z x xs ∙ ap (λ b. b || has_name z xs) (place (plain z))
      go (shadow z) = ap (λ b. b || false) (place (shadow z))
      go (helper r k) = ap (λ b. b || false) (place (helper r k))

  named_if : (b : Bool) (xs : List Name) (x : Name) (e : Term) → named_by e ≡ Some (plain x) → is_named (if b then with_name xs x else xs) ≡ (λ y. (b && is_place_of y e) || is_named xs y)
  named_if true xs x e h = named_more xs x e h
  named_if false xs x e h = refl

  -- one more actual that names a variable
  pub tests_more : (n : Named) (x : Name) (w : Bool) (e : Term) → named_by e ≡ Some (plain x) → tests_of (and_named n x w (is_whole_array u e)) ≡ and_actual u (tests_of n) w e
  tests_more n x w e h i = record { seen = named_more n.seen x e h i; written = named_if w n.written x e h i; arrays = named_if (is_whole_array u e) n.arrays x e h i }

  -- and one that names none
  place_none : (e : Term) → named_by e ≡ None → (y : Var) → false ≡ is_place_of y e
  place_none (lit z) h y = refl
  place_none (var z) h y = absurd cc
  place_none (elem z subs) h y = absurd cc
  place_none (neg a) h y = refl
  place_none (bin op a b) h y = refl
  place_none (pow a k) h y = refl
  place_none (power_of a b) h y = refl
  place_none (abs a) h y = refl

  pub tests_same : (n : Named) (w : Bool) (e : Term) → named_by e ≡ None → tests_of n ≡ and_actual u (tests_of n) w e
  tests_same n w e h =
      (λ i. record { seen = λ y. both n.seen y i; written = λ y. part w n.written y i; arrays = λ y. part (is_whole_array u e) n.arrays y i })
    where
      both : (xs : List Name) (y : Var) → is_named xs y ≡ (is_place_of y e || is_named xs y)
      both xs y = ap (λ b. b || is_named xs y) (place_none e h y)

      part : (b : Bool) (xs : List Name) (y : Var) → is_named xs y ≡ ((b && is_place_of y e) || is_named xs y)
      part b xs y = ap (λ c. c || is_named xs y) (sym (and_false b) ∙ ap (λ c. b && c) (place_none e h y))

  -- whether an actual clashes, by the variable that it names
  pub met : (n : Named) (x : Name) (w : Bool) (e : Term) → named_by e ≡ Some (plain x) → is_met n x w (is_whole_array u e) ≡ meets u (tests_of n) w e
  met n x w e h = ap (meets_one u (tests_of n) w e) (sym h)

  pub met_none : (n : Named) (w : Bool) (e : Term) → named_by e ≡ None → false ≡ meets u (tests_of n) w e
  met_none n w e h = ap (meets_one u (tests_of n) w e) (sym h)

-- without actuals there is none that is a value
pub no_values : (ws : List Bool) → hands_back_values ws none ≡ false
no_values [] = refl
no_values (w ∷ ws) = refl
