-- Names that stand more than once among the actuals of a call, before and after the call is lowered.
use Rattle.std.proofs.Common.{◌≡◌, ℕ, zero, suc, ◌+◌, ◌<◌, ◌≤◌, ◌⊎◌, inl, inr, Bool, true, false, List, ◌∷◌, sym, arith, subst}
use Rattle.std.proofs.lemmas.Bool.{or_cases}
use Rattle.adj_tree.specs.Code.{Var, var_eq, plus, minus, times, quot, modulo, greater, lesser, Term, lit, var, elem, neg, bin, pow, power_of, abs, Terms, none, more}
use Rattle.def_meaning.proofs.Booleans.{or_first, or_second}
use Rattle.def_meaning.proofs.Variables.{var_same}
use Rattle.def_kernel.specs.Lowered.{locals_in, locals_in_all, length_of, reduced, reduced_all, is_among, passing, passing_name, passing_element, locals_passing, passed}
use Rattle.def_kernel.specs.Calls.{is_name_of, stands_whole}
use Rattle.law_kernel.proofs.Faultless.{either_way}

module _ (R : Var → Type 0) where
  -- it holds of each name that stands twice as a whole
  abbrev pub Once : Terms → Type 0
  Once none = Unit {0}
  Once (more e es) = ((x : Var) → is_name_of x e ≡ true → stands_whole x es ≡ true → R x) × Once es

  -- and of each that stood earlier
  abbrev pub Earlier : List Var → Terms → Type 0
  Earlier earlier es = (x : Var) → is_among x earlier ≡ true → stands_whole x es ≡ true → R x

  module _ (local : ℕ → Var) (bound : ℕ) (locals : (k : ℕ) → k < bound → R (local k)) where
    -- a local is what locals are
    is_local : (x : Var) (k : ℕ) → k < bound → var_eq x (local k) ≡ true → R x
    is_local x k lt e = subst R (sym (var_same x (local k) e)) (locals k lt)

    -- a name that a reduced expression is was one, or is a local
    reduced_name : (x : Var) (j : ℕ) (e : Term) → j + locals_in e ≤ bound → is_name_of x (reduced local j e) ≡ true → (is_name_of x e ≡ true) ⊎ R x
    reduced_name x j (lit z) le h = absurd cc
    reduced_name x j (var y) le h = inl h
    reduced_name x j (elem y subs) le h = absurd cc
    reduced_name x j (neg a) le h = absurd cc
    reduced_name x j (bin plus a b) le h = absurd cc
    reduced_name x j (bin minus a b) le h = absurd cc
    reduced_name x j (bin times a b) le h = absurd cc
    reduced_name x j (bin quot a b) le h = absurd cc
    reduced_name x j (bin modulo a b) le h = absurd cc
    reduced_name x j (bin greater a b) le h = inr (is_local x (j + locals_in a + locals_in b) (omega (arith, le)) h)
    reduced_name x j (bin lesser a b) le h = inr (is_local x (j + locals_in a + locals_in b) (omega (arith, le)) h)
    reduced_name x j (pow a zero) le h = absurd cc
    reduced_name x j (pow a (suc k)) le h = absurd cc
    reduced_name x j (power_of a b) le h = absurd cc
    reduced_name x j (abs a) le h = inr (is_local x (j + locals_in a) (omega (arith, le)) h)

    -- so does one among reduced actuals
    reduced_stands : (x : Var) (j : ℕ) (es : Terms) → j + locals_in_all es ≤ bound → stands_whole x (reduced_all local j es) ≡ true → (stands_whole x es ≡ true) ⊎ R x
    reduced_stands x j none le h = absurd cc
    reduced_stands x j (more e es) le h =
        either_way (λ g. either_way (λ k. inl (or_first (is_name_of x e) (stands_whole x es) k)) inr (reduced_name x j e (omega (arith, le)) g)) (λ g. either_way (λ k. inl (or_second (is_name_of x e) (stands_whole x es) k)) inr (reduced_stands x (j + locals_in e) es (omega (arith, le)) g))
        (or_cases (is_name_of x (reduced local j e)) (stands_whole x (reduced_all local (j + locals_in e) es)) h)

    -- it holds of names that stand twice among reduced actuals
    pub reduced_once : (j : ℕ) (es : Terms) → j + locals_in_all es ≤ bound → Once es → Once (reduced_all local j es)
    reduced_once j none le o = tt
    reduced_once j (more e es) le o = (
      (λ x n s. either_way (λ g. either_way (λ k. o.0 x g k) (λ r. r) (reduced_stands x (j + locals_in e) es (omega (arith, le)) s)) (λ r. r) (reduced_name x j e (omega (arith, le)) n)),
      reduced_once (j + locals_in e) es (omega (arith, le)) o.1,
    )

    -- the name that an actual becomes stands earlier for those behind it
    pub next_earlier : (w : Bool) (earlier : List Var) (j : ℕ) (e : Term) (es : Terms) → j + locals_passing (passing w earlier e) ≤ bound → Once (more e es) → Earlier earlier (more e es) → Earlier (passed local j (passing w earlier e) ∷ earlier) es
    next_earlier w earlier j e es le o h x a s = either_way (λ g. own e le (λ n. o.0 x n s) g) (λ g. h x g (or_second (is_name_of x e) (stands_whole x es) s)) (or_cases (var_eq x (passed local j (passing w earlier e))) (is_among x earlier) a)
      where
        own : (e : Term) → j + locals_passing (passing w earlier e) ≤ bound → (is_name_of x e ≡ true → R x) → var_eq x (passed local j (passing w earlier e)) ≡ true → R x
        own (lit z) le f g = is_local x j (omega (arith, le)) g
        own (var y) le f g = by (is_among y earlier) le g
          where
            by : (b : Bool) → j + locals_passing (passing_name b y) ≤ bound → var_eq x (passed local j (passing_name b y)) ≡ true → R x
            by true le g = is_local x j (omega (arith, le)) g
            by false le g = f g
        own (elem y subs) le f g = by w le g
          where
            by : (b : Bool) → j + locals_passing (passing_element b y subs) ≤ bound → var_eq x (passed local j (passing_element b y subs)) ≡ true → R x
            by true le g = is_local x (j + (length_of subs + locals_in_all subs)) (omega (arith, le)) g
            by false le g = is_local x j (omega (arith, le)) g
        own (neg a) le f g = is_local x j (omega (arith, le)) g
        own (bin op a b) le f g = is_local x j (omega (arith, le)) g
        own (pow a k) le f g = is_local x j (omega (arith, le)) g
        own (power_of a b) le f g = is_local x j (omega (arith, le)) g
        own (abs a) le f g = is_local x j (omega (arith, le)) g
