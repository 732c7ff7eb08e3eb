-- Flags of the dummies that have columns do as those of the independents.
use Rattle.std.proofs.Common.{◌≡◌, ◌≢◌, ℕ, zero, suc, ◌+◌, ◌<◌, Bool, true, false, List, [], ◌∷◌, ◌++◌, map, length, take, drop, get_or, refl, sym, ap, ap₂, ◌∙◌, eq-eqb, arith}
use Rattle.std.specs.Prelude.{ℤ, ◌==◌, ◌||◌}
use Rattle.std.proofs.lemmas.Bool.{ne_eqb}
use Rattle.std.proofs.lemmas.List.{map-append, take_more}
use Rattle.def_meaning.specs.Units.{Slot}
use Rattle.def_jacobian.specs.Inputs.{by_columns}
use Rattle.def_jacobian.specs.Patterns.{Place}
use Rattle.def_jacobian.specs.Recovered.{from, places}
use Rattle.adj_jacobian_groups.specs.declared.sparsity.Cell.{Cell}
use Rattle.adj_jacobian_groups.specs.View.{place_of}
use Rattle.adj_reach.specs.Edges.{flag}
use Rattle.adj_jacobian.specs.Walks.{cells_by, has_dummy, next_column}
use Rattle.adj_jacobian.proofs.Walking.{one_dummy}

-- the cells of a dummy from one on
abbrev own_places : ℕ → ℕ → ℕ → List Place
own_places i k n = map (λ c. record { dummy = i; cell = c }) (from k n)

or_joined : (a b c : Bool) → (a || (b || c)) ≡ ((a || b) || c)
or_joined true b c = refl
or_joined false b c = refl

has_dummy_parts : (xs ys : List Place) (d : ℕ) → has_dummy (xs ++ ys) d ≡ (has_dummy xs d || has_dummy ys d)
has_dummy_parts [] ys d = refl
has_dummy_parts (x ∷ xs) ys d = ap (λ b. (x.dummy == d) || b) (has_dummy_parts xs ys d) ∙ or_joined (x.dummy == d) (has_dummy xs d) (has_dummy ys d)

at_front : (a b : Bool) → (a || (b || false)) ≡ (b || a)
at_front true true = refl
at_front true false = refl
at_front false true = refl
at_front false false = refl

-- the dummies of one column more
dummy_more : (columns : List Cell) (k i : ℕ) (d : Cell) → k < length columns → has_dummy (map place_of (take (k + 1) columns)) i ≡ (((get_or columns k d).dummy == i) || has_dummy (map place_of (take k columns)) i)
dummy_more columns k i d h =
    ap (λ z. has_dummy (map place_of z) i) (take_more columns k d h)
    ∙ ap (λ ps. has_dummy ps i) (map-append place_of (take k columns) (get_or columns k d ∷ []))
    ∙ has_dummy_parts (map place_of (take k columns)) (place_of (get_or columns k d) ∷ []) i
    ∙ at_front (has_dummy (map place_of (take k columns)) i) ((get_or columns k d).dummy == i)

-- the flags with one column more
pub one_flagged : (columns : List Cell) (k i : ℕ) (d : Cell) (new old : List Bool) → k < length columns → flag new i ≡ (((get_or columns k d).dummy == i) || flag old i) → flag old i ≡ has_dummy (map place_of (take k columns)) i →
    flag new i ≡ has_dummy (map place_of (take (k + 1) columns)) i
one_flagged columns k i d new old h e was = e ∙ ap (λ b. ((get_or columns k d).dummy == i) || b) was ∙ sym (dummy_more columns k i d h)

-- a dummy's cells are its own
own_other : (i k n d : ℕ) → i ≢ d → has_dummy (own_places i k n) d ≡ false
own_other i k zero d f = refl
own_other i k (suc n) d f = ap₂ (λ a b. a || b) (ne_eqb i d f) (own_other i (suc k) n d f)

own_some : (i k n : ℕ) → has_dummy (own_places i k (suc n)) i ≡ true
own_some i k n = ap (λ a. a || has_dummy (own_places i (suc k) n) i) (eq-eqb i i refl)

-- the later dummies' cells aren't a dummy's
later_none : (vars : List Bool) (vs : List (Slot ℤ)) (i d : ℕ) → d < i → has_dummy (places vars vs i) d ≡ false
later_none vars [] i d lt = refl
later_none [] (v ∷ vs) i d lt = refl
later_none (true ∷ vars) (v ∷ vs) i d lt =
    has_dummy_parts (own_places i 0 (length v.cells)) (places vars vs (suc i)) d
    ∙ ap₂ (λ a b. a || b) (own_other i 0 (length v.cells) d (λ e. let n : ⊥ = omega (arith, lt, e) in n)) (later_none vars vs (suc i) d (omega (arith, lt)))
later_none (false ∷ vars) (v ∷ vs) i d lt = later_none vars vs (suc i) d (omega (arith, lt))

no_places : (vs : List (Slot ℤ)) (i : ℕ) → places [] vs i ≡ []
no_places [] i = refl
no_places (v ∷ vs) i = refl

-- whether the first dummy has columns: where it is flagged and has cells
first_has : (vars : List Bool) (v : Slot ℤ) (vs : List (Slot ℤ)) (i : ℕ) → flag vars 0 ≡ false → has_dummy (places vars (v ∷ vs) i) i ≡ false
first_has [] v vs i e = refl
first_has (true ∷ vars) v vs i e = cc
first_has (false ∷ vars) v vs i e = later_none vars vs (suc i) i (omega arith)

-- the others are those of the rest
rest_has : (vars : List Bool) (v : Slot ℤ) (vs : List (Slot ℤ)) (i d : ℕ) → i ≢ d → has_dummy (places vars (v ∷ vs) i) d ≡ has_dummy (places (drop 1 vars) vs (suc i)) d
rest_has [] v vs i d f = sym (ap (λ ps. has_dummy ps d) (no_places vs (suc i)))
rest_has (true ∷ vars) v vs i d f =
    has_dummy_parts (own_places i 0 (length v.cells)) (places vars vs (suc i)) d
    ∙ ap (λ a. a || has_dummy (places vars vs (suc i)) d) (own_other i 0 (length v.cells) d f)
rest_has (false ∷ vars) v vs i d f = refl

drop_flag : (fs : List Bool) (d : ℕ) → flag (drop 1 fs) d ≡ flag fs (suc d)
drop_flag [] zero = refl
drop_flag [] (suc d) = refl
drop_flag (f ∷ fs) d = refl

module _ {C : Type 0} (other : ℤ → C) (own : ℤ → ℕ → C) where
  -- a dummy without cells may be flagged or not
  same_cells : (f t : Bool) (zs : List ℤ) (j : ℕ) → (0 < length zs → f ≡ t) → cells_by other own f zs j ≡ cells_by other own t zs j
  same_cells true true zs j h = refl
  same_cells false false zs j h = refl
  same_cells true false [] j h = refl
  same_cells false true [] j h = refl
  same_cells true false (z ∷ zs) j h = let e : true ≡ false = h (omega arith) in cc
  same_cells false true (z ∷ zs) j h = let e : false ≡ true = h (omega arith) in cc

  same_next : (f t : Bool) (j n : ℕ) → (0 < n → f ≡ t) → next_column f j n ≡ next_column t j n
  same_next true true j n h = refl
  same_next false false j n h = refl
  same_next true false j zero h = omega arith
  same_next false true j zero h = omega arith
  same_next true false j (suc n) h = let e : true ≡ false = h (omega arith) in cc
  same_next false true j (suc n) h = let e : false ≡ true = h (omega arith) in cc

  first_flag : (f t : Bool) (fs : List Bool) (v : Slot ℤ) (vs : List (Slot ℤ)) (i : ℕ) → flag fs 0 ≡ t → f ≡ has_dummy (places fs (v ∷ vs) i) i → 0 < length v.cells → f ≡ t
  first_flag f false fs v vs i e h some = h ∙ first_has fs v vs i e
  first_flag f true [] v vs i e h some = cc
  first_flag f true (false ∷ fs) v vs i e h some = cc
  first_flag f true (true ∷ fs) v vs i e h some = h ∙ by v.cells some
    where
      by : (zs : List ℤ) → 0 < length zs → has_dummy (own_places i 0 (length zs) ++ places fs vs (suc i)) i ≡ true
      by [] less = absurd (omega (arith, less))
      by (z ∷ zs) less = has_dummy_parts (own_places i 0 (suc (length zs))) (places fs vs (suc i)) i ∙ ap (λ a. a || has_dummy (places fs vs (suc i)) i) (own_some i 0 (length zs))

  -- flags of the dummies with columns give the same input
  pub same_flags : (vs : List (Slot ℤ)) (fs vars : List Bool) (j i : ℕ) → ((d : ℕ) → d < length vs → flag fs d ≡ has_dummy (places vars vs i) (i + d)) → by_columns other own fs vs j ≡ by_columns other own vars vs j
  same_flags [] fs vars j i h = refl
  same_flags (v ∷ vs) fs vars j i h =
      let alike : 0 < length v.cells → flag fs 0 ≡ flag vars 0 = λ some. first_flag (flag fs 0) (flag vars 0) vars v vs i refl (h 0 (omega arith) ∙ ap (has_dummy (places vars (v ∷ vs) i)) (let e : i + 0 ≡ i = omega arith in e)) some in
      one_dummy other own fs v vs j
      ∙ (λ k. record { shape = v.shape; cells = same_cells (flag fs 0) (flag vars 0) v.cells j alike k } ∷ by_columns other own (drop 1 fs) vs (same_next (flag fs 0) (flag vars 0) j (length v.cells) alike k))
      ∙ ap (λ rest. record { shape = v.shape; cells = cells_by other own (flag vars 0) v.cells j } ∷ rest)
      (same_flags vs (drop 1 fs) (drop 1 vars) (next_column (flag vars 0) j (length v.cells)) (suc i)
      (λ d lt. drop_flag fs d ∙ h (suc d) (omega (arith, lt)) ∙ rest_has vars v vs i (i + suc d) (λ e. let n : ⊥ = omega (arith, e) in n) ∙ ap (has_dummy (places (drop 1 vars) vs (suc i))) (let e : i + suc d ≡ suc i + d = omega arith in e)))
      ∙ sym (one_dummy other own vars v vs j)
