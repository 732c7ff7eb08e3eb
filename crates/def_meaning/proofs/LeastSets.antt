-- What is found round by round is the least set by its rule, for each rule that finds more where more is known.
use Rattle.std.proofs.Common.{◌≡◌, ℕ, zero, suc, ◌+◌, ◌<◌, ◌≤◌, ◌⊎◌, inl, inr, Bool, true, false, List, [], ◌∷◌, refl, sym, ap, ◌∙◌, arith}
use Rattle.std.specs.Prelude.{Option, Some, None, map, length, if◌then◌else◌}
use Rattle.adj_tree.specs.Code.{name_eq, Procedure}
use Rattle.def_meaning.specs.LeastSet.{Dummies, Rule, row_of, no_dummies, by_rule, rounds, dummies_in_all, least_rows, in_least, IsWithin, AreWithin, IsLeast}
use Rattle.def_meaning.specs.Written.{find_unit}

-- more is found where more is known
pub record Rises (rule : Rule) : Type 0 where
  pub by : (f g : Dummies) → ((name : List ℕ) → IsWithin (f name) (g name)) → (u : Procedure) (d : List ℕ) → rule f u d ≡ true → rule g u d ≡ true

-- a row of a set within another is within its row
pub row_within : (units : List Procedure) (vs ws : List (List Bool)) → AreWithin vs ws → (name : List ℕ) → IsWithin (row_of units vs name) (row_of units ws name)
row_within [] vs ws h name = tt
row_within (u ∷ us) [] [] h name = tt
row_within (u ∷ us) [] (w ∷ ws) h name = absurd h
row_within (u ∷ us) (v ∷ vs) [] h name = absurd h
row_within (u ∷ us) (v ∷ vs) (w ∷ ws) h name = go (name_eq u.name name) (row_within us vs ws h.1 name)
  where
    go : (b : Bool) → IsWithin (row_of us vs name) (row_of us ws name) → IsWithin (if b then v else row_of us vs name) (if b then w else row_of us ws name)
    go true r = h.0
    go false r = r

-- a row by one test is within that by a weaker one
map_within : (ds : List (List ℕ)) (f g : List ℕ → Bool) → ((d : List ℕ) → f d ≡ true → g d ≡ true) → IsWithin (map f ds) (map g ds)
map_within [] f g h = tt
map_within (d ∷ ds) f g h = (h d, map_within ds f g h)

maps_within : (us : List Procedure) (f g : Procedure → List ℕ → Bool) → ((u : Procedure) (d : List ℕ) → f u d ≡ true → g u d ≡ true) → AreWithin (map (λ u. map (f u) u.dummies) us) (map (λ u. map (g u) u.dummies) us)
maps_within [] f g h = tt
maps_within (u ∷ us) f g h = (map_within u.dummies (f u) (g u) (h u), maps_within us f g h)

module _ (rule : Rule) (rises : Rises rule) where
  -- a round finds more where it begins with more
  round_rises : (units : List Procedure) (vs ws : List (List Bool)) → AreWithin vs ws → AreWithin (by_rule rule units vs) (by_rule rule units ws)
  round_rises units vs ws h = maps_within units (rule (row_of units vs)) (rule (row_of units ws)) (rises.by (row_of units vs) (row_of units ws) (row_within units vs ws h))

  -- so each round finds more than the one before
  rounds_rise : (units : List Procedure) (k : ℕ) → AreWithin (rounds rule units k) (rounds rule units (suc k))
  rounds_rise units zero = maps_within units (λ u d. false) (rule (row_of units (no_dummies units))) (λ u d e. cc)
  rounds_rise units (suc k) = round_rises units (rounds rule units k) (rounds rule units (suc k)) (rounds_rise units k)

-- ---- counting

-- how many dummies a row has
abbrev pub count : List Bool → ℕ
count [] = 0
count (true ∷ ws) = suc (count ws)
count (false ∷ ws) = count ws

-- how many a set has
abbrev pub total : List (List Bool) → ℕ
total [] = 0
total (w ∷ ws) = count w + total ws

-- a row within another is the same or has fewer dummies
same_or_fewer : (vs ws : List Bool) → IsWithin vs ws → (vs ≡ ws) ⊎ (count vs < count ws)
same_or_fewer [] [] h = inl refl
same_or_fewer [] (w ∷ ws) h = absurd h
same_or_fewer (v ∷ vs) [] h = absurd h
same_or_fewer (true ∷ vs) (true ∷ ws) h = go (same_or_fewer vs ws h.1)
  where
    go : (vs ≡ ws) ⊎ (count vs < count ws) → (true ∷ vs ≡ true ∷ ws) ⊎ (suc (count vs) < suc (count ws))
    go (inl e) = inl (ap (λ z. true ∷ z) e)
    go (inr l) = inr (omega arith)
same_or_fewer (true ∷ vs) (false ∷ ws) h = absurd (let e : false ≡ true = h.0 refl in cc)
same_or_fewer (false ∷ vs) (true ∷ ws) h = go (same_or_fewer vs ws h.1)
  where
    go : (vs ≡ ws) ⊎ (count vs < count ws) → (false ∷ vs ≡ true ∷ ws) ⊎ (count vs < suc (count ws))
    go (inl e) = let c : count vs ≡ count ws = ap count e in inr (omega arith)
    go (inr l) = inr (omega arith)
same_or_fewer (false ∷ vs) (false ∷ ws) h = go (same_or_fewer vs ws h.1)
  where
    go : (vs ≡ ws) ⊎ (count vs < count ws) → (false ∷ vs ≡ false ∷ ws) ⊎ (count vs < count ws)
    go (inl e) = inl (ap (λ z. false ∷ z) e)
    go (inr l) = inr l

-- a set within another is the same or has fewer dummies
rows_same_or_fewer : (vs ws : List (List Bool)) → AreWithin vs ws → (vs ≡ ws) ⊎ (total vs < total ws)
rows_same_or_fewer [] [] h = inl refl
rows_same_or_fewer [] (w ∷ ws) h = absurd h
rows_same_or_fewer (v ∷ vs) [] h = absurd h
rows_same_or_fewer (v ∷ vs) (w ∷ ws) h = go (same_or_fewer v w h.0) (rows_same_or_fewer vs ws h.1)
  where
    go : (v ≡ w) ⊎ (count v < count w) → (vs ≡ ws) ⊎ (total vs < total ws) → (v ∷ vs ≡ w ∷ ws) ⊎ (count v + total vs < count w + total ws)
    go (inl e) (inl f) = inl (λ i. e i ∷ f i)
    go (inl e) (inr l) = let c : count v ≡ count w = ap count e in inr (omega arith)
    go (inr l) (inl f) = let c : total vs ≡ total ws = ap total f in inr (omega arith)
    go (inr l) (inr m) = inr (omega arith)

-- a row has no more dummies than its unit
count_most : (ds : List (List ℕ)) (f : List ℕ → Bool) → count (map f ds) ≤ length ds
count_most [] f = omega arith
count_most (d ∷ ds) f = go (f d) (count_most ds f)
  where
    go : (b : Bool) → count (map f ds) ≤ length ds → count (b ∷ map f ds) ≤ suc (length ds)
    go true h = omega arith
    go false h = omega arith

-- a set has no more dummies than the program
total_most : (us : List Procedure) (f : Procedure → List ℕ → Bool) → total (map (λ u. map (f u) u.dummies) us) ≤ dummies_in_all us
total_most [] f = omega arith
total_most (u ∷ us) f = omega (arith, count_most u.dummies (f u), total_most us f)

-- ---- the last round

module _ (rule : Rule) (rises : Rises rule) (units : List Procedure) where
  abbrev after : ℕ → List (List Bool)
  after k = rounds rule units k

  -- a round finds no more, or there are as many dummies as rounds
  last_or_many : (k : ℕ) → (after (suc k) ≡ after k) ⊎ (suc k ≤ total (after (suc k)))
  last_or_many zero = go (rows_same_or_fewer (after 0) (after 1) (rounds_rise rule rises units 0))
    where
      go : (after 0 ≡ after 1) ⊎ (total (after 0) < total (after 1)) → (after 1 ≡ after 0) ⊎ (1 ≤ total (after 1))
      go (inl e) = inl (sym e)
      go (inr l) = inr (omega arith)
  last_or_many (suc k) = go (last_or_many k) (rows_same_or_fewer (after (suc k)) (after (suc (suc k))) (rounds_rise rule rises units (suc k)))
    where
      go : (after (suc k) ≡ after k) ⊎ (suc k ≤ total (after (suc k))) → (after (suc k) ≡ after (suc (suc k))) ⊎ (total (after (suc k)) < total (after (suc (suc k)))) → (after (suc (suc k)) ≡ after (suc k)) ⊎ (suc (suc k) ≤ total (after (suc (suc k))))
      go (inl e) b = inl (ap (by_rule rule units) e)
      go (inr m) (inl e) = inl (sym e)
      go (inr m) (inr l) = inr (omega arith)

  -- what is found once there were as many rounds as dummies is what the rule puts into the set
  pub least_closed : by_rule rule units (least_rows rule units) ≡ least_rows rule units
  least_closed = go (last_or_many (dummies_in_all units))
    where
      go : (after (suc (dummies_in_all units)) ≡ after (dummies_in_all units)) ⊎ (suc (dummies_in_all units) ≤ total (after (suc (dummies_in_all units)))) → after (suc (dummies_in_all units)) ≡ after (dummies_in_all units)
      go (inl e) = e
      go (inr l) = absurd (omega (arith, total_most units (rule (row_of units (after (dummies_in_all units))))))

  -- and no further round changes it
  pub rounds_stay : (k : ℕ) → after (dummies_in_all units + k) ≡ least_rows rule units
  rounds_stay zero = let e : dummies_in_all units + 0 ≡ dummies_in_all units = omega arith in ap after e
  rounds_stay (suc k) =
      let e : dummies_in_all units + suc k ≡ suc (dummies_in_all units + k) = omega arith in
      ap after e ∙ ap (by_rule rule units) (rounds_stay k) ∙ least_closed

-- within a set within another is within that
within_trans : (us vs ws : List Bool) → IsWithin us vs → IsWithin vs ws → IsWithin us ws
within_trans [] [] [] f g = tt
within_trans [] [] (w ∷ ws) f g = absurd g
within_trans [] (v ∷ vs) ws f g = absurd f
within_trans (u ∷ us) [] ws f g = absurd f
within_trans (u ∷ us) (v ∷ vs) [] f g = absurd g
within_trans (u ∷ us) (v ∷ vs) (w ∷ ws) f g = (λ h. g.0 (f.0 h), within_trans us vs ws f.1 g.1)

are_within_trans : (us vs ws : List (List Bool)) → AreWithin us vs → AreWithin vs ws → AreWithin us ws
are_within_trans [] [] [] f g = tt
are_within_trans [] [] (w ∷ ws) f g = absurd g
are_within_trans [] (v ∷ vs) ws f g = absurd f
are_within_trans (u ∷ us) [] ws f g = absurd f
are_within_trans (u ∷ us) (v ∷ vs) [] f g = absurd g
are_within_trans (u ∷ us) (v ∷ vs) (w ∷ ws) f g = (within_trans u v w f.0 g.0, are_within_trans us vs ws f.1 g.1)

module _ (rule : Rule) (rises : Rises rule) (units : List Procedure) where
  -- each round lies within every set that holds what the rule puts into it
  rounds_least : (ws : List (List Bool)) → AreWithin (by_rule rule units ws) ws → (k : ℕ) → AreWithin (rounds rule units k) ws
  rounds_least ws h zero = are_within_trans (no_dummies units) (by_rule rule units ws) ws (maps_within units (λ u d. false) (rule (row_of units ws)) (λ u d e. cc)) h
  rounds_least ws h (suc k) = are_within_trans (rounds rule units (suc k)) (by_rule rule units ws) ws (round_rises rule rises units (rounds rule units k) ws (rounds_least ws h k)) h

  -- what is found is the least set
  pub is_least : IsLeast rule units (least_rows rule units)
  is_least = record { closed = least_closed rule rises units; least = λ ws h. rounds_least ws h (dummies_in_all units) }

-- ---- rows by names

-- what a function of units gives for the unit of a name
abbrev pub of_found : (Procedure → List Bool) → Option Procedure → List Bool
of_found f None = []
of_found f (Some u) = f u

-- the row of a unit is what the unit of that name gives
pub row_map : (f : Procedure → List Bool) (units : List Procedure) (name : List ℕ) → row_of units (map f units) name ≡ of_found f (find_unit units name)
row_map f [] name = refl
row_map f (u ∷ us) name = go (name_eq u.name name) (row_map f us name)
  where
    go : (b : Bool) → row_of us (map f us) name ≡ of_found f (find_unit us name) → (if b then f u else row_of us (map f us) name) ≡ of_found f (if b then Some u else find_unit us name)
    go true e = refl
    go false e = e

-- the row of a unit in the least set is what the rule gives for its dummies
pub least_row : (rule : Rule) → Rises rule → (units : List Procedure) (name : List ℕ) (u : Procedure) → find_unit units name ≡ Some u → in_least rule units name ≡ map (rule (in_least rule units) u) u.dummies
least_row rule rises units name u e =
    ap (λ z. row_of units z name) (sym (least_closed rule rises units)) ∙ row_map (λ u. map (rule (in_least rule units) u) u.dummies) units name ∙ ap (of_found (λ u. map (rule (in_least rule units) u) u.dummies)) e
