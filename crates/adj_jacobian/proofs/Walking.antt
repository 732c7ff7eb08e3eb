-- Walks along an input, dummy by dummy and cell by cell.
use Rattle.std.proofs.Common.{◌≡◌, ℕ, zero, suc, ◌+◌, ◌<◌, ◌≤◌, Bool, true, false, List, [], ◌∷◌, ◌++◌, map, length, drop, get_or, refl, sym, ap, ap₂, ◌∙◌, append_assoc, arith}
use Rattle.std.specs.Prelude.{ℤ}
use Rattle.std.proofs.Math.Seq.{drop-nil}
use Rattle.std.proofs.lemmas.List.{drop_more, drop_all, append-nil}
use Rattle.adj_tree.specs.declared.value.Slot.{Slot as CodeSlot}
use Rattle.def_meaning.specs.Units.{Slot}
use Rattle.def_jacobian.specs.Inputs.{by_columns}
use Rattle.adj_reach.specs.Edges.{flag}
use Rattle.adj_interp.specs.Concludes.{slot_seen}
use Rattle.adj_jacobian.specs.Walks.{cells_by, one_by, next_column}

-- ---- lists

-- one member more, where it was the first of those that were left
pub one_more : {X : Type 0} (done : List X) (x : X) (rest turn whole : List X) → turn ≡ x ∷ rest → done ++ turn ≡ whole → (done ++ x ∷ []) ++ rest ≡ whole
one_more done x rest turn whole e h = append_assoc done (x ∷ []) rest ∙ ap (λ z. done ++ z) (sym e) ∙ h

-- where nothing is left, what there is is the whole
pub nothing_left : {X : Type 0} (done rest whole : List X) → rest ≡ [] → done ++ rest ≡ whole → done ≡ whole
nothing_left done rest whole none same = sym (append-nil done) ∙ ap (λ z. done ++ z) (sym none) ∙ same

-- what is left after one more
pub drop_one : {X : Type 0} (xs : List X) (i : ℕ) → drop 1 (drop i xs) ≡ drop (i + 1) xs
drop_one [] i = ap (drop 1) (drop-nil i) ∙ sym (drop-nil (i + 1))
drop_one (x ∷ xs) zero = refl
drop_one (x ∷ xs) (suc i) = drop_one xs i ∙ ap (λ n. drop n (x ∷ xs)) (let e : suc (i + 1) ≡ suc i + 1 = omega arith in e)

pub flag_left : (fs : List Bool) (i : ℕ) → flag (drop i fs) 0 ≡ flag fs i
flag_left [] zero = refl
flag_left [] (suc i) = refl
flag_left (f ∷ fs) zero = refl
flag_left (f ∷ fs) (suc i) = flag_left fs i

-- ---- dummies

module _ {C : Type 0} (other : ℤ → C) (own : ℤ → ℕ → C) where
  pub one_dummy : (vars : List Bool) (v : Slot ℤ) (vs : List (Slot ℤ)) (j : ℕ) →
      by_columns other own vars (v ∷ vs) j ≡ record { shape = v.shape; cells = cells_by other own (flag vars 0) v.cells j } ∷ by_columns other own (drop 1 vars) vs (next_column (flag vars 0) j (length v.cells))
  one_dummy [] v vs j = refl
  one_dummy (true ∷ vars) v vs j = refl
  one_dummy (false ∷ vars) v vs j = refl

  -- the dummy at a place
  pub dummy_turn : (vars : List Bool) (vs : List CodeSlot) (i j : ℕ) (v : CodeSlot) → i < length vs → v ≡ get_or vs i v →
      by_columns other own (drop i vars) (map slot_seen (drop i vs)) j
      ≡ record { shape = record { rows = v.rows; cols = v.cols }; cells = cells_by other own (flag vars i) v.cells j } ∷ by_columns other own (drop (i + 1) vars) (map slot_seen (drop (i + 1) vs)) (next_column (flag vars i) j (length v.cells))
  dummy_turn vars vs i j v h e =
      ap (λ z. by_columns other own (drop i vars) (map slot_seen z) j) (drop_more vs i v h ∙ ap (λ z. z ∷ drop (i + 1) vs) (sym e))
      ∙ one_dummy (drop i vars) (slot_seen v) (map slot_seen (drop (i + 1) vs)) j
      ∙ ap₂ (λ f fs. record { shape = record { rows = v.rows; cols = v.cols }; cells = cells_by other own f v.cells j } ∷ by_columns other own fs (map slot_seen (drop (i + 1) vs)) (next_column f j (length v.cells))) (flag_left vars i) (drop_one vars i)

  -- behind the last dummy
  pub no_dummy : (vars : List Bool) (vs : List CodeSlot) (i j : ℕ) → length vs ≤ i → by_columns other own (drop i vars) (map slot_seen (drop i vs)) j ≡ []
  no_dummy vars vs i j h = ap (λ z. by_columns other own (drop i vars) (map slot_seen z) j) (drop_all i vs h)

  -- ---- cells

  one_cell : (marked : Bool) (z : ℤ) (zs : List ℤ) (j : ℕ) → cells_by other own marked (z ∷ zs) j ≡ one_by other own marked z j ∷ cells_by other own marked zs (suc j)
  one_cell true z zs j = refl
  one_cell false z zs j = refl

  -- the cell at a place
  pub cell_turn : (marked : Bool) (zs : List ℤ) (i j : ℕ) (d : ℤ) → i < length zs →
      cells_by other own marked (drop i zs) (j + i) ≡ one_by other own marked (get_or zs i d) (j + i) ∷ cells_by other own marked (drop (i + 1) zs) (j + (i + 1))
  cell_turn marked zs i j d h =
      ap (λ z. cells_by other own marked z (j + i)) (drop_more zs i d h)
      ∙ one_cell marked (get_or zs i d) (drop (i + 1) zs) (j + i)
      ∙ ap (λ k. one_by other own marked (get_or zs i d) (j + i) ∷ cells_by other own marked (drop (i + 1) zs) k) (let e : suc (j + i) ≡ j + (i + 1) = omega arith in e)

  no_cells : (marked : Bool) (j : ℕ) → cells_by other own marked [] j ≡ []
  no_cells true j = refl
  no_cells false j = refl

  -- behind the last cell
  pub no_cell : (marked : Bool) (zs : List ℤ) (i j : ℕ) → length zs ≤ i → cells_by other own marked (drop i zs) j ≡ []
  no_cell marked zs i j h = ap (λ z. cells_by other own marked z j) (drop_all i zs h) ∙ no_cells marked j
