-- An input with a direction fits where the input does.
use Rattle.std.proofs.Common.{◌≡◌, ℕ, zero, suc, List, [], ◌∷◌, map, length, refl, ap}
use Rattle.std.specs.Prelude.{ℤ, Bool, true, false, ◌==◌, ◌&&◌}
use Rattle.adj_tree.specs.Code.{Var, plain, var_eq, Extent, fixed, given, Procedure}
use Rattle.def_meaning.specs.Numbers.{words, duals}
use Rattle.def_meaning.specs.Store.{Store, size_of}
use Rattle.def_meaning.specs.Units.{declared, extent_in, shape_fits, entry_store, Slot, nth_cell, from_slot, input_store, slots_fit, fits}
use Rattle.def_sweep.specs.Tangents.{AreTangents, side_by_side, with_direction}

-- each word stands beside its tangent
cell_same : (cs ds : List ℤ) → length ds ≡ length cs → (j : ℕ) → (nth_cell duals (side_by_side cs ds) j).0 ≡ nth_cell words cs j
cell_same [] ds h j = refl
cell_same (c ∷ cs) [] h j = absurd cc
cell_same (c ∷ cs) (d ∷ ds) h zero = refl
cell_same (c ∷ cs) (d ∷ ds) h (suc j) = let rest : length ds ≡ length cs = cc in cell_same cs ds rest j

length_same : (cs ds : List ℤ) → length ds ≡ length cs → length (side_by_side cs ds) ≡ length cs
length_same [] ds h = refl
length_same (c ∷ cs) [] h = absurd cc
length_same (c ∷ cs) (d ∷ ds) h = ap suc (length_same cs ds cc)

-- the words of an entry are those of the input
store_same : (ns : List (List ℕ)) (input : List (Slot ℤ)) (ds : List (List ℤ)) → AreTangents input ds → (x : Var) (j : ℕ) → (entry_store duals ns (map (from_slot duals) (with_direction input ds)) x j).0 ≡ entry_store words ns (map (from_slot words) input) x j
store_same [] input ds h x j = refl
store_same (n ∷ ns) [] ds h x j = refl
store_same (n ∷ ns) (v ∷ vs) [] h x j = absurd h
store_same (n ∷ ns) (v ∷ vs) (d ∷ ds) h x j = go (var_eq x (plain n)) refl (store_same ns vs ds h.1 x j)
  where
    go : (b : Bool) → var_eq x (plain n) ≡ b → (entry_store duals ns (map (from_slot duals) (with_direction vs ds)) x j).0 ≡ entry_store words ns (map (from_slot words) vs) x j → (entry_store duals (n ∷ ns) (map (from_slot duals) (with_direction (v ∷ vs) (d ∷ ds))) x j).0 ≡ entry_store words (n ∷ ns) (map (from_slot words) (v ∷ vs)) x j
    go true e ih = rw e (cell_same v.cells d h.0 j)
    go false e ih = rw e ih

module _ (u : Procedure) (s : Store ℤ) (t : Store (ℤ × ℤ)) (same : (x : Var) (j : ℕ) → (t x j).0 ≡ s x j) where
  extent_same : (es : List Extent) → map (extent_in duals t) es ≡ map (extent_in words s) es
  extent_same [] = refl
  extent_same (fixed z ∷ es) = ap (λ l. z ∷ l) (extent_same es)
  extent_same (given x ∷ es) = λ i. same (plain x) 0 i ∷ extent_same es i

  -- slots with a direction fit as the slots do
  slots_same : (ns : List (List ℕ)) (input : List (Slot ℤ)) (ds : List (List ℤ)) → AreTangents input ds → slots_fit duals u t ns (with_direction input ds) ≡ slots_fit words u s ns input
  slots_same [] [] ds h = refl
  slots_same [] (v ∷ vs) [] h = absurd h
  slots_same [] (v ∷ vs) (d ∷ ds) h = refl
  slots_same (n ∷ ns) [] ds h = refl
  slots_same (n ∷ ns) (v ∷ vs) [] h = absurd h
  slots_same (n ∷ ns) (v ∷ vs) (d ∷ ds) h =
      λ i. (shape_fits (extent_same (declared u.declarations (plain n)) i) v.shape && (length_same v.cells d h.0 i == size_of v.shape)) && slots_same ns vs ds h.1 i

-- an input with a direction fits as the input does
pub direction_fits : (u : Procedure) (input : List (Slot ℤ)) (ds : List (List ℤ)) → AreTangents input ds → fits duals u (with_direction input ds) ≡ fits words u input
direction_fits u input ds h = slots_same u (input_store words u input) (input_store duals u (with_direction input ds)) (store_same u.dummies input ds h) u.dummies input ds h
