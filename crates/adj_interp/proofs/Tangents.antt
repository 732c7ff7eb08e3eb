-- An input with tangents fits where the input does.
use Rattle.std.proofs.Common.{◌≡◌, ℕ, zero, suc, true, List, [], ◌∷◌, map, length, refl, sym, ap, ap₂, ◌∙◌, arith}
use Rattle.std.specs.Prelude.{ℤ, pos, ◌==◌, ◌&&◌}
use Rattle.std.specs.List.{zip}
use Rattle.std.proofs.lemmas.List.{length-map}
use Rattle.adj_tree.specs.declared.value.Slot.{Slot as CodeSlot}
use Rattle.adj_tree.specs.Code.{plain, Procedure}
use Rattle.def_meaning.specs.Numbers.{Numbers, words, duals}
use Rattle.def_meaning.specs.Store.{size_of, Store}
use Rattle.def_meaning.specs.Seen.{Projects, seen, slot_seen}
use Rattle.def_meaning.specs.Units.{Slot, nth_cell, from_slot, input_store, shape_fits, slots_fit, fits}
use Rattle.def_meaning.proofs.EntriesSeen.{AlikeActuals, entry_seen, extents_seen}
use Rattle.def_meaning.proofs.WithoutTangents.{without_tangents}
use Rattle.adj_interp.specs.Concludes.{slot_seen as word_slot}
use Rattle.adj_interp.specs.Dually.{AreTangents, dual_slot, dual_slots}

module _ {C D : Type 0} (h : C → D) (n : Numbers C) (m : Numbers D) (p : Projects h n m) where
  nth_seen : (cs : List C) (j : ℕ) → h (nth_cell n cs j) ≡ nth_cell m (map h cs) j
  nth_seen [] j = p.of_word (pos 0)
  nth_seen (c ∷ cs) zero = refl
  nth_seen (c ∷ cs) (suc j) = nth_seen cs j

  -- what the dummies get
  slots_alike : (input : List (Slot C)) → AlikeActuals (λ x. x) h (map (from_slot n) input) (map (from_slot m) (map (slot_seen h) input))
  slots_alike [] = tt
  slots_alike (v ∷ vs) = (record { shape = refl; cells = λ i j. nth_seen v.cells j i; place = refl }, slots_alike vs)

  -- slots fit over both numbers or over neither
  slots_seen : (u : Procedure) (s : Store C) (ds : List (List ℕ)) (vs : List (Slot C)) → slots_fit n u s ds vs ≡ slots_fit m u (seen (λ x. x) h s) ds (map (slot_seen h) vs)
  slots_seen u s [] [] = refl
  slots_seen u s [] (v ∷ vs) = refl
  slots_seen u s (d ∷ ds) [] = refl
  slots_seen u s (d ∷ ds) (v ∷ vs) =
      λ i. (shape_fits (extents_seen h n m p u s (plain d) i) v.shape && (sym (length-map v.cells h) i == size_of v.shape)) && slots_seen u s ds vs i

  -- and so does an input
  pub fits_seen : (u : Procedure) (input : List (Slot C)) → fits n u input ≡ fits m u (map (slot_seen h) input)
  fits_seen u input =
      slots_seen u (input_store n u input) u.dummies input
      ∙ ap (λ s. slots_fit m u s u.dummies (map (slot_seen h) input)) (entry_seen h n m p (λ x. x) u.dummies (map (from_slot n) input) (map (from_slot m) (map (slot_seen h) input)) (slots_alike input))

-- words without their tangents
zip_first : (xs ys : List ℤ) → length ys ≡ length xs → map (λ (a : ℤ × ℤ). a.0) (zip xs ys) ≡ xs
zip_first [] [] e = refl
zip_first [] (y ∷ ys) e = refl
zip_first (x ∷ xs) [] e = absurd (omega (arith, e))
zip_first (x ∷ xs) (y ∷ ys) e = ap (λ zs. x ∷ zs) (zip_first xs ys (omega (arith, e)))

-- slots without their tangents
slots_first : (vs ts : List CodeSlot) → AreTangents vs ts → map (slot_seen (λ (a : ℤ × ℤ). a.0)) (dual_slots vs ts) ≡ map word_slot vs
slots_first [] [] e = refl
slots_first [] (t ∷ ts) e = absurd e
slots_first (v ∷ vs) [] e = absurd e
slots_first (v ∷ vs) (t ∷ ts) e =
    let first : slot_seen (λ (a : ℤ × ℤ). a.0) (dual_slot (v, t)) ≡ word_slot v = λ i. record { shape = record { rows = v.rows; cols = v.cols }; cells = zip_first v.cells t.cells e.0.cells i } in
    ap₂ (λ z zs. z ∷ zs) first (slots_first vs ts e.1)

-- an input that fits does with tangents
pub fits_with_tangents : (u : Procedure) (vs ts : List CodeSlot) → AreTangents vs ts → fits words u (map word_slot vs) ≡ true → fits duals u (dual_slots vs ts) ≡ true
fits_with_tangents u vs ts e h = fits_seen (λ a. a.0) duals words without_tangents u (dual_slots vs ts) ∙ ap (fits words u) (slots_first vs ts e) ∙ h
