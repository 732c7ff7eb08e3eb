-- Words with tangents, as the interpreter takes and gives them, and as the theorem on adjoints speaks of them.
use Rattle.std.proofs.Common.{◌≡◌, List, [], ◌∷◌, map, length, refl, sym, ap, ◌∙◌}
use Rattle.std.specs.Prelude.{ℤ}
use Rattle.std.specs.List.{zip}
use Rattle.adj_tree.specs.declared.value.Slot.{Slot as CodeSlot}
use Rattle.def_meaning.specs.Store.{Shape}
use Rattle.def_sweep.specs.Tangents.{AreAlike, side_by_side, with_direction, cells_of, tangents_in, tangents_of}
use Rattle.adj_data.specs.Given.{slot_seen}
use Rattle.adj_interp.specs.Dually.{IsTangent, AreTangents, dual_slot, dual_slots}

-- lists side by side
sides_same : (cs ds : List ℤ) → zip cs ds ≡ side_by_side cs ds
sides_same [] ds = refl
sides_same (c ∷ cs) [] = refl
sides_same (c ∷ cs) (d ∷ ds) = ap (λ z. (c, d) ∷ z) (sides_same cs ds)

-- the input of the dual run
pub duals_same : (vs ts : List CodeSlot) → dual_slots vs ts ≡ with_direction (map slot_seen vs) (cells_of (map slot_seen ts))
duals_same [] ts = refl
duals_same (v ∷ vs) [] = refl
duals_same (v ∷ vs) (t ∷ ts) = λ i. record { shape = record { rows = v.rows; cols = v.cols }; cells = sides_same v.cells t.cells i } ∷ duals_same vs ts i

-- slots in the shapes of others are tangents for them
pub are_tangents : (vs ts : List CodeSlot) → AreAlike (map slot_seen vs) (map slot_seen ts) → AreTangents vs ts
are_tangents [] [] a = tt
are_tangents [] (t ∷ ts) a = absurd a
are_tangents (v ∷ vs) [] a = absurd a
are_tangents (v ∷ vs) (t ∷ ts) a = (record { rows = ap (λ (s : Shape). s.rows) a.0; cols = ap (λ (s : Shape). s.cols) a.0; cells = a.1.0 }, are_tangents vs ts a.1.1)

-- the tangents behind words
tangents_zip : (cs ds : List ℤ) → length ds ≡ length cs → tangents_in (zip cs ds) ≡ ds
tangents_zip [] [] h = refl
tangents_zip [] (d ∷ ds) h = absurd cc
tangents_zip (c ∷ cs) [] h = absurd cc
tangents_zip (c ∷ cs) (d ∷ ds) h = ap (λ z. d ∷ z) (tangents_zip cs ds cc)

-- the tangents of what the dual run gives
pub tangents_same : (vs ts : List CodeSlot) → AreTangents vs ts → tangents_of (cells_of (dual_slots vs ts)) ≡ cells_of (map slot_seen ts)
tangents_same [] [] h = refl
tangents_same [] (t ∷ ts) h = absurd h
tangents_same (v ∷ vs) [] h = absurd h
tangents_same (v ∷ vs) (t ∷ ts) h = λ i. tangents_zip v.cells t.cells h.0.cells i ∷ tangents_same vs ts h.1 i
