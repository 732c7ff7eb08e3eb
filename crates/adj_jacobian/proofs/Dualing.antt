-- Dual runs in the directions of groups.
use Rattle.std.proofs.Common.{◌≡◌, ℕ, zero, suc, Bool, true, false, List, [], ◌∷◌, map, length, drop, refl, ap, subst, ◌∙◌, arith}
use Rattle.std.specs.Prelude.{ℤ, Err}
use Rattle.std.specs.List.{zip}
use Rattle.adj_tree.specs.declared.value.Slot.{Slot as CodeSlot}
use Rattle.def_meaning.specs.Numbers.{words, duals}
use Rattle.def_meaning.specs.Scene.{Outcome, Done, Trapped, More, Full}
use Rattle.def_meaning.specs.Seen.{ending_seen}
use Rattle.def_meaning.specs.Units.{Slot, Output, nth_cell}
use Rattle.def_jacobian.specs.Columns.{Columns}
use Rattle.def_jacobian.specs.Inputs.{as_columns, by_columns, in_direction, tangents, paired}
use Rattle.def_jacobian.specs.Patterns.{Place, held, tangent_of}
use Rattle.def_jacobian.specs.Recovered.{places}
use Rattle.law_jacobian.proofs.Runs.{direction_paired}
use Rattle.adj_jacobian_groups.specs.declared.sparsity.Cell.{Cell}
use Rattle.adj_jacobian_groups.specs.View.{place_of}
use Rattle.adj_reach.specs.Edges.{flag}
use Rattle.adj_interp.specs.Concludes.{slot_seen}
use Rattle.adj_interp.specs.Dually.{AreTangents, IsTangent, dual_slot, dual_slots, DualDone, DualEnds}
use Rattle.adj_interp.specs.declared.stop.Stop.{Stop}
use Rattle.adj_interp.specs.declared.stop.Stop.TheVariants as stop
use Rattle.adj_jacobian.specs.Walks.{cells_by, next_column, still_tangent}
use Rattle.adj_jacobian.specs.Ends.{StopsSo}
use Rattle.adj_jacobian.proofs.Walking.{one_dummy}

-- ---- inputs

-- slots with tangents are words and tangents side by side
dual_paired : (vs ts : List CodeSlot) → dual_slots vs ts ≡ paired (map slot_seen vs) (map slot_seen ts)
dual_paired [] ts = refl
dual_paired (v ∷ vs) [] = refl
dual_paired (v ∷ vs) (t ∷ ts) = ap (λ rest. dual_slot (v, t) ∷ rest) (dual_paired vs ts)

-- the input of a dual run in a direction
pub dual_input : (t : ℕ → ℤ) (vars : List Bool) (vs ts : List CodeSlot) → map slot_seen ts ≡ tangents t vars (map slot_seen vs) → dual_slots vs ts ≡ in_direction t vars (map slot_seen vs)
dual_input t vars vs ts e = dual_paired vs ts ∙ ap (paired (map slot_seen vs)) e ∙ direction_paired t vars (map slot_seen vs)

-- the direction of a group on an input
pub seeded : (t : ℕ → ℤ) (vars : List Bool) (columns : List Cell) (ts vs input : List CodeSlot) → vs ≡ input → (map place_of columns ≡ places vars (map slot_seen vs) 0 → map slot_seen ts ≡ tangents t vars (map slot_seen vs)) →
    map place_of columns ≡ places vars (map slot_seen input) 0 → map slot_seen ts ≡ tangents t vars (map slot_seen input)
seeded t vars columns ts vs input e told at = subst (λ (zs : List CodeSlot). map place_of columns ≡ places vars (map slot_seen zs) 0 → map slot_seen ts ≡ tangents t vars (map slot_seen zs)) e told at

columns_length : {C : Type 0} (own : ℤ → ℕ → C) (zs : List ℤ) (j : ℕ) → length (as_columns own zs j) ≡ length zs
columns_length own [] j = refl
columns_length own (z ∷ zs) j = ap suc (columns_length own zs (suc j))

others_length : {C : Type 0} (other : ℤ → C) (zs : List ℤ) → length (map other zs) ≡ length zs
others_length other [] = refl
others_length other (z ∷ zs) = ap suc (others_length other zs)

cells_length : {C : Type 0} (other : ℤ → C) (own : ℤ → ℕ → C) (marked : Bool) (zs : List ℤ) (j : ℕ) → length (cells_by other own marked zs j) ≡ length zs
cells_length other own true zs j = columns_length own zs j
cells_length other own false zs j = others_length other zs

-- what a slot of a direction has
tangent_of_slot : (v t : CodeSlot) (cs : List ℤ) → length cs ≡ length v.cells → slot_seen t ≡ record { shape = record { rows = v.rows; cols = v.cols }; cells = cs } → IsTangent v t
tangent_of_slot v t cs many h = record {
  rows = ap (λ (s : Slot ℤ). s.shape.rows) h;
  cols = ap (λ (s : Slot ℤ). s.shape.cols) h;
  cells = ap (λ (s : Slot ℤ). length s.cells) h ∙ many;
}

same_first : {X : Type 0} (x y : X) (xs ys : List X) → x ∷ xs ≡ y ∷ ys → x ≡ y
same_first x y xs ys e = cc

same_rest : {X : Type 0} (x y : X) (xs ys : List X) → x ∷ xs ≡ y ∷ ys → xs ≡ ys
same_rest x y xs ys e = cc

-- a direction has a tangent for each cell
direction_tangents : (own : ℤ → ℕ → ℤ) (vars : List Bool) (vs ts : List CodeSlot) (j : ℕ) → map slot_seen ts ≡ by_columns still_tangent own vars (map slot_seen vs) j → AreTangents vs ts
direction_tangents own vars [] [] j e = tt
direction_tangents own vars [] (t ∷ ts) j e = cc
direction_tangents own vars (v ∷ vs) [] j e = let f = e ∙ one_dummy still_tangent own vars (slot_seen v) (map slot_seen vs) j in cc
direction_tangents own vars (v ∷ vs) (t ∷ ts) j e =
    let f = e ∙ one_dummy still_tangent own vars (slot_seen v) (map slot_seen vs) j in
    let marked = flag vars 0 in (
      tangent_of_slot v t (cells_by still_tangent own marked v.cells j) (cells_length still_tangent own marked v.cells j) (same_first _ _ _ _ f),
      direction_tangents own (drop 1 vars) vs ts (next_column marked j (length v.cells)) (same_rest _ _ _ _ f),
    )

pub are_tangents : (t : ℕ → ℤ) (vars : List Bool) (vs ts : List CodeSlot) → map slot_seen ts ≡ tangents t vars (map slot_seen vs) → AreTangents vs ts
are_tangents t vars vs ts e = direction_tangents (λ z j. t j) vars vs ts 0 e

-- ---- ends

nth_tangent : (xs ys : List ℤ) (j : ℕ) → length ys ≡ length xs → nth_cell words ys j ≡ (nth_cell duals (zip xs ys) j).1
nth_tangent [] [] j e = refl
nth_tangent [] (y ∷ ys) j e = absurd (omega (arith, e))
nth_tangent (x ∷ xs) [] j e = absurd (omega (arith, e))
nth_tangent (x ∷ xs) (y ∷ ys) zero e = refl
nth_tangent (x ∷ xs) (y ∷ ys) (suc j) e = nth_tangent xs ys j (omega (arith, e))

-- the tangent of a cell among values and tangents
tangent_told : (vs ts : List CodeSlot) → AreTangents vs ts → (i j : ℕ) → held words (map slot_seen ts) i j ≡ (held duals (dual_slots vs ts) i j).1
tangent_told [] [] e i j = refl
tangent_told [] (t ∷ ts) e i j = absurd e
tangent_told (v ∷ vs) [] e i j = absurd e
tangent_told (v ∷ vs) (t ∷ ts) e zero j = nth_tangent v.cells t.cells j e.0.cells
tangent_told (v ∷ vs) (t ∷ ts) e (suc i) j = tangent_told vs ts e.1 i j

-- the tangents of a dual run that is done
pub product_told : (o : Outcome (Output (ℤ × ℤ))) (vs ts : List CodeSlot) → DualDone o vs ts → (a : Place) → held words (map slot_seen ts) a.dummy a.cell ≡ tangent_of o a
product_told (Done out used) vs ts h a = tangent_told vs ts h.0 a.dummy a.cell ∙ ap (λ slots. (held duals slots a.dummy a.cell).1) h.1
product_told (Trapped t line w) vs ts h a = absurd h
product_told (More w) vs ts h a = absurd h
product_told (Full w) vs ts h a = absurd h

-- a stop of a dual run is one of the pattern run
pub product_stops : (o : Outcome (Output (ℤ × ℤ))) (q : Outcome (Output (ℤ × Columns))) (s : Stop) → ending_seen (λ a. a.0) q ≡ ending_seen (λ a. a.0) o → DualEnds o (Err s) → StopsSo q s
product_stops o q stop.Memory e h = tt
product_stops (Done out used) q (stop.Trap c l) e h = absurd h
product_stops (Done out used) q stop.Budget e h = absurd h
product_stops (Done out used) q stop.TapeFull e h = absurd h
product_stops (Trapped d line w) (Trapped t m v) (stop.Trap c l) e h = let first = h.0 in let second = h.1 in (cc, cc)
product_stops (Trapped d line w) q stop.Budget e h = absurd h
product_stops (Trapped d line w) q stop.TapeFull e h = absurd h
product_stops (More w) q (stop.Trap c l) e h = absurd h
product_stops (More w) (More v) stop.Budget e h = tt
product_stops (More w) q stop.TapeFull e h = absurd h
product_stops (Full w) q (stop.Trap c l) e h = absurd h
product_stops (Full w) q stop.Budget e h = absurd h
product_stops (Full w) (Full v) stop.TapeFull e h = tt
product_stops (Trapped d line w) (Done out used) (stop.Trap c l) e h = cc
product_stops (Trapped d line w) (More v) (stop.Trap c l) e h = cc
product_stops (Trapped d line w) (Full v) (stop.Trap c l) e h = cc
product_stops (More w) (Done out used) stop.Budget e h = cc
product_stops (More w) (Trapped t m v) stop.Budget e h = cc
product_stops (More w) (Full v) stop.Budget e h = cc
product_stops (Full w) (Done out used) stop.TapeFull e h = cc
product_stops (Full w) (Trapped t m v) stop.TapeFull e h = cc
product_stops (Full w) (More v) stop.TapeFull e h = cc
