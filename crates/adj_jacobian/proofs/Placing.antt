-- The cells of dummies, dummy by dummy.
use Rattle.std.proofs.Common.{◌≡◌, ℕ, suc, ◌+◌, ◌<◌, ◌≤◌, Bool, true, false, List, [], ◌∷◌, ◌++◌, map, length, drop, get_or, refl, sym, ap, ap₂, ◌∙◌, arith}
use Rattle.std.specs.Prelude.{ℤ, if◌then◌else◌}
use Rattle.std.proofs.lemmas.List.{drop_more, drop_all, map_push}
use Rattle.adj_tree.specs.declared.value.Slot.{Slot as CodeSlot}
use Rattle.def_meaning.specs.Units.{Slot}
use Rattle.def_jacobian.specs.Patterns.{Place}
use Rattle.def_jacobian.specs.Recovered.{from, places}
use Rattle.adj_reach.specs.Edges.{flag}
use Rattle.adj_interp.specs.Concludes.{slot_seen}
use Rattle.adj_jacobian.proofs.Ranges.{from_parts}
use Rattle.adj_jacobian.proofs.Walking.{flag_left, drop_one}

-- a cell of a dummy
abbrev pub cell_of : ℕ → ℕ → Place
cell_of d j = record { dummy = d; cell = j }

-- one cell more
pub cells_more : (d j : ℕ) → map (cell_of d) (from 0 (j + 1)) ≡ map (cell_of d) (from 0 j) ++ cell_of d j ∷ []
cells_more d j = ap (map (cell_of d)) (from_parts 0 j 1 ∙ ap (λ i. from 0 j ++ i ∷ []) (let e : 0 + j ≡ j = omega arith in e)) ∙ map_push (cell_of d) (from 0 j) j

-- one dummy
pub one_place : (flags : List Bool) (v : Slot ℤ) (vs : List (Slot ℤ)) (i : ℕ) →
    places flags (v ∷ vs) i ≡ map (cell_of i) (from 0 (if flag flags 0 then length v.cells else 0)) ++ places (drop 1 flags) vs (suc i)
one_place [] v vs i = sym (no_flags vs (suc i))
  where
    no_flags : (ws : List (Slot ℤ)) (j : ℕ) → places [] ws j ≡ []
    no_flags [] j = refl
    no_flags (w ∷ ws) j = refl
one_place (true ∷ flags) v vs i = refl
one_place (false ∷ flags) v vs i = refl

-- the dummy at a place
pub place_turn : (flags : List Bool) (vs : List CodeSlot) (i : ℕ) (v : CodeSlot) → i < length vs → v ≡ get_or vs i v →
    places (drop i flags) (map slot_seen (drop i vs)) i ≡ map (cell_of i) (from 0 (if flag flags i then length v.cells else 0)) ++ places (drop (i + 1) flags) (map slot_seen (drop (i + 1) vs)) (i + 1)
place_turn flags vs i v h e =
    ap (λ z. places (drop i flags) (map slot_seen z) i) (drop_more vs i v h ∙ ap (λ z. z ∷ drop (i + 1) vs) (sym e))
    ∙ one_place (drop i flags) (slot_seen v) (map slot_seen (drop (i + 1) vs)) i
    ∙ ap₂ (λ f fs. map (cell_of i) (from 0 (if f then length v.cells else 0)) ++ places fs (map slot_seen (drop (i + 1) vs)) (suc i)) (flag_left flags i) (drop_one flags i)
    ∙ ap (λ n. map (cell_of i) (from 0 (if flag flags i then length v.cells else 0)) ++ places (drop (i + 1) flags) (map slot_seen (drop (i + 1) vs)) n) (let n : suc i ≡ i + 1 = omega arith in n)

pub no_place : (flags : List Bool) (vs : List CodeSlot) (i : ℕ) → length vs ≤ i → places (drop i flags) (map slot_seen (drop i vs)) i ≡ []
no_place flags vs i h = ap (λ z. places (drop i flags) (map slot_seen z) i) (drop_all i vs h) ∙ nothing (drop i flags)
  where
    nothing : (fs : List Bool) → places fs [] i ≡ []
    nothing [] = refl
    nothing (true ∷ fs) = refl
    nothing (false ∷ fs) = refl
