-- Walks along several lists end where one of them ends.
use Rattle.std.proofs.Common.{◌≡◌, ℕ, ◌<◌, ◌≤◌, ◌-◌, Bool, true, false, List, [], ◌∷◌, ◌++◌, map, length, take, drop, get_or, refl, sym, ap, ◌∙◌, arith}
use Rattle.std.specs.Prelude.{ℤ}
use Rattle.adj_tree.specs.declared.value.Slot.{Slot as CodeSlot}
use Rattle.def_meaning.specs.Units.{Slot}
use Rattle.def_sweep.specs.Tangents.{cells_of, marked_cells}
use Rattle.def_sweep.specs.MarkedAdjoint.{joined_by, shadow_cells}
use Rattle.adj_data.specs.Given.{slot_seen}
use Rattle.adj_data.specs.Marked.{zeros_like}
use Rattle.adj_tool_check.specs.Checking.{flagged_lines}

added_none : {X : Type 0} (xs : List X) → xs ≡ xs ++ []
added_none [] = refl
added_none (x ∷ xs) = ap (λ z. x ∷ z) (added_none xs)

-- where nothing is left, what there is is the whole
pub nothing_left : {X : Type 0} (xs rest whole : List X) → rest ≡ [] → xs ++ rest ≡ whole → xs ≡ whole
nothing_left xs rest whole none same = added_none xs ∙ ap (λ z. xs ++ z) (sym none) ∙ same

-- ---- lines of flagged names

pub no_names : (keyword : List ℕ) (fs : List Bool) (xs : List (List ℕ)) (cs : List (List ℤ)) → length xs < 1 → flagged_lines keyword fs xs cs ≡ []
no_names keyword [] xs cs h = refl
no_names keyword (true ∷ fs) [] cs h = refl
no_names keyword (false ∷ fs) [] cs h = refl
no_names keyword (f ∷ fs) (x ∷ xs) cs h = absurd (omega (arith, h))

pub no_cells : (keyword : List ℕ) (fs : List Bool) (xs : List (List ℕ)) (vs : List CodeSlot) → length vs < 1 → flagged_lines keyword fs xs (cells_of (map slot_seen vs)) ≡ []
no_cells keyword [] xs vs h = refl
no_cells keyword (true ∷ fs) [] vs h = refl
no_cells keyword (false ∷ fs) [] vs h = refl
no_cells keyword (true ∷ fs) (x ∷ xs) [] h = refl
no_cells keyword (false ∷ fs) (x ∷ xs) [] h = refl
no_cells keyword (f ∷ fs) (x ∷ xs) (v ∷ vs) h = absurd (omega (arith, h))

-- ---- inputs with their adjoints

pub no_inputs : (fs : List Bool) (vs : List CodeSlot) (ws : List (Slot ℤ)) → length vs < 1 → joined_by fs (map slot_seen vs) ws ≡ []
no_inputs [] vs ws h = refl
no_inputs (f ∷ fs) [] ws h = refl
no_inputs (f ∷ fs) (v ∷ vs) ws h = absurd (omega (arith, h))

pub no_adjoints : (fs : List Bool) (vs : List (Slot ℤ)) (ws : List CodeSlot) → length ws < 1 → joined_by fs vs (map slot_seen ws) ≡ []
no_adjoints [] vs ws h = refl
no_adjoints (f ∷ fs) [] ws h = refl
no_adjoints (f ∷ fs) (v ∷ vs) [] h = refl
no_adjoints (f ∷ fs) (v ∷ vs) (w ∷ ws) h = absurd (omega (arith, h))

-- ---- cells

pub no_slots : (fs : List Bool) (vs : List CodeSlot) → length vs < 1 → marked_cells fs (cells_of (map slot_seen vs)) ≡ []
no_slots [] vs h = refl
no_slots (true ∷ fs) [] h = refl
no_slots (false ∷ fs) [] h = refl
no_slots (f ∷ fs) (v ∷ vs) h = absurd (omega (arith, h))

pub no_values : (fs : List Bool) (vs : List CodeSlot) → length vs < 1 → shadow_cells fs (map slot_seen vs) ≡ []
no_values [] vs h = refl
no_values (true ∷ fs) [] h = refl
no_values (false ∷ fs) [] h = refl
no_values (f ∷ fs) (v ∷ vs) h = absurd (omega (arith, h))

-- ---- one step along the shadows

-- the first slot stands before the others
pub first_rest : (r : List CodeSlot) (v d : CodeSlot) → 1 ≤ length r → v ≡ get_or r 0 d → r ≡ v ∷ take (length r - 1) (drop 1 r)
first_rest [] v d h e = absurd (omega (arith, h))
first_rest (w ∷ r) v d h e =
    let less : length (w ∷ r) - 1 ≡ length r = omega arith in
    λ i. sym e i ∷ sym (ap (λ n. take n r) less ∙ take_all r) i
  where
    take_all : (xs : List CodeSlot) → take (length xs) xs ≡ xs
    take_all [] = refl
    take_all (x ∷ xs) = ap (λ z. x ∷ z) (take_all xs)

-- one slot more has its cells behind those of the others
cells_behind : (made : List CodeSlot) (z : CodeSlot) (cs : List (List ℤ)) → cells_of (map slot_seen (made ++ z ∷ [])) ++ cs ≡ cells_of (map slot_seen made) ++ (z.cells ∷ cs)
cells_behind [] z cs = refl
cells_behind (v ∷ made) z cs = ap (λ y. v.cells ∷ y) (cells_behind made z cs)

module _ (made : List CodeSlot) (z v : CodeSlot) (fs rest_flags : List Bool) (r others : List CodeSlot) (whole : List (List ℤ)) (first : r ≡ v ∷ others) (so_far : cells_of (map slot_seen made) ++ shadow_cells fs (map slot_seen r) ≡ whole) where
  -- zeros for a dummy without a shadow
  pub zeros_made : fs ≡ false ∷ rest_flags → slot_seen z ≡ zeros_like (slot_seen v) → cells_of (map slot_seen (made ++ z ∷ [])) ++ shadow_cells rest_flags (map slot_seen others) ≡ whole
  zeros_made flag is =
      cells_behind made z (shadow_cells rest_flags (map slot_seen others))
      ∙ ap (λ (s : Slot ℤ). cells_of (map slot_seen made) ++ (s.cells ∷ shadow_cells rest_flags (map slot_seen others))) is
      ∙ (λ i. cells_of (map slot_seen made) ++ shadow_cells (sym flag i) (map slot_seen (sym first i)))
      ∙ so_far

  -- the shadow of one that has it
  pub shadow_made : (w : CodeSlot) (behind : List CodeSlot) → others ≡ w ∷ behind → fs ≡ true ∷ rest_flags → z ≡ w → cells_of (map slot_seen (made ++ z ∷ [])) ++ shadow_cells rest_flags (map slot_seen behind) ≡ whole
  shadow_made w behind second flag is =
      cells_behind made z (shadow_cells rest_flags (map slot_seen behind))
      ∙ ap (λ (s : CodeSlot). cells_of (map slot_seen made) ++ (s.cells ∷ shadow_cells rest_flags (map slot_seen behind))) is
      ∙ (λ i. cells_of (map slot_seen made) ++ shadow_cells (sym flag i) (map slot_seen (v ∷ sym second i)))
      ∙ (λ i. cells_of (map slot_seen made) ++ shadow_cells fs (map slot_seen (sym first i)))
      ∙ so_far

-- ---- texts in pieces

in_turn : (xs ys zs : List ℕ) → (xs ++ ys) ++ zs ≡ xs ++ (ys ++ zs)
in_turn [] ys zs = refl
in_turn (x ∷ xs) ys zs = ap (λ z. x ∷ z) (in_turn xs ys zs)

-- a text to which three pieces were added, then one, and then a line of a keyword and a number
pub joined_text : (a b c p w n e t0 t1 t2 t3 t4 t5 t6 : List ℕ) → t0 ≡ [] → t1 ≡ t0 ++ a → t2 ≡ t1 ++ b → t3 ≡ t2 ++ c → t4 ≡ t3 ++ p → t5 ≡ (t4 ++ w) ++ n → t6 ≡ t5 ++ e →
    t6 ≡ (a ++ (b ++ c)) ++ (p ++ ((w ++ n) ++ e))
joined_text a b c p w n e t0 t1 t2 t3 t4 t5 t6 e0 e1 e2 e3 e4 e5 e6 =
    let three : t3 ≡ a ++ (b ++ c) = e3 ∙ ap (λ t. t ++ c) (e2 ∙ ap (λ t. t ++ b) (e1 ∙ ap (λ t. t ++ a) e0)) ∙ in_turn a b c in
    e6 ∙ ap (λ t. t ++ e) (e5 ∙ in_turn t4 w n) ∙ in_turn t4 (w ++ n) e ∙ ap (λ t. t ++ ((w ++ n) ++ e)) e4 ∙ in_turn t3 p ((w ++ n) ++ e) ∙ ap (λ t. t ++ (p ++ ((w ++ n) ++ e))) three
