-- Slots and stores at the entry and the end of the head's tangent.
use Rattle.std.proofs.Common.{◌≡◌, ◌≤◌, ℕ, zero, suc, Bool, true, false, List, [], ◌∷◌, map, length, refl, sym, ap, ◌∙◌, subst, arith, if◌then◌else◌}
use Rattle.std.specs.Prelude.{ℤ, pos, ◌||◌}
use Rattle.adj_tree.specs.Code.{Var, plain, shadow, name_eq}
use Rattle.adj_tree.proofs.Names.{name_same}
use Rattle.adj_word.specs.Word.{wrap}
use Rattle.adj_word.proofs.Residues.{wrap_word, wrap-zero}
use Rattle.def_meaning.specs.Numbers.{words, duals}
use Rattle.def_meaning.specs.Store.{Shape, size_of, Store}
use Rattle.def_meaning.specs.Units.{Slot, from_slot, nth_cell, entry_store, slot_of}
use Rattle.def_meaning.specs.Seen.{slot_seen}
use Rattle.def_meaning.specs.Apart.{has_name}
use Rattle.def_sweep.specs.Naming.{Named, name_in, naming}
use Rattle.def_names.specs.Numbers.{Vars}
use Rattle.law_sweep.specs.Pairs.{Key}
use Rattle.def_sweep.specs.Declared.{unmarked}
use Rattle.def_sweep.specs.Marked.{names_in}
use Rattle.def_sweep.specs.Tangents.{AreAlike, AreTangents, side_by_side, with_direction}
use Rattle.def_sweep.specs.MarkedAdjoint.{shadow_flags, joined_by}
use Rattle.law_sweep.proofs.ScalarSlots.{direction, paired}
use Rattle.def_names.proofs.Variables.{or_false}
use Rattle.law_sweep.proofs.Rows.{from_map, AreSized}
use Rattle.def_tangent.specs.IsTangent.{AllWords, AreAllWords, AreHandedIn}

-- ---- the direction

-- words stay words
side_words : (cs ds : List ℤ) → AllWords ds → (j : ℕ) → wrap (nth_cell duals (side_by_side cs ds) j).1 ≡ (nth_cell duals (side_by_side cs ds) j).1
side_words [] ds h j = wrap-zero
side_words (c ∷ cs) [] h j = wrap-zero
side_words (c ∷ cs) (d ∷ ds) h zero = wrap_word d h.0
side_words (c ∷ cs) (d ∷ ds) h (suc j) = side_words cs ds h.1 j

-- a direction of words is a word at each cell
pub direction_words : (xs : List (List ℕ)) (vs : List (Slot ℤ)) (d : List (List ℤ)) → AreAllWords d → (k : Key) → wrap (direction xs vs d k) ≡ direction xs vs d k
direction_words [] vs d h k = wrap-zero
direction_words (x ∷ xs) [] d h k = wrap-zero
direction_words (x ∷ xs) (v ∷ vs) [] h k = wrap-zero
direction_words (x ∷ xs) (v ∷ vs) (c ∷ d) h k = go (name_eq k.0 x) (direction_words xs vs d h.1 k)
  where
    go : (b : Bool) → wrap (direction xs vs d k) ≡ direction xs vs d k →
        wrap (if b then nth_cell duals (side_by_side v.cells c) k.1 else entry_store duals xs (map (from_slot duals) (with_direction vs d)) (plain k.0) k.1).1 ≡ (if b then nth_cell duals (side_by_side v.cells c) k.1 else entry_store duals xs (map (from_slot duals) (with_direction vs d)) (plain k.0) k.1).1
    go true ih = side_words v.cells c h.0 k.1
    go false ih = ih

-- nothing stands beyond the cells
side_beyond : (cs ds : List ℤ) (j : ℕ) → length cs ≤ j → (nth_cell duals (side_by_side cs ds) j).1 ≡ pos 0
side_beyond [] ds j l = refl
side_beyond (c ∷ cs) [] j l = refl
side_beyond (c ∷ cs) (d ∷ ds) zero l = absurd (omega (arith, l))
side_beyond (c ∷ cs) (d ∷ ds) (suc j) l = side_beyond cs ds j (omega (arith, l))

-- a direction has nothing beyond a variable's cells
pub direction_beyond : (sh : Var → Shape) (xs : List (List ℕ)) (vs : List (Slot ℤ)) (d : List (List ℤ)) → AreSized sh xs vs → (y : List ℕ) (j : ℕ) → size_of (sh (plain y)) ≤ j → direction xs vs d (y, j) ≡ pos 0
direction_beyond sh [] vs d m y j l = refl
direction_beyond sh (x ∷ xs) [] d m y j l = refl
direction_beyond sh (x ∷ xs) (v ∷ vs) [] m y j l = refl
direction_beyond sh (x ∷ xs) (v ∷ vs) (c ∷ d) m y j l = go (name_eq y x) refl (direction_beyond sh xs vs d m.1 y j l)
  where
    go : (b : Bool) → name_eq y x ≡ b → direction xs vs d (y, j) ≡ pos 0 → (if b then nth_cell duals (side_by_side v.cells c) j else entry_store duals xs (map (from_slot duals) (with_direction vs d)) (plain y) j).1 ≡ pos 0
    go true e ih = side_beyond v.cells c j (subst (λ n. n ≤ j) (ap (λ z. size_of (sh (plain z))) (name_same y x e) ∙ sym m.0) l)
    go false e ih = ih

-- ---- what is handed in

-- the cell behind a list is 0
words_beyond : (cs : List ℤ) (j : ℕ) → length cs ≤ j → nth_cell words cs j ≡ pos 0
words_beyond [] j l = refl
words_beyond (c ∷ cs) zero l = absurd (omega (arith, l))
words_beyond (c ∷ cs) (suc j) l = words_beyond cs j (omega (arith, l))

-- nor has an input
pub entry_beyond : (sh : Var → Shape) (xs : List (List ℕ)) (vs : List (Slot ℤ)) → AreSized sh xs vs → (y : List ℕ) (j : ℕ) → size_of (sh (plain y)) ≤ j → entry_store words xs (map (from_slot words) vs) (plain y) j ≡ pos 0
entry_beyond sh [] vs m y j l = refl
entry_beyond sh (x ∷ xs) [] m y j l = refl
entry_beyond sh (x ∷ xs) (v ∷ vs) m y j l = go (name_eq y x) refl (entry_beyond sh xs vs m.1 y j l)
  where
    go : (b : Bool) → name_eq y x ≡ b → entry_store words xs (map (from_slot words) vs) (plain y) j ≡ pos 0 → (if b then nth_cell words v.cells j else entry_store words xs (map (from_slot words) vs) (plain y) j) ≡ pos 0
    go true e ih = words_beyond v.cells j (subst (λ n. n ≤ j) (ap (λ z. size_of (sh (plain z))) (name_same y x e) ∙ sym m.0) l)
    go false e ih = ih

-- the tangents beside some cells are the second parts of the pairs
side_tangent : (cs ds : List ℤ) → length ds ≡ length cs → (j : ℕ) → nth_cell words ds j ≡ (nth_cell duals (side_by_side cs ds) j).1
side_tangent [] [] h j = refl
side_tangent [] (d ∷ ds) h j = cc
side_tangent (c ∷ cs) [] h j = refl
side_tangent (c ∷ cs) (d ∷ ds) h zero = refl
side_tangent (c ∷ cs) (d ∷ ds) h (suc j) = let e : length ds ≡ length cs = cc in side_tangent cs ds e j

-- a name that isn't the first is handed in further on
not_here : (xs : List (List ℕ)) (vs zs : List (Slot ℤ)) (d : List (List ℤ)) (x : List ℕ) (v z : Slot ℤ) (c : List ℤ) (y : List ℕ) (j : ℕ) → name_eq y x ≡ false → entry_store words xs (map (from_slot words) zs) (plain y) j ≡ direction xs vs d (y, j) →
    entry_store words (x ∷ xs) (map (from_slot words) (z ∷ zs)) (plain y) j ≡ direction (x ∷ xs) (v ∷ vs) (c ∷ d) (y, j)
not_here xs vs zs d x v z c y j e h =
    ap (λ b. if b then nth_cell words z.cells j else entry_store words xs (map (from_slot words) zs) (plain y) j) e
    ∙ h
    ∙ sym (ap (λ b. (if b then nth_cell duals (side_by_side v.cells c) j else entry_store duals xs (map (from_slot duals) (with_direction vs d)) (plain y) j).1) e)

-- the tangents of the independents are those of the direction
pub handed_same : (xs : List (List ℕ)) (vs zs : List (Slot ℤ)) (d : List (List ℤ)) (vars : List Bool) → AreAlike vs zs → AreTangents vs d → AreHandedIn vars d zs → (y : List ℕ) (j : ℕ) → has_name y (unmarked xs vars) ≡ false →
    entry_store words xs (map (from_slot words) zs) (plain y) j ≡ direction xs vs d (y, j)
handed_same [] vs zs d vars a t h y j n = refl
handed_same (x ∷ xs) [] [] d vars a t h y j n = refl
handed_same (x ∷ xs) [] (z ∷ zs) d vars a t h y j n = absurd a
handed_same (x ∷ xs) (v ∷ vs) [] d vars a t h y j n = absurd a
handed_same (x ∷ xs) (v ∷ vs) (z ∷ zs) [] vars a t h y j n = absurd t
handed_same (x ∷ xs) (v ∷ vs) (z ∷ zs) (c ∷ d) [] a t h y j n =
    let p = or_false (name_eq y x) (has_name y (unmarked xs [])) n in
    not_here xs vs zs d x v z c y j p.0 (handed_same xs vs zs d [] a.1.1 t.1 tt y j p.1)
handed_same (x ∷ xs) (v ∷ vs) (z ∷ zs) (c ∷ d) (true ∷ vars) a t h y j n = go (name_eq y x) (handed_same xs vs zs d vars a.1.1 t.1 h.1 y j n)
  where
    go : (b : Bool) → entry_store words xs (map (from_slot words) zs) (plain y) j ≡ direction xs vs d (y, j) → (if b then nth_cell words z.cells j else entry_store words xs (map (from_slot words) zs) (plain y) j) ≡ (if b then nth_cell duals (side_by_side v.cells c) j else entry_store duals xs (map (from_slot duals) (with_direction vs d)) (plain y) j).1
    go true ih = ap (λ l. nth_cell words l j) h.0 ∙ side_tangent v.cells c t.0 j
    go false ih = ih
handed_same (x ∷ xs) (v ∷ vs) (z ∷ zs) (c ∷ d) (false ∷ vars) a t h y j n =
    let p = or_false (name_eq y x) (has_name y (unmarked xs vars)) n in
    not_here xs vs zs d x v z c y j p.0 (handed_same xs vs zs d vars a.1.1 t.1 h y j p.1)

-- ---- the slots at the end

-- each dummy with its value, followed by its tangent if it carries one
pub slots_joined : (shape shd : Var → Shape) (a : Vars) (s : Store ℤ) (t : Store (ℤ × ℤ)) (ns : List Named) (xs : List (List ℕ)) → ((x : List ℕ) → shape (naming ns (plain x)) ≡ shd (plain x)) → ((x : List ℕ) → a (plain x) ≡ true → shape (naming ns (shadow x)) ≡ shd (plain x)) →
    ((x : List ℕ) (j : ℕ) → s (naming ns (plain x)) j ≡ (t (plain x) j).0) → ((x : List ℕ) (j : ℕ) → a (plain x) ≡ true → s (naming ns (shadow x)) j ≡ (t (plain x) j).1) →
    (let out : List (Slot (ℤ × ℤ)) = map (λ d. slot_of (shd (plain d)) (t (plain d))) xs in map (λ d. slot_of (shape (plain d)) (s (plain d))) (map (name_in ns) (paired a xs)) ≡ joined_by (shadow_flags a xs) (map (slot_seen (λ c. c.0)) out) (map (slot_seen (λ c. c.1)) out))
slots_joined shape shd a s t ns [] p q f g = refl
slots_joined shape shd a s t ns (x ∷ xs) p q f g = go (a (plain x)) refl (slots_joined shape shd a s t ns xs p q f g)
  where
    rest : List (Slot (ℤ × ℤ))
    rest = map (λ d. slot_of (shd (plain d)) (t (plain d))) xs

    own : List ℕ → Slot ℤ
    own d = slot_of (shape (plain d)) (s (plain d))

    n : ℕ
    n = size_of (shd (plain x))

    value : own (name_in ns (plain x)) ≡ slot_seen (λ (c : ℤ × ℤ). c.0) (slot_of (shd (plain x)) (t (plain x)))
    value = (λ i. slot_of (p x i) (λ j. f x j i)) ∙ (λ i. record { shape = shd (plain x); cells = sym (from_map (λ (c : ℤ × ℤ). c.0) (t (plain x)) 0 n) i })

    tangent : a (plain x) ≡ true → own (name_in ns (shadow x)) ≡ slot_seen (λ (c : ℤ × ℤ). c.1) (slot_of (shd (plain x)) (t (plain x)))
    tangent e = (λ i. slot_of (q x e i) (λ j. g x j e i)) ∙ (λ i. record { shape = shd (plain x); cells = sym (from_map (λ (c : ℤ × ℤ). c.1) (t (plain x)) 0 n) i })

    go : (b : Bool) → a (plain x) ≡ b → map own (map (name_in ns) (paired a xs)) ≡ joined_by (shadow_flags a xs) (map (slot_seen (λ (c : ℤ × ℤ). c.0)) rest) (map (slot_seen (λ (c : ℤ × ℤ). c.1)) rest) →
        map own (map (name_in ns) (if b then plain x ∷ shadow x ∷ paired a xs else plain x ∷ paired a xs))
        ≡ joined_by (b ∷ shadow_flags a xs) (slot_seen (λ (c : ℤ × ℤ). c.0) (slot_of (shd (plain x)) (t (plain x))) ∷ map (slot_seen (λ (c : ℤ × ℤ). c.0)) rest) (slot_seen (λ (c : ℤ × ℤ). c.1) (slot_of (shd (plain x)) (t (plain x))) ∷ map (slot_seen (λ (c : ℤ × ℤ). c.1)) rest)
    go true e ih = λ i. value i ∷ tangent e i ∷ ih i
    go false e ih = λ i. value i ∷ ih i

-- what isn't flagged carries nothing
pub unflagged : (a : Vars) (xs : List (List ℕ)) (y : List ℕ) → has_name y (unmarked xs (shadow_flags a xs)) ≡ true → a (plain y) ≡ false
unflagged a [] y h = absurd cc
unflagged a (x ∷ xs) y h = go (a (plain x)) refl h (unflagged a xs y)
  where
    go : (b : Bool) → a (plain x) ≡ b → has_name y (unmarked (x ∷ xs) (b ∷ shadow_flags a xs)) ≡ true → (has_name y (unmarked xs (shadow_flags a xs)) ≡ true → a (plain y) ≡ false) → a (plain y) ≡ false
    go true e h ih = ih h
    go false e h ih = here (name_eq y x) refl h
      where
        here : (c : Bool) → name_eq y x ≡ c → (c || has_name y (unmarked xs (shadow_flags a xs))) ≡ true → a (plain y) ≡ false
        here true s k = ap (λ z. a (plain z)) (name_same y x s) ∙ e
        here false s k = ih k

-- as many tangents are cleared as there are dummies, at most
pub few_among : (a : Vars) (xs : List (List ℕ)) → length (names_in a xs) ≤ length xs
few_among a [] = omega arith
few_among a (x ∷ xs) = go (a (plain x)) (few_among a xs)
  where
    go : (b : Bool) → length (names_in a xs) ≤ length xs → length (if b then x ∷ names_in a xs else names_in a xs) ≤ suc (length xs)
    go true l = omega (arith, l)
    go false l = omega (arith, l)

-- those without a flag are no more than all
pub few_unmarked : (xs : List (List ℕ)) (marks : List Bool) → length (unmarked xs marks) ≤ length xs
few_unmarked [] marks = omega arith
few_unmarked (x ∷ xs) [] = let l = few_unmarked xs [] in omega (arith, l)
few_unmarked (x ∷ xs) (true ∷ marks) = let l = few_unmarked xs marks in omega (arith, l)
few_unmarked (x ∷ xs) (false ∷ marks) = let l = few_unmarked xs marks in omega (arith, l)
