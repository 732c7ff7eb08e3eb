-- Slots and stores: what a unit of scalars has at its entry and hands out at its end.
use Rattle.std.proofs.Common.{◌≡◌, ℕ, zero, suc, Bool, true, false, List, [], ◌∷◌, map, length, refl, sym, ap, ◌∙◌, if◌then◌else◌}
use Rattle.std.specs.Prelude.{ℤ, pos, ◌||◌}
use Rattle.adj_tree.specs.Code.{Role, Var, plain, shadow, helper, name_eq, var_eq, Declaration, Procedure}
use Rattle.adj_tree.proofs.Names.{name_refl, name_same}
use Rattle.def_meaning.specs.Numbers.{Numbers, words, duals}
use Rattle.def_meaning.specs.Store.{scalar, Store, set_all}
use Rattle.def_meaning.specs.Value.{Setting}
use Rattle.def_meaning.specs.Units.{declared, extent_in, shape_of, setting_in, Slot, from_slot, Actual, entry_store, nth_cell}
use Rattle.def_meaning.specs.Apart.{has_name}
use Rattle.def_sweep.specs.Naming.{Named, name_in, naming}
use Rattle.def_names.specs.Numbers.{Vars}
use Rattle.def_sweep.specs.MarkedProgram.{shadows_behind}
use Rattle.def_sweep.specs.MarkedAdjoint.{shadow_flags, joined_by}
use Rattle.law_sweep.specs.Straight.{AreScalars}
use Rattle.law_sweep.specs.Pairs.{Words, with_tangents}
use Rattle.def_sweep.specs.Tangents.{AreAlike, side_by_side, with_direction, AreTangents}
use Rattle.def_names.proofs.Variables.{or_right}

-- ---- shapes

declared-none : (ds : List Declaration) (x : Var) → AreScalars ds → declared ds x ≡ []
declared-none [] x h = refl
declared-none (d ∷ ds) x h = go (var_eq x (plain d.name)) (declared-none ds x h.1)
  where
    go : (b : Bool) → declared ds x ≡ [] → (if b then d.extents else declared ds x) ≡ []
    go true ih = h.0
    go false ih = ih

-- a unit of scalars runs in a setting where every variable is one
pub setting-scalars : {C : Type 0} (n : Setting C) (u : Procedure) (s : Store C) → AreScalars u.declarations → setting_in n u s ≡ record n { shape = λ x. scalar; level = suc n.level }
setting-scalars n u s h = λ i. record n { shape = λ x. shape_of (map (extent_in n.numbers s) (declared-none u.declarations x h i)); level = suc n.level }

-- ---- a unit's slots, where each dummy has one word

-- so many slots as names
abbrev pub AreAsMany : {A B : Type 0} → List A → List B → Type 0
AreAsMany [] [] = Unit {0}
AreAsMany [] (y ∷ ys) = ⊥
AreAsMany (x ∷ xs) [] = ⊥
AreAsMany (x ∷ xs) (y ∷ ys) = AreAsMany xs ys

pub many_alike : {A : Type 0} (xs : List A) (vs ws : List (Slot ℤ)) → AreAlike vs ws → AreAsMany xs vs → AreAsMany xs ws
many_alike [] [] [] a h = tt
many_alike [] [] (w ∷ ws) a h = absurd a
many_alike [] (v ∷ vs) ws a h = absurd h
many_alike (x ∷ xs) [] ws a h = absurd h
many_alike (x ∷ xs) (v ∷ vs) [] a h = absurd a
many_alike (x ∷ xs) (v ∷ vs) (w ∷ ws) a h = many_alike xs vs ws a.1.1 h

-- ---- the store at a unit's entry, by the names of its dummies

-- the store of variables that get these, told apart by what they hold
abbrev pub given_store : {C : Type 0} → Numbers C → List Var → List (Actual C) → Store C
given_store n [] got = λ x j. n.of_word (pos 0)
given_store n (v ∷ vs) [] = λ x j. n.of_word (pos 0)
given_store n (v ∷ vs) (a ∷ got) = set_all (given_store n vs got) v a.cells

-- a unit whose dummies bear the names of some variables has each at its name
pub entry_store-named : {C : Type 0} (n : Numbers C) (ns : List Named) → ((v w : Var) → var_eq (naming ns v) (naming ns w) ≡ var_eq v w) → (vs : List Var) (got : List (Actual C)) (w : Var) (j : ℕ) → entry_store n (map (name_in ns) vs) got (naming ns w) j ≡ given_store n vs got w j
entry_store-named n ns sep [] got w j = refl
entry_store-named n ns sep (v ∷ vs) [] w j = refl
entry_store-named n ns sep (v ∷ vs) (a ∷ got) w j = λ i. if sep w v i then a.cells j else entry_store-named n ns sep vs got w j i

-- each variable followed by its shadow, if it has one
abbrev pub paired : Vars → List (List ℕ) → List Var
paired a [] = []
paired a (x ∷ xs) = if a (plain x) then plain x ∷ shadow x ∷ paired a xs else plain x ∷ paired a xs

pub shadows_behind-named : (a : Vars) (ns : List Named) (xs : List (List ℕ)) → ((x : List ℕ) → has_name x xs ≡ true → name_in ns (plain x) ≡ x) → shadows_behind a ns xs ≡ map (name_in ns) (paired a xs)
shadows_behind-named a ns [] h = refl
shadows_behind-named a ns (x ∷ xs) h = go (a (plain x)) (h x (ap (λ b. b || has_name x xs) (name_refl x))) (shadows_behind-named a ns xs (λ y e. h y (or_right (name_eq y x) (has_name y xs) e)))
  where
    go : (b : Bool) → name_in ns (plain x) ≡ x → shadows_behind a ns xs ≡ map (name_in ns) (paired a xs) → (if b then x ∷ name_in ns (shadow x) ∷ shadows_behind a ns xs else x ∷ shadows_behind a ns xs) ≡ map (name_in ns) (if b then plain x ∷ shadow x ∷ paired a xs else plain x ∷ paired a xs)
    go true here ih = λ i. sym here i ∷ name_in ns (shadow x) ∷ ih i
    go false here ih = λ i. sym here i ∷ ih i

from_slots-joined : {C : Type 0} (n : Numbers C) (flags : List Bool) (vs ws : List (Slot C)) → map (from_slot n) (joined_by flags vs ws) ≡ joined_by flags (map (from_slot n) vs) (map (from_slot n) ws)
from_slots-joined n [] vs ws = refl
from_slots-joined n (b ∷ flags) [] ws = refl
from_slots-joined n (b ∷ flags) (v ∷ vs) [] = refl
from_slots-joined n (true ∷ flags) (v ∷ vs) (w ∷ ws) = ap (λ z. from_slot n v ∷ from_slot n w ∷ z) (from_slots-joined n flags vs ws)
from_slots-joined n (false ∷ flags) (v ∷ vs) (w ∷ ws) = ap (λ z. from_slot n v ∷ z) (from_slots-joined n flags vs ws)

module _ {C : Type 0} (n : Numbers C) (a : Vars) where
  -- what the actuals give, by variables
  abbrev held_by : List (List ℕ) → List (Actual C) → List (Actual C) → Store C
  held_by xs vs ws = given_store n (paired a xs) (joined_by (shadow_flags a xs) vs ws)

  -- there a variable of the text holds its own slot, and a shadow its own
  given-plain : (xs : List (List ℕ)) (vs ws : List (Actual C)) → AreAsMany xs vs → AreAsMany xs ws → (y : List ℕ) (j : ℕ) → held_by xs vs ws (plain y) j ≡ entry_store n xs vs (plain y) j
  given-plain [] [] ws m k y j = refl
  given-plain [] (v ∷ vs) ws m k y j = absurd m
  given-plain (x ∷ xs) [] ws m k y j = absurd m
  given-plain (x ∷ xs) (v ∷ vs) [] m k y j = absurd k
  given-plain (x ∷ xs) (v ∷ vs) (w ∷ ws) m k y j = go (a (plain x)) (given-plain xs vs ws m k y j)
    where
      go : (b : Bool) → held_by xs vs ws (plain y) j ≡ entry_store n xs vs (plain y) j → given_store n (if b then plain x ∷ shadow x ∷ paired a xs else plain x ∷ paired a xs) (joined_by (b ∷ shadow_flags a xs) (v ∷ vs) (w ∷ ws)) (plain y) j ≡ (if name_eq y x then v.cells j else entry_store n xs vs (plain y) j)
      go true ih = ap (λ z. if name_eq y x then v.cells j else z) ih
      go false ih = ap (λ z. if name_eq y x then v.cells j else z) ih

  given-shadow : (xs : List (List ℕ)) (vs ws : List (Actual C)) → AreAsMany xs vs → AreAsMany xs ws → (y : List ℕ) (j : ℕ) → held_by xs vs ws (shadow y) j ≡ (if a (plain y) then entry_store n xs ws (plain y) j else n.of_word (pos 0))
  given-shadow [] [] [] m k y j = go (a (plain y))
    where
      go : (b : Bool) → n.of_word (pos 0) ≡ (if b then n.of_word (pos 0) else n.of_word (pos 0))
      go true = refl
      go false = refl
  given-shadow [] [] (w ∷ ws) m k y j = absurd k
  given-shadow [] (v ∷ vs) ws m k y j = absurd m
  given-shadow (x ∷ xs) [] ws m k y j = absurd m
  given-shadow (x ∷ xs) (v ∷ vs) [] m k y j = absurd k
  given-shadow (x ∷ xs) (v ∷ vs) (w ∷ ws) m k y j = go (a (plain x)) refl (name_eq y x) refl (a (plain y)) refl (given-shadow xs vs ws m k y j)
    where
      go : (b : Bool) → a (plain x) ≡ b → (e : Bool) → name_eq y x ≡ e → (c : Bool) → a (plain y) ≡ c → held_by xs vs ws (shadow y) j ≡ (if c then entry_store n xs ws (plain y) j else n.of_word (pos 0)) → given_store n (if b then plain x ∷ shadow x ∷ paired a xs else plain x ∷ paired a xs) (joined_by (b ∷ shadow_flags a xs) (v ∷ vs) (w ∷ ws)) (shadow y) j ≡ (if c then (if e then w.cells j else entry_store n xs ws (plain y) j) else n.of_word (pos 0))
      go true p true e true q ih = ap (λ z. if z then w.cells j else held_by xs vs ws (shadow y) j) e
      go true p true e false q ih = absurd (let c : true ≡ false = sym p ∙ ap (λ z. a (plain z)) (sym (name_same y x e)) ∙ q in cc)
      go true p false e c q ih = ap (λ z. if z then w.cells j else held_by xs vs ws (shadow y) j) e ∙ ih
      go false p true e true q ih = absurd (let c : true ≡ false = sym q ∙ ap (λ z. a (plain z)) (name_same y x e) ∙ p in cc)
      go false p true e false q ih = ih
      go false p false e c q ih = ih

many_from_slots : {A C : Type 0} (n : Numbers C) (xs : List A) (vs : List (Slot C)) → AreAsMany xs vs → AreAsMany xs (map (from_slot n) vs)
many_from_slots n [] [] h = tt
many_from_slots n [] (v ∷ vs) h = absurd h
many_from_slots n (x ∷ xs) [] h = absurd h
many_from_slots n (x ∷ xs) (v ∷ vs) h = many_from_slots n xs vs h

-- what the variables of the text hold in the adjoint's store, and what their shadows
module _ {C : Type 0} (n : Numbers C) (a : Vars) (xs : List (List ℕ)) (input shadows : List (Slot C)) (m : AreAsMany xs input) (k : AreAsMany xs shadows) where
  pub slots-plain : (y : List ℕ) (j : ℕ) → given_store n (paired a xs) (map (from_slot n) (joined_by (shadow_flags a xs) input shadows)) (plain y) j ≡ entry_store n xs (map (from_slot n) input) (plain y) j
  slots-plain y j =
      ap (λ got. given_store n (paired a xs) got (plain y) j) (from_slots-joined n (shadow_flags a xs) input shadows)
      ∙ given-plain n a xs (map (from_slot n) input) (map (from_slot n) shadows) (many_from_slots n xs input m) (many_from_slots n xs shadows k) y j

  pub slots-shadow : (y : List ℕ) (j : ℕ) → given_store n (paired a xs) (map (from_slot n) (joined_by (shadow_flags a xs) input shadows)) (shadow y) j ≡ (if a (plain y) then entry_store n xs (map (from_slot n) shadows) (plain y) j else n.of_word (pos 0))
  slots-shadow y j =
      ap (λ got. given_store n (paired a xs) got (shadow y) j) (from_slots-joined n (shadow_flags a xs) input shadows)
      ∙ given-shadow n a xs (map (from_slot n) input) (map (from_slot n) shadows) (many_from_slots n xs input m) (many_from_slots n xs shadows k) y j

-- ---- the store of a dual run

-- the tangents of the dummies' cells, and 0 elsewhere
abbrev pub direction : List (List ℕ) → List (Slot ℤ) → List (List ℤ) → Words
direction xs input d = λ k. (entry_store duals xs (map (from_slot duals) (with_direction input d)) (plain k.0) k.1).1

nth-side : (cs ds : List ℤ) (j : ℕ) → length ds ≡ length cs → (nth_cell duals (side_by_side cs ds) j).0 ≡ nth_cell words cs j
nth-side [] ds j h = refl
nth-side (c ∷ cs) [] j h = cc
nth-side (c ∷ cs) (d ∷ ds) zero h = refl
nth-side (c ∷ cs) (d ∷ ds) (suc j) h = nth-side cs ds j (cc)

dual_values : (xs : List (List ℕ)) (input : List (Slot ℤ)) (d : List (List ℤ)) → AreTangents input d → (v : Var) (j : ℕ) → (entry_store duals xs (map (from_slot duals) (with_direction input d)) v j).0 ≡ entry_store words xs (map (from_slot words) input) v j
dual_values [] input d h v j = refl
dual_values (x ∷ xs) [] d h v j = refl
dual_values (x ∷ xs) (w ∷ ws) [] h v j = absurd h
dual_values (x ∷ xs) (w ∷ ws) (t ∷ ts) h v j = go (var_eq v (plain x)) (nth-side w.cells t j h.0) (dual_values xs ws ts h.1 v j)
  where
    go : (b : Bool) → (nth_cell duals (side_by_side w.cells t) j).0 ≡ nth_cell words w.cells j → (entry_store duals xs (map (from_slot duals) (with_direction ws ts)) v j).0 ≡ entry_store words xs (map (from_slot words) ws) v j → (if b then nth_cell duals (side_by_side w.cells t) j else entry_store duals xs (map (from_slot duals) (with_direction ws ts)) v j).0 ≡ (if b then nth_cell words w.cells j else entry_store words xs (map (from_slot words) ws) v j)
    go true here ih = here
    go false here ih = ih

shadow_none : (xs : List (List ℕ)) (got : List (Actual (ℤ × ℤ))) (y : List ℕ) (j : ℕ) → (entry_store duals xs got (shadow y) j).1 ≡ pos 0
shadow_none [] got y j = refl
shadow_none (x ∷ xs) [] y j = refl
shadow_none (x ∷ xs) (a ∷ got) y j = shadow_none xs got y j

helper_none : (xs : List (List ℕ)) (got : List (Actual (ℤ × ℤ))) (r : Role) (k j : ℕ) → (entry_store duals xs got (helper r k) j).1 ≡ pos 0
helper_none [] got r k j = refl
helper_none (x ∷ xs) [] r k j = refl
helper_none (x ∷ xs) (a ∷ got) r k j = helper_none xs got r k j

-- the dual run begins with the values of the run, and the direction
pub dual_store : (xs : List (List ℕ)) (input : List (Slot ℤ)) (d : List (List ℤ)) → AreTangents input d → (v : Var) (j : ℕ) → entry_store duals xs (map (from_slot duals) (with_direction input d)) v j ≡ with_tangents (entry_store words xs (map (from_slot words) input)) (direction xs input d) v j
dual_store xs input d h (plain y) j = λ i. (dual_values xs input d h (plain y) j i, direction xs input d (y, j))
dual_store xs input d h (shadow y) j = λ i. (dual_values xs input d h (shadow y) j i, shadow_none xs (map (from_slot duals) (with_direction input d)) y j i)
dual_store xs input d h (helper r k) j = λ i. (dual_values xs input d h (helper r k) j i, helper_none xs (map (from_slot duals) (with_direction input d)) r k j i)
