-- The store at the entry of a unit, seen by other numbers.
use Rattle.std.proofs.Common.{◌≡◌, ℕ, List, ◌∷◌, refl, sym, ◌∙◌}
use Rattle.std.specs.Prelude.{pos, ◌==◌, ◌&&◌, ◌||◌, length, map, []}
use Rattle.adj_tree.specs.Code.{Var, plain, Extent, fixed, given, Procedure}
use Rattle.def_meaning.specs.Numbers.{Numbers}
use Rattle.def_meaning.specs.Store.{Store, set_all}
use Rattle.def_meaning.specs.Units.{declared, extent_in, extents_of, shape_fits, Place, whole, cell, nowhere, Actual, entry_store, dummies_fit}
use Rattle.def_meaning.specs.Seen.{Separates, Projects, seen}
use Rattle.def_meaning.proofs.SeenValues.{set_all_seen}

-- a variable's own name keeps it apart
pub own_names : Separates (λ x. x)
own_names = record { at = λ x y. refl }

-- a place under other names
abbrev pub moved : (Var → Var) → Place → Place
moved r (whole x) = whole (r x)
moved r (cell x i) = cell (r x) i
moved r nowhere = nowhere

-- the second actual is the first, seen
pub record AlikeActual {C D : Type 0} (r : Var → Var) (h : C → D) (a : Actual C) (b : Actual D) : Type 0 where
  pub shape : a.shape ≡ b.shape
  pub cells : (λ j. h (a.cells j)) ≡ b.cells
  pub place : a.place ≡ moved r b.place

-- the same of all actuals of a call
abbrev pub AlikeActuals : {C D : Type 0} → (Var → Var) → (C → D) → List (Actual C) → List (Actual D) → Type 0
AlikeActuals r h [] [] = Unit {0}
AlikeActuals r h [] (b ∷ bs) = ⊥
AlikeActuals r h (a ∷ got) [] = ⊥
AlikeActuals r h (a ∷ got) (b ∷ bs) = AlikeActual r h a b × AlikeActuals r h got bs

module _ {C D : Type 0} (h : C → D) (n : Numbers C) (m : Numbers D) (p : Projects h n m) where
  -- the store at a unit's entry
  pub entry_seen : (r : Var → Var) (ds : List (List ℕ)) (got : List (Actual C)) (bs : List (Actual D)) → AlikeActuals r h got bs → seen (λ x. x) h (entry_store n ds got) ≡ entry_store m ds bs
  entry_seen r [] got bs l = λ i x j. p.of_word (pos 0) i
  entry_seen r (d ∷ ds) [] [] l = λ i x j. p.of_word (pos 0) i
  entry_seen r (d ∷ ds) [] (b ∷ bs) l = absurd l
  entry_seen r (d ∷ ds) (a ∷ got) [] l = absurd l
  entry_seen r (d ∷ ds) (a ∷ got) (b ∷ bs) l =
      set_all_seen (λ x. x) own_names h (entry_store n ds got) (plain d) a.cells ∙ (λ i. set_all (entry_seen r ds got bs l.1 i) (plain d) (l.0.cells i))

  -- an extent
  extent_seen : (s : Store C) (e : Extent) → extent_in n s e ≡ extent_in m (seen (λ x. x) h s) e
  extent_seen s (fixed z) = refl
  extent_seen s (given x) = sym (p.shown (s (plain x) 0))

  -- all extents of a variable
  pub extents_seen : (u : Procedure) (s : Store C) (x : Var) → extents_of n u s x ≡ extents_of m u (seen (λ x. x) h s) x
  extents_seen u s x = λ i. map (λ e. extent_seen s e i) (declared u.declarations x)

  -- the dummies fit in both or in neither
  pub fit_seen : (r : Var → Var) (u : Procedure) (s : Store C) (ds : List (List ℕ)) (got : List (Actual C)) (bs : List (Actual D)) → AlikeActuals r h got bs → dummies_fit n u s ds got ≡ dummies_fit m u (seen (λ x. x) h s) ds bs
  fit_seen r u s [] got bs l = refl
  fit_seen r u s (d ∷ ds) [] [] l = refl
  fit_seen r u s (d ∷ ds) [] (b ∷ bs) l = absurd l
  fit_seen r u s (d ∷ ds) (a ∷ got) [] l = absurd l
  fit_seen r u s (d ∷ ds) (a ∷ got) (b ∷ bs) l =
      λ i. (length (declared u.declarations (plain d)) == 0 || shape_fits (extents_seen u s (plain d) i) (l.0.shape i)) && fit_seen r u s ds got bs l.1 i
