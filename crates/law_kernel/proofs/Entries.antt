-- The entry of a unit that is called by names in the kernel.
use Rattle.std.proofs.Common.{◌≡◌, ℕ, suc, ◌+◌, ◌<◌, ◌≤◌, Bool, true, false, List, [], ◌∷◌, refl, sym, ap, ◌∙◌, arith}
use Rattle.std.specs.Prelude.{pos, int_le, length, ◌==◌, ◌&&◌, ◌||◌, map, Ok, if◌then◌else◌}
use Rattle.adj_tree.specs.Code.{Var, plain, var_eq, Terms, none, more, Procedure}
use Rattle.def_meaning.specs.Numbers.{Numbers}
use Rattle.def_meaning.specs.Trap.{then_ok}
use Rattle.def_meaning.specs.Store.{Shape, scalar, size_of, Store}
use Rattle.def_meaning.specs.Value.{Setting}
use Rattle.def_meaning.specs.Units.{Actual, actuals, declared, extent_in, extents_of, shape_of, are_extents, elements, shape_fits, dummies_fit, entry_store, setting_in}
use Rattle.def_meaning.proofs.Booleans.{and_true}
use Rattle.def_meaning.proofs.Cells.{size_positive}
use Rattle.law_meaning.proofs.Dependence.{HasCell, has_first, has_fitting, extents_alike, shape_same}
use Rattle.def_kernel.specs.Lowered.{first_flag, other_flags, passing, locals_passing, passed, all_passed}
use Rattle.def_kernel.specs.Calls.{is_scalar}
use Rattle.law_kernel.proofs.HandingBack.{by_name, by_names}

module _ (local : ℕ → Var) where
  -- the names of a call in the kernel, in order
  abbrev pub names_passed : ℕ → List Bool → List Var → Terms → List Var
  names_passed j ws earlier none = []
  names_passed j ws earlier (more e es) =
      let p = passing (first_flag ws) earlier e in
      passed local j p ∷ names_passed (j + locals_passing p) (other_flags ws) (passed local j p ∷ earlier) es

  -- they are its actuals
  pub kernel_actuals : {C : Type 0} (n : Setting C) (t : Store C) (j : ℕ) (ws : List Bool) (earlier : List Var) (es : Terms) → actuals n (all_passed local j ws earlier es) t ≡ Ok (by_names n t (names_passed j ws earlier es))
  kernel_actuals n t j ws earlier none = refl
  kernel_actuals n t j ws earlier (more e es) =
      let p = passing (first_flag ws) earlier e in
      ap (λ z. then_ok z (λ got. Ok (by_name n t (passed local j p) ∷ got))) (kernel_actuals n t (j + locals_passing p) (other_flags ws) (passed local j p ∷ earlier) es)

-- ---- actuals that are equal in their cells

-- the actuals have the shapes and the cells of the names
abbrev pub AllEqual : {C : Type 0} → Setting C → Store C → List (Actual C) → List Var → Type 0
AllEqual n t [] [] = Unit {0}
AllEqual n t [] (y ∷ ys) = ⊥
AllEqual n t (a ∷ got) [] = ⊥
AllEqual n t (a ∷ got) (y ∷ ys) = ((a.shape ≡ n.shape y) × ((i : ℕ) → i < size_of a.shape → a.cells i ≡ t y i)) × AllEqual n t got ys

module _ {C : Type 0} (n : Setting C) (t : Store C) where
  -- so the entries agree where the actuals have cells
  pub entry_same : (ds : List (List ℕ)) (got : List (Actual C)) (ys : List Var) → AllEqual n t got ys → (y : Var) (i : ℕ) → HasCell y i ds got → entry_store n.numbers ds got y i ≡ entry_store n.numbers ds (by_names n t ys) y i
  entry_same [] got ys m y i h = refl
  entry_same (d ∷ ds) [] [] m y i h = refl
  entry_same (d ∷ ds) [] (z ∷ ys) m y i h = absurd m
  entry_same (d ∷ ds) (a ∷ got) [] m y i h = absurd m
  entry_same (d ∷ ds) (a ∷ got) (z ∷ ys) m y i h = go (var_eq y (plain d)) refl (entry_same ds got ys m.1 y i h.1)
    where
      go : (b : Bool) → var_eq y (plain d) ≡ b → entry_store n.numbers ds got y i ≡ entry_store n.numbers ds (by_names n t ys) y i → (if b then a.cells i else entry_store n.numbers ds got y i) ≡ (if b then t z i else entry_store n.numbers ds (by_names n t ys) y i)
      go true e rest = m.0.1 i (h.0 e)
      go false e rest = rest

  module _ (u u' : Procedure) (dummies : u'.dummies ≡ u.dummies) (same : (x : Var) → declared u'.declarations x ≡ declared u.declarations x) (got : List (Actual C)) (ys : List Var) (m : AllEqual n t got ys) where
    abbrev here : Store C
    here = entry_store n.numbers u.dummies got

    abbrev there : Store C
    there = entry_store n.numbers u'.dummies (by_names n t ys)

    there_is : entry_store n.numbers u.dummies (by_names n t ys) ≡ there
    there_is = ap (λ z. entry_store n.numbers z (by_names n t ys)) (sym dummies)

    -- a cell of a dummy at both entries
    pub entry_cells : (y : Var) (i : ℕ) → HasCell y i u.dummies got → here y i ≡ there y i
    entry_cells y i h = entry_same u.dummies got ys m y i h ∙ ap (λ (s : Store C). s y i) there_is

    -- the extents are the same
    pub extents_same : (x : Var) → extents_of n.numbers u here x ≡ extents_of n.numbers u' there x
    extents_same x =
        extents_alike n.numbers here there (declared u.declarations x) (λ d h. entry_cells (plain d) 0 (has_first (plain d) u.dummies got))
        ∙ ap (map (extent_in n.numbers there)) (sym (same x))

    -- and so are the settings within the unit
    pub setting_same : setting_in n u here ≡ setting_in n u' there
    setting_same = λ i. record { numbers = n.numbers; shape = λ x. shape_of (extents_same x i); room = n.room; level = suc n.level }

    -- dummies fit alike where shapes are alike
    fit_all : (ds : List (List ℕ)) (got : List (Actual C)) (ys : List Var) → AllEqual n t got ys → dummies_fit n.numbers u here ds got ≡ dummies_fit n.numbers u' there ds (by_names n t ys)
    fit_all [] got ys m = refl
    fit_all (d ∷ ds) [] [] m = refl
    fit_all (d ∷ ds) [] (z ∷ ys) m = absurd m
    fit_all (d ∷ ds) (a ∷ got) [] m = absurd m
    fit_all (d ∷ ds) (a ∷ got) (z ∷ ys) m =
        λ i. (length (sym (same (plain d)) i) == 0 || shape_fits (extents_same (plain d) i) (m.0.0 i)) && fit_all ds got ys m.1 i

    -- the dummies fit in both or in neither
    pub fit_same : dummies_fit n.numbers u here u.dummies got ≡ dummies_fit n.numbers u' there u'.dummies (by_names n t ys)
    fit_same = fit_all u.dummies got ys m ∙ ap (λ z. dummies_fit n.numbers u' there z (by_names n t ys)) (sym dummies)

    module _ (fits : dummies_fit n.numbers u here u.dummies got ≡ true) where
      -- the entries agree in the cells that the unit's variables have
      pub entry_agrees : (y : Var) (i : ℕ) → i < size_of ((setting_in n u here).shape y) → here y i ≡ there y i
      entry_agrees y i l = entry_cells y i (has_fitting n.numbers u here y i l u.dummies got fits)

-- ---- the sizes of dummies that fit

-- a dummy that isn't a scalar has the size of its actual
pub size_same : {C : Type 0} (n : Numbers C) (u : Procedure) (s : Store C) (x : Var) (sh : Shape) → (length (declared u.declarations x) == 0 || shape_fits (extents_of n u s x) sh) ≡ true → (is_scalar u.declarations x ≡ true → sh ≡ scalar) → size_of sh ≤ size_of (shape_of (extents_of n u s x))
size_same n u s x sh h flat = go (length (declared u.declarations x) == 0) refl h flat
  where
    go : (b : Bool) → (length (declared u.declarations x) == 0) ≡ b → (b || shape_fits (extents_of n u s x) sh) ≡ true → (b ≡ true → sh ≡ scalar) → size_of sh ≤ size_of (shape_of (extents_of n u s x))
    go true e h flat =
        let one : size_of sh ≡ 1 = ap size_of (flat refl) in
        let some = size_positive (shape_of (extents_of n u s x)) in
        omega arith
    go false e h flat =
        let p = and_true (are_extents (extents_of n u s x)) _ h in
        let q = and_true (int_le (elements (extents_of n u s x)) (pos 1048576)) _ p.1 in
        let same : size_of (shape_of (extents_of n u s x)) ≡ size_of sh = ap size_of (shape_same (shape_of (extents_of n u s x)) sh q.1) in
        omega arith
