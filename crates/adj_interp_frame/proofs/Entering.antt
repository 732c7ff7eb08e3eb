-- What stands at the entry of a unit, variable by variable.
use Rattle.std.proofs.Common.{◌≡◌, ℕ, zero, suc, ◌+◌, ◌<◌, ◌≤◌, ◌⊎◌, inl, inr, Bool, true, false, List, [], ◌∷◌, ◌++◌, map, length, get_or, drop, refl, sym, ap, subst, ◌∙◌, arith, if◌then◌else◌}
use Rattle.std.specs.Prelude.{ℤ, pos, int_le, ◌==◌, ◌&&◌, ◌||◌, nat_lt, slice_get, Option, Some, None}
use Rattle.std.proofs.Math.ListN.{set}
use Rattle.std.proofs.lemmas.Grind.{get_or-set_at}
use Rattle.std.proofs.lemmas.List.{drop_all, drop_more, get_or_append_left, get_or-map, get_or-set_other, length-map, length-append}
use Rattle.adj_tree.specs.Code.{Var, plain, shadow, helper, name_eq, var_eq, Declaration, Extent}
use Rattle.adj_tree.specs.View.{procedure_of}
use Rattle.adj_tree.proofs.Names.{nat_same, name_refl, name_same}
use Rattle.def_meaning.specs.Numbers.{Numbers}
use Rattle.def_meaning.specs.Store.{Shape, scalar, size_of, Store}
use Rattle.def_meaning.specs.Apart.{has_name, AreApart}
use Rattle.def_meaning.specs.Units.{declared, extent_in, extents_of, shape_of, shape_fits, are_extents, elements, dummies_fit, Actual, entry_store}
use Rattle.def_meaning.proofs.Booleans.{and_true, or_false}
use Rattle.adj_interp_frame.specs.declared.slot.Slot.{Slot}
use Rattle.adj_interp_frame.specs.declared.actual.Actual.{Actual as CodeActual}
use Rattle.adj_interp_frame.specs.declared.layout.Layout.{Layout}
use Rattle.adj_interp_frame.specs.declared.layout.Layout.TheVariants as layout
use Rattle.adj_interp_frame.specs.declared.layout.Area.{Area}
use Rattle.adj_interp_frame.specs.declared.layout.Area.TheVariants as area
use Rattle.adj_interp_frame.specs.declared.routine.Routine.{Routine}
use Rattle.adj_interp_frame.specs.Prepared.{var_at}
use Rattle.adj_interp_frame.specs.Framed.{slot_shape, in_slot, shapes_in, zero_in, store_in}
use Rattle.adj_interp_frame.specs.Shown.{Shows}
use Rattle.adj_interp_frame.specs.Called.{actual_in, actuals_in, IsActualBelow, AreActualsBelow, given_at, extents_at, IsLaidOut, entered_with, shapes_with, IsEntered, words_in, is_fit, fit_from}
use Rattle.adj_interp_frame.proofs.Reading.{other_name}

pub undeclared : (ds : List Declaration) (x : Var) → ((y : List ℕ) → var_eq x (plain y) ≡ false) → declared ds x ≡ []
undeclared [] x h = refl
undeclared (d ∷ ds) x h = ap (λ b. if b then d.extents else declared ds x) (h d.name) ∙ undeclared ds x h

-- ---- by the actual of a variable

get_is : {A : Type 0} (xs : List A) (k : ℕ) (a : A) → slice_get xs k ≡ Some a → (k < length xs) × (get_or xs k a ≡ a)
get_is [] k a h = absurd cc
get_is (x ∷ xs) zero a h = let e : x ≡ a = cc in (omega arith, e)
get_is (x ∷ xs) (suc k) a h = let r = get_is xs k a h in (omega (arith, r.0), r.1)

get_none : {A : Type 0} (xs : List A) (k : ℕ) → slice_get xs k ≡ None → length xs ≤ k
get_none [] k h = omega arith
get_none (x ∷ xs) zero h = absurd cc
get_none (x ∷ xs) (suc k) h = let r = get_none xs k h in omega (arith, r)

-- ---- dummies that fit

-- an array fits where its extents do
pub unfit_array : (a : Area) → (a ≡ area.Scalar → ⊥) → (sh : Shape) → shape_fits (words_in a) sh ≡ false → is_fit (words_in a) sh ≡ false
unfit_array area.Scalar n sh h = absurd (n refl)
unfit_array (area.List a) n sh h = h
unfit_array (area.Table a b) n sh h = h

pub fit_array : (a : Area) (sh : Shape) → shape_fits (words_in a) sh ≡ true → is_fit (words_in a) sh ≡ true
fit_array area.Scalar sh h = refl
fit_array (area.List a) sh h = h
fit_array (area.Table a b) sh h = h

-- extents fit their own shape alone
pub fit_shape : (zs : List ℤ) (sh : Shape) → shape_fits zs sh ≡ true → sh ≡ shape_of zs
fit_shape zs sh h =
    let p = and_true (are_extents zs) (int_le (elements zs) (pos 1048576) && ((shape_of zs).rows == sh.rows && (shape_of zs).cols == sh.cols)) h in
    let q = and_true (int_le (elements zs) (pos 1048576)) ((shape_of zs).rows == sh.rows && (shape_of zs).cols == sh.cols) p.1 in
    let e = and_true ((shape_of zs).rows == sh.rows) ((shape_of zs).cols == sh.cols) q.1 in
    λ i. record { rows = sym (nat_same (shape_of zs).rows sh.rows e.0) i; cols = sym (nat_same (shape_of zs).cols sh.cols e.1) i }

module _ {C : Type 0} where
  -- ---- what all slots say

  -- what the slot of its number says of a name, and of a name without one what stands elsewhere
  pub said_by_each : {A : Type 0} (other : A) (f : Slot C → A) (g : A) (x : List ℕ) (names : List (List ℕ)) (vs : List (Slot C)) → length names ≡ length vs → ((i : ℕ) (d : Slot C) → i < length names → name_eq x (get_or names i []) ≡ true → f (get_or vs i d) ≡ g) → (has_name x names ≡ false → other ≡ g) → in_slot other f names vs x ≡ g
  said_by_each other f g x [] vs n here there = there refl
  said_by_each other f g x (y ∷ ys) [] n here there = absurd (omega arith)
  said_by_each other f g x (y ∷ ys) (v ∷ vs) n here there = go (λ e. said_by_each other f g x ys vs (omega arith) (λ i d l h. here (suc i) d (omega (arith, l)) h) (λ h. there (λ k. e k || h k))) (name_eq x y) refl
    where
      go : (name_eq x y ≡ false → in_slot other f ys vs x ≡ g) → (b : Bool) → name_eq x y ≡ b → (if b then f v else in_slot other f ys vs x) ≡ g
      go rest true e = here 0 v (omega arith) e
      go rest false e = rest e

  -- where one is given, it stands in the list
  pub given_is : (count : ℕ) (all : List (CodeActual C)) (i : ℕ) (a : CodeActual C) → given_at count all i ≡ Some a → (i < count) × ((i < length all) × (get_or all i a ≡ a))
  given_is count all i a h = go (nat_lt i count) refl h
    where
      go : (b : Bool) → nat_lt i count ≡ b → (let o : Option (CodeActual C) = if b then slice_get all i else None in o ≡ Some a) → (i < count) × ((i < length all) × (get_or all i a ≡ a))
      go true e q = (grind arith, get_is all i a q)
      go false e q = absurd cc

  -- where none is, it is no dummy, or the actuals are fewer
  given_none : (count : ℕ) (all : List (CodeActual C)) (i : ℕ) → given_at count all i ≡ None → (count ≤ i) ⊎ (length all ≤ i)
  given_none count all i h = go (nat_lt i count) refl h
    where
      go : (b : Bool) → nat_lt i count ≡ b → (let o : Option (CodeActual C) = if b then slice_get all i else None in o ≡ None) → (count ≤ i) ⊎ (length all ≤ i)
      go true e q = inr (get_none all i q)
      go false e q = inl (grind arith)

  -- an actual that is given is one of the slots'
  pub given_below : (vs : List (Slot C)) (count : ℕ) (all : List (CodeActual C)) (i : ℕ) (a : CodeActual C) → AreActualsBelow vs all → given_at count all i ≡ Some a → IsActualBelow vs a
  given_below vs count all i a h e = let g = given_is count all i a e in subst (IsActualBelow vs) g.1.1 (h i a g.1.0)

  -- what holds of each slot so far and of the next holds of each with the next in its place
  pub set_each : (P : ℕ → Slot C → Type 0) (vs : List (Slot C)) (v : Slot C) (i : ℕ) → i < length vs → ((k : ℕ) (d : Slot C) → k < i → P k (get_or vs k d)) → P i v → (k : ℕ) (d : Slot C) → k < i + 1 → P k (get_or (set vs i v) k d)
  set_each P vs v i there h here k d lt = go (nat_lt k i) refl
    where
      go : (b : Bool) → nat_lt k i ≡ b → P k (get_or (set vs i v) k d)
      go true e = let m : k < i = grind arith in subst (P k) (sym (get_or-set_other vs i k v d (λ q. omega (arith, m, q)))) (h k d m)
      go false e =
          let ge : i ≤ k = grind arith in
          let s : i ≡ k = omega (arith, ge, lt) in
          subst (P k) (sym (get_or-set_at vs i k v d (sym s) there)) (subst (λ z. P z v) s here)

module _ {C : Type 0} (numbers : Numbers C) where
  -- ---- the store at the entry

  -- a dummy that gets an actual holds its cells
  pub entered_given : (ds others : List (List ℕ)) (got : List (Actual C)) (i : ℕ) (a : Actual C) (j : ℕ) → AreApart (ds ++ others) → i < length ds → i < length got → entry_store numbers ds got (plain (get_or (ds ++ others) i [])) j ≡ (get_or got i a).cells j
  entered_given [] others got i a j apart l m = absurd (omega arith)
  entered_given (d ∷ ds) others [] i a j apart l m = absurd (omega arith)
  entered_given (d ∷ ds) others (g ∷ got) zero a j apart l m = ap (λ b. if b then g.cells j else entry_store numbers ds got (plain d) j) (name_refl d)
  entered_given (d ∷ ds) others (g ∷ got) (suc i) a j apart l m =
      let n = length-append ds others in
      ap (λ b. if b then g.cells j else entry_store numbers ds got (plain (get_or (ds ++ others) i [])) j) (other_name d (ds ++ others) i apart.0 (omega (arith, n, l))) ∙ entered_given ds others got i a j apart.1 (omega arith) (omega arith)

  -- any other variable holds 0
  pub entered_behind : (ds others : List (List ℕ)) (got : List (Actual C)) (i : ℕ) (j : ℕ) → AreApart (ds ++ others) → i < length (ds ++ others) → length ds ≤ i → entry_store numbers ds got (plain (get_or (ds ++ others) i [])) j ≡ zero_in numbers
  entered_behind [] others got i j apart l m = refl
  entered_behind (d ∷ ds) others [] i j apart l m = refl
  entered_behind (d ∷ ds) others (g ∷ got) zero j apart l m = absurd (omega arith)
  entered_behind (d ∷ ds) others (g ∷ got) (suc i) j apart l m =
      ap (λ b. if b then g.cells j else entry_store numbers ds got (plain (get_or (ds ++ others) i [])) j) (other_name d (ds ++ others) i apart.0 (omega arith)) ∙ entered_behind ds others got i j apart.1 (omega arith) (omega arith)

  pub entered_short : (ds others : List (List ℕ)) (got : List (Actual C)) (i : ℕ) (j : ℕ) → AreApart (ds ++ others) → i < length (ds ++ others) → length got ≤ i → entry_store numbers ds got (plain (get_or (ds ++ others) i [])) j ≡ zero_in numbers
  entered_short [] others got i j apart l m = refl
  entered_short (d ∷ ds) others [] i j apart l m = refl
  entered_short (d ∷ ds) others (g ∷ got) zero j apart l m = absurd (omega arith)
  entered_short (d ∷ ds) others (g ∷ got) (suc i) j apart l m =
      ap (λ b. if b then g.cells j else entry_store numbers ds got (plain (get_or (ds ++ others) i [])) j) (other_name d (ds ++ others) i apart.0 (omega arith)) ∙ entered_short ds others got i j apart.1 (omega arith) (omega arith)

  -- so does a name that is no variable
  pub entered_elsewhere : (ds others : List (List ℕ)) (got : List (Actual C)) (x : List ℕ) (j : ℕ) → has_name x (ds ++ others) ≡ false → entry_store numbers ds got (plain x) j ≡ zero_in numbers
  entered_elsewhere [] others got x j h = refl
  entered_elsewhere (d ∷ ds) others [] x j h = refl
  entered_elsewhere (d ∷ ds) others (g ∷ got) x j h =
      let o = or_false (name_eq x d) (has_name x (ds ++ others)) h in
      ap (λ b. if b then g.cells j else entry_store numbers ds got (plain x) j) o.0 ∙ entered_elsewhere ds others got x j o.1

  -- nor does any other kind of variable, which isn't declared either
  pub entered_helper : (ds : List (List ℕ)) (got : List (Actual C)) (x : Var) (j : ℕ) → ((y : List ℕ) → var_eq x (plain y) ≡ false) → entry_store numbers ds got x j ≡ zero_in numbers
  entered_helper [] got x j h = refl
  entered_helper (d ∷ ds) [] x j h = refl
  entered_helper (d ∷ ds) (g ∷ got) x j h = ap (λ b. if b then g.cells j else entry_store numbers ds got x j) (h d) ∙ entered_helper ds got x j h

  -- slots that are each as at the entry show the store there
  pub entered_shown : (r : Routine) (got : List (Actual C)) (vs : List (Slot C)) → IsLaidOut r → length r.names ≡ length vs → ((i : ℕ) (d : Slot C) → i < length r.names → IsEntered numbers r got i (get_or vs i d)) → Shows numbers r.names vs (shapes_with numbers r got) (entered_with numbers r got)
  entered_shown r got vs l n each = record { shapes = shapes; cells = cells }
    where
      elsewhere : (x : List ℕ) → has_name x r.names ≡ false → scalar ≡ shapes_with numbers r got (plain x)
      elsewhere x h = sym (ap (λ es. shape_of (map (extent_in numbers (entered_with numbers r got)) es)) (l.elsewhere x h))

      at : (x : List ℕ) (i : ℕ) → name_eq x (get_or r.names i []) ≡ true → plain x ≡ var_at r.names i
      at x i e = ap plain (name_same x (get_or r.names i []) e)

      shapes : (x : Var) → shapes_with numbers r got x ≡ shapes_in r.names vs x
      shapes (plain x) = sym (said_by_each scalar slot_shape (shapes_with numbers r got (plain x)) x r.names vs n (λ i d lt e. (each i d lt).shape ∙ ap (shapes_with numbers r got) (sym (at x i e))) (elsewhere x))
      shapes (shadow x) = ap (λ es. shape_of (map (extent_in numbers (entered_with numbers r got)) es)) (undeclared (procedure_of r.unit.now).declarations (shadow x) (λ y. refl))
      shapes (helper a k) = ap (λ es. shape_of (map (extent_in numbers (entered_with numbers r got)) es)) (undeclared (procedure_of r.unit.now).declarations (helper a k) (λ y. refl))

      cells : (x : Var) (j : ℕ) → j < size_of (shapes_with numbers r got x) → entered_with numbers r got x j ≡ store_in numbers r.names vs x j
      cells (plain x) j lt = sym (said_by_each (zero_in numbers) (λ v. get_or v.cells.items j (zero_in numbers)) (entered_with numbers r got (plain x) j) x r.names vs n
          (λ i d m e. sym (ap (λ z. entered_with numbers r got z j) (at x i e) ∙ (each i d m).cells j (subst (λ z. j < size_of z) (ap (shapes_with numbers r got) (at x i e) ∙ sym (each i d m).shape) lt)))
          (λ h. sym (entered_elsewhere r.unit.now.dummies l.others got x j (subst (λ ns. has_name x ns ≡ false) l.names h))))
      cells (shadow x) j lt = entered_helper r.unit.now.dummies got (shadow x) j (λ y. refl)
      cells (helper a k) j lt = entered_helper r.unit.now.dummies got (helper a k) j (λ y. refl)

  module _ (r : Routine) (l : IsLaidOut r) (names : List (List ℕ)) (shape : Var → Shape) (s : Store C) (all : List (CodeActual C)) (i : ℕ) (there : i < length r.names) where
    -- the variable holds the cells of its actual
    pub given_cells : (a : CodeActual C) (j : ℕ) → given_at (length r.unit.now.dummies) all i ≡ Some a → entered_with numbers r (actuals_in names shape s all) (var_at r.names i) j ≡ (actual_in names shape s a).cells j
    given_cells a j e =
        let g = given_is (length r.unit.now.dummies) all i a e in
        let n = length-map all (actual_in names shape s) in
        ap (λ ns. entry_store numbers r.unit.now.dummies (actuals_in names shape s all) (plain (get_or ns i [])) j) l.names
        ∙ entered_given r.unit.now.dummies l.others (actuals_in names shape s all) i (actual_in names shape s a) j (subst AreApart l.names l.apart) g.0 (omega (arith, n, g.1.0))
        ∙ ap (λ (z : Actual C). z.cells j) (get_or-map (actual_in names shape s) all i a (actual_in names shape s a) g.1.0 ∙ ap (actual_in names shape s) g.1.1)

    -- and 0 where it has none
    pub none_cells : (j : ℕ) → given_at (length r.unit.now.dummies) all i ≡ None → entered_with numbers r (actuals_in names shape s all) (var_at r.names i) j ≡ zero_in numbers
    none_cells j e =
        ap (λ ns. entry_store numbers r.unit.now.dummies (actuals_in names shape s all) (plain (get_or ns i [])) j) l.names
        ∙ elim (given_none (length r.unit.now.dummies) all i e) [
          | inl m ↦ entered_behind r.unit.now.dummies l.others (actuals_in names shape s all) i j (subst AreApart l.names l.apart) (subst (λ ns. i < length ns) l.names there) m
          | inr m ↦ entered_short r.unit.now.dummies l.others (actuals_in names shape s all) i j (subst AreApart l.names l.apart) (subst (λ ns. i < length ns) l.names there) (let n = length-map all (actual_in names shape s) in omega (arith, n, m))
        ]

  -- ---- the dummies from one on

  module _ (r : Routine) (got : List (Actual C)) where
    -- a dummy that gets an actual is looked at
    pub fit_next : (i : ℕ) (a : Actual C) (zs : List ℤ) → i < length r.unit.now.dummies → i < length got → zs ≡ extents_of numbers (procedure_of r.unit.now) (entered_with numbers r got) (plain (get_or r.unit.now.dummies i [])) → fit_from numbers r got i ≡ (is_fit zs (get_or got i a).shape && fit_from numbers r got (i + 1))
    fit_next i a zs l m e =
        (λ k. dummies_fit numbers (procedure_of r.unit.now) (entered_with numbers r got) (drop_more r.unit.now.dummies i [] l k) (drop_more got i a m k))
        ∙ (λ k. (sized (declared (procedure_of r.unit.now).declarations (plain (get_or r.unit.now.dummies i []))) k || shape_fits (sym e k) (get_or got i a).shape) && fit_from numbers r got (i + 1))
        ∙ ap (λ n. (n == 0 || shape_fits zs (get_or got i a).shape) && fit_from numbers r got (i + 1)) (ap length (sym e))
      where
        sized : (es : List Extent) → length es == 0 ≡ length (map (extent_in numbers (entered_with numbers r got)) es) == 0
        sized es = ap (λ n. n == 0) (sym (length-map es (extent_in numbers (entered_with numbers r got))))

    -- behind the dummies and the actuals there is nothing to fit
    pub fit_behind : (i : ℕ) → length r.unit.now.dummies ≤ i → fit_from numbers r got i ≡ true
    fit_behind i l = ap (λ ds. dummies_fit numbers (procedure_of r.unit.now) (entered_with numbers r got) ds (drop i got)) (drop_all i r.unit.now.dummies l)

    pub fit_short : (i : ℕ) → length got ≤ i → fit_from numbers r got i ≡ true
    fit_short i l = ap (dummies_fit numbers (procedure_of r.unit.now) (entered_with numbers r got) (drop i r.unit.now.dummies)) (drop_all i got l) ∙ none (drop i r.unit.now.dummies)
      where
        none : (ds : List (List ℕ)) → dummies_fit numbers (procedure_of r.unit.now) (entered_with numbers r got) ds [] ≡ true
        none [] = refl
        none (d ∷ ds) = refl

  module _ (r : Routine) (l : IsLaidOut r) (names : List (List ℕ)) (shape : Var → Shape) (s : Store C) (all : List (CodeActual C)) (i : ℕ) where
    -- a dummy that gets an actual is looked at
    pub given_fit : (a : CodeActual C) (zs : List ℤ) → given_at (length r.unit.now.dummies) all i ≡ Some a → zs ≡ extents_of numbers (procedure_of r.unit.now) (entered_with numbers r (actuals_in names shape s all)) (var_at r.names i) → fit_from numbers r (actuals_in names shape s all) i ≡ (is_fit zs (actual_in names shape s a).shape && fit_from numbers r (actuals_in names shape s all) (i + 1))
    given_fit a zs e q =
        let g = given_is (length r.unit.now.dummies) all i a e in
        let n = length-map all (actual_in names shape s) in
        let name = ap (λ ns. get_or ns i []) l.names ∙ get_or_append_left r.unit.now.dummies l.others [] i g.0 in
        fit_next r (actuals_in names shape s all) i (actual_in names shape s a) zs g.0 (omega (arith, n, g.1.0)) (q ∙ ap (λ x. extents_of numbers (procedure_of r.unit.now) (entered_with numbers r (actuals_in names shape s all)) (plain x)) name)
        ∙ ap (λ (z : Actual C). is_fit zs z.shape && fit_from numbers r (actuals_in names shape s all) (i + 1)) (get_or-map (actual_in names shape s) all i a (actual_in names shape s a) g.1.0 ∙ ap (actual_in names shape s) g.1.1)

    -- any other variable isn't
    pub none_fit : given_at (length r.unit.now.dummies) all i ≡ None → fit_from numbers r (actuals_in names shape s all) i ≡ fit_from numbers r (actuals_in names shape s all) (i + 1)
    none_fit e =
        let n = length-map all (actual_in names shape s) in
        elim (given_none (length r.unit.now.dummies) all i e) [
          | inl m ↦ fit_behind r (actuals_in names shape s all) i m ∙ sym (fit_behind r (actuals_in names shape s all) (i + 1) (omega (arith, m)))
          | inr m ↦ fit_short r (actuals_in names shape s all) i (omega (arith, n, m)) ∙ sym (fit_short r (actuals_in names shape s all) (i + 1) (omega (arith, n, m)))
        ]

    -- a scalar fits
    pub scalar_fit : [] ≡ extents_of numbers (procedure_of r.unit.now) (entered_with numbers r (actuals_in names shape s all)) (var_at r.names i) → fit_from numbers r (actuals_in names shape s all) i ≡ fit_from numbers r (actuals_in names shape s all) (i + 1)
    scalar_fit q = go (given_at (length r.unit.now.dummies) all i) refl
      where
        go : (o : Option (CodeActual C)) → given_at (length r.unit.now.dummies) all i ≡ o → fit_from numbers r (actuals_in names shape s all) i ≡ fit_from numbers r (actuals_in names shape s all) (i + 1)
        go (Some a) e = given_fit a [] e q
        go None e = none_fit e

  -- ---- a scalar

  module _ (r : Routine) (l : IsLaidOut r) (got : List (Actual C)) (i : ℕ) (d : Layout) (there : i < length r.names) (scalar_there : get_or r.layouts.items i d ≡ layout.Scalar) where
    -- it has no extents
    pub no_extents : [] ≡ extents_of numbers (procedure_of r.unit.now) (entered_with numbers r got) (var_at r.names i)
    no_extents = ap (map (extent_in numbers (entered_with numbers r got))) (sym (l.declares i d there ∙ ap (extents_at r.names) scalar_there))

    -- with its number it is as at the entry
    pub scalar_entered : (v : Slot C) (w : C) → slot_shape v ≡ scalar → v.cells.items ≡ w ∷ [] → w ≡ entered_with numbers r got (var_at r.names i) 0 → IsEntered numbers r got i v
    scalar_entered v w sh cs e = record {
      shape = sh ∙ ap shape_of no_extents;
      cells = λ j lt. at j (subst (λ z. j < size_of z) sh lt);
    }
      where
        at : (j : ℕ) → j < 1 → entered_with numbers r got (var_at r.names i) j ≡ get_or v.cells.items j (zero_in numbers)
        at zero lt = sym e ∙ ap (λ ws. get_or ws 0 (zero_in numbers)) (sym cs)
        at (suc j) lt = absurd (omega (arith, lt))
