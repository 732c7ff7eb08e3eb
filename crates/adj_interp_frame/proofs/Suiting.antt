-- Calls that hand no whole array to a scalar hand back as many cells as there are.
use Rattle.std.proofs.Common.{◌≡◌, ℕ, zero, suc, ◌<◌, true, false, List, [], ◌∷◌, map, length, get_or, refl, sym, ap, subst, ◌∙◌, arith}
use Rattle.std.specs.Prelude.{ℤ, ◌==◌, ◌||◌, Result, Ok, Err}
use Rattle.std.proofs.lemmas.List.{get_or_default, get_or_append_left, get_or-map, length-map, length-append}
use Rattle.adj_tree.specs.Code.{Var, plain, Term, lit, var, elem, neg, bin, pow, power_of, abs, Terms, none, more, Act, assign, choose, loop, during, call, runtime, Code, stop, step, Extent, Procedure}
use Rattle.adj_tree.specs.View.{procedure_of}
use Rattle.def_meaning.specs.Trap.{Trap, then_ok}
use Rattle.def_meaning.specs.Numbers.{Numbers}
use Rattle.def_meaning.specs.Store.{Shape, size_of, Store}
use Rattle.def_meaning.specs.Value.{Setting, value, values, cell_at}
use Rattle.def_meaning.specs.Units.{declared, extent_in, extents_of, shape_of, shape_fits, Place, whole, cell, nowhere, Actual, one_word, actual_of, actuals, dummies_fit}
use Rattle.def_meaning.proofs.Booleans.{and_true}
use Rattle.adj_interp_frame.specs.declared.slot.Slot.{Slot}
use Rattle.adj_interp_frame.specs.declared.actual.Actual.{Actual as CodeActual}
use Rattle.adj_interp_frame.specs.declared.actual.Actual.TheVariants as actual
use Rattle.adj_interp_frame.specs.declared.routine.Routine.{Routine}
use Rattle.adj_interp_frame.specs.Prepared.{var_at}
use Rattle.adj_interp_frame.specs.Framed.{IsFrame, shapes_in, store_in}
use Rattle.adj_interp_frame.specs.Shown.{Shows}
use Rattle.adj_interp_frame.specs.Called.{actual_in, actuals_in, IsActualBelow, AreActualsBelow, IsLaidOut, entered_with, shapes_with, fit_from}
use Rattle.adj_interp_frame.specs.Suited.{IsScalarIn, HoldsIfWhole, AreTermsSuited, IsSuited, AreSuited, counts_in, HasOneCell, HasCells, AreAsLarge}
use Rattle.adj_interp_frame.proofs.Reading.{read_shape}
use Rattle.adj_interp_frame.proofs.Showing.{shows_itself}
use Rattle.adj_interp_frame.proofs.Entering.{fit_shape}

-- ---- what holds of more variables

module _ (P Q : Var → Type 0) (f : (x : Var) → P x → Q x) where
  whole_on : (e : Term) → HoldsIfWhole P e → HoldsIfWhole Q e
  whole_on (var x) h = f x h
  whole_on (elem x subs) h = tt
  whole_on (lit z) h = tt
  whole_on (neg a) h = tt
  whole_on (bin op a b) h = tt
  whole_on (pow a k) h = tt
  whole_on (power_of a b) h = tt
  whole_on (abs a) h = tt

  terms_on : (u : Procedure) (ds : List (List ℕ)) (es : Terms) → AreTermsSuited P u ds es → AreTermsSuited Q u ds es
  terms_on u [] es h = tt
  terms_on u (d ∷ ds) none h = tt
  terms_on u (d ∷ ds) (more e es) h = (λ s. whole_on e (h.0 s), terms_on u ds es h.1)

  mutual
    act_on : (units : List Procedure) (a : Act) → IsSuited units P a → IsSuited units Q a
    act_on units (assign x subs e) h = tt
    act_on units (choose c a b) h = (suited_on units a h.0, suited_on units b h.1)
    act_on units (loop x first last by body m) h = suited_on units body h
    act_on units (during c body) h = suited_on units body h
    act_on units (call name args) h = λ u e. terms_on u u.dummies args (h u e)
    act_on units (runtime r) h = tt

    -- calls that hand variables of some kind alone to scalars do so for a wider kind
    pub suited_on : (units : List Procedure) (c : Code) → AreSuited units P c → AreSuited units Q c
    suited_on units stop h = tt
    suited_on units (step line a rest) h = (act_on units a h.0, suited_on units rest h.1)

-- ---- actuals that were evaluated

-- of a place that is a whole variable something holds
abbrev PlaceHolds : (Var → Type 0) → Place → Type 0
PlaceHolds P (whole x) = P x
PlaceHolds P (cell x i) = Unit {0}
PlaceHolds P nowhere = Unit {0}

module _ {C : Type 0} where
  -- ---- cells

  -- how many cells the slot of a number has
  pub count_at : (vs : List (Slot C)) (i : ℕ) (d : Slot C) → i < length vs → get_or (counts_in vs) i 0 ≡ length (get_or vs i d).cells.items
  count_at vs i d lt = get_or-map (λ (v : Slot C). length v.cells.items) vs i d 0 lt

  -- it holds of each whole variable that a scalar dummy gets
  abbrev AreGotSuited : (Var → Type 0) → Procedure → List (List ℕ) → List (Actual C) → Type 0
  AreGotSuited P u [] got = Unit {0}
  AreGotSuited P u (d ∷ ds) [] = Unit {0}
  AreGotSuited P u (d ∷ ds) (a ∷ got) = (IsScalarIn u (plain d) → PlaceHolds P a.place) × AreGotSuited P u ds got

  module _ (P : Var → Type 0) (n : Setting C) (s : Store C) where
    -- the place of an expression is none
    word_place : (r : Result C Trap) (a : Actual C) → then_ok r (λ c. Ok (one_word c nowhere)) ≡ Ok a → PlaceHolds P a.place
    word_place (Ok c) a h = let same : one_word c nowhere ≡ a = cc in subst (λ (z : Actual C). PlaceHolds P z.place) same tt
    word_place (Err t) a h = absurd cc

    -- that of an element is a cell
    cell_place : (x : Var) (r : Result (List ℤ) Trap) (a : Actual C) → then_ok r (λ is. then_ok (cell_at n x is) (λ i. Ok (one_word (s x i) (cell x i)))) ≡ Ok a → PlaceHolds P a.place
    cell_place x (Ok is) a h = go (cell_at n x is) h
      where
        go : (r : Result ℕ Trap) → then_ok r (λ i. Ok (one_word (s x i) (cell x i))) ≡ Ok a → PlaceHolds P a.place
        go (Ok i) h = let same : one_word (s x i) (cell x i) ≡ a = cc in subst (λ (z : Actual C). PlaceHolds P z.place) same tt
        go (Err t) h = absurd cc
    cell_place x (Err t) a h = absurd cc

    place_holds : (e : Term) (a : Actual C) → actual_of n e s ≡ Ok a → HoldsIfWhole P e → PlaceHolds P a.place
    place_holds (var x) a h p = let same : record { shape = n.shape x; cells = s x; place = whole x } ≡ a = cc in subst (λ (z : Actual C). PlaceHolds P z.place) same p
    place_holds (elem x subs) a h p = cell_place x (values n subs s) a h
    place_holds (lit z) a h p = word_place (value n (lit z) s) a h
    place_holds (neg b) a h p = word_place (value n (neg b) s) a h
    place_holds (bin op b c) a h p = word_place (value n (bin op b c) s) a h
    place_holds (pow b k) a h p = word_place (value n (pow b k) s) a h
    place_holds (power_of b c) a h p = word_place (value n (power_of b c) s) a h
    place_holds (abs b) a h p = word_place (value n (abs b) s) a h

    -- actuals are suited as their expressions are
    pub got_suited : (u : Procedure) (ds : List (List ℕ)) (es : Terms) (got : List (Actual C)) → actuals n es s ≡ Ok got → AreTermsSuited P u ds es → AreGotSuited P u ds got
    got_suited u [] es got e h = tt
    got_suited u (d ∷ ds) es [] e h = tt
    got_suited u (d ∷ ds) none (a ∷ got) e h = absurd cc
    got_suited u (d ∷ ds) (more x xs) (a ∷ got) e h = go (λ q. got_suited u ds xs got q h.1) (actual_of n x s) refl (actuals n xs s) refl e
      where
        go : (actuals n xs s ≡ Ok got → AreGotSuited P u ds got) → (o : Result (Actual C) Trap) → actual_of n x s ≡ o → (r : Result (List (Actual C)) Trap) → actuals n xs s ≡ r → then_ok o (λ b. then_ok r (λ rest. Ok (b ∷ rest))) ≡ Ok (a ∷ got) → (IsScalarIn u (plain d) → PlaceHolds P a.place) × AreGotSuited P u ds got
        go later (Ok b) p (Ok rest) q g =
            let same : b ≡ a = cc in
            let others : rest ≡ got = cc in
            (λ k. place_holds x a (p ∙ ap Ok same) (h.0 k), later (q ∙ ap Ok others))
        go later (Ok b) p (Err t) q g = absurd cc
        go later (Err t) p r q g = absurd cc

  -- at a dummy that is a scalar
  got_at : (P : Var → Type 0) (u : Procedure) (ds : List (List ℕ)) (got : List (Actual C)) (k : ℕ) (d : Actual C) → AreGotSuited P u ds got → k < length ds → k < length got → IsScalarIn u (plain (get_or ds k [])) → PlaceHolds P (get_or got k d).place
  got_at P u [] got k d h l m e = absurd (omega arith)
  got_at P u (x ∷ ds) [] k d h l m e = absurd (omega arith)
  got_at P u (x ∷ ds) (a ∷ got) zero d h l m e = h.0 e
  got_at P u (x ∷ ds) (a ∷ got) (suc k) d h l m e = got_at P u ds got k d h.1 (omega (arith, l)) (omega (arith, m)) e

module _ {C : Type 0} (numbers : Numbers C) where
  -- they are those of its variable's shape
  pub count_shown : (names : List (List ℕ)) (vs : List (Slot C)) (shape : Var → Shape) (s : Store C) (i : ℕ) → IsFrame names vs → Shows numbers names vs shape s → i < length vs → get_or (counts_in vs) i 0 ≡ size_of (shape (var_at names i))
  count_shown names [] shape s i f h lt = absurd (omega arith)
  count_shown names (v ∷ vs) shape s i f h lt = count_at (v ∷ vs) i v lt ∙ f.sized i v lt ∙ ap size_of (sym (h.shapes (var_at names i) ∙ read_shape names (v ∷ vs) i v f lt))

  -- so a variable that is a scalar in its unit has one
  pub one_cell : (u : Procedure) (t : Store C) (names : List (List ℕ)) (vs : List (Slot C)) (shape : Var → Shape) (s : Store C) → IsFrame names vs → Shows numbers names vs shape s → ((x : Var) → shape x ≡ shape_of (extents_of numbers u t x)) → (x : Var) → IsScalarIn u x → HasOneCell names (counts_in vs) x
  one_cell u t names vs shape s f h e x undeclared i lt is =
      let each = f.each in
      count_shown names vs shape s i f h (omega (arith, lt, each)) ∙ ap (λ y. size_of (shape y)) (sym is) ∙ ap size_of (e x) ∙ ap (λ (es : List Extent). size_of (shape_of (map (extent_in numbers t) es))) undeclared

  -- a dummy that gets an actual fits it
  fit_at : (u : Procedure) (s : Store C) (ds : List (List ℕ)) (got : List (Actual C)) (k : ℕ) (d : Actual C) → dummies_fit numbers u s ds got ≡ true → k < length ds → k < length got → (length (declared u.declarations (plain (get_or ds k []))) == 0 || shape_fits (extents_of numbers u s (plain (get_or ds k []))) (get_or got k d).shape) ≡ true
  fit_at u s [] got k d h l m = absurd (omega arith)
  fit_at u s (x ∷ ds) [] k d h l m = absurd (omega arith)
  fit_at u s (x ∷ ds) (a ∷ got) zero d h l m = (and_true (length (declared u.declarations (plain x)) == 0 || shape_fits (extents_of numbers u s (plain x)) a.shape) (dummies_fit numbers u s ds got) h).0
  fit_at u s (x ∷ ds) (a ∷ got) (suc k) d h l m = fit_at u s ds got k d (and_true (length (declared u.declarations (plain x)) == 0 || shape_fits (extents_of numbers u s (plain x)) a.shape) (dummies_fit numbers u s ds got) h).1 (omega (arith, l)) (omega (arith, m))

  -- ---- dummies and their actuals

  module _ (r : Routine) (l : IsLaidOut r) (names : List (List ℕ)) (vs ws : List (Slot C)) (all : List (CodeActual C)) (f : IsFrame names vs) (g : IsFrame r.names ws) (below : AreActualsBelow vs all) where
    abbrev got : List (Actual C)
    got = actuals_in names (shapes_in names vs) (store_in numbers names vs) all

    module _ (fit : fit_from numbers r got 0 ≡ true) (shown : Shows numbers r.names ws (shapes_with numbers r got) (entered_with numbers r got)) (suited : AreGotSuited (HasOneCell names (counts_in vs)) (procedure_of r.unit.now) r.unit.now.dummies got) (k : ℕ) (m : k < length r.unit.now.dummies) (n : k < length all) where
      abbrev name : List ℕ
      name = get_or r.unit.now.dummies k []

      inner_count : get_or (counts_in ws) k 0 ≡ size_of (shapes_with numbers r got (plain name))
      inner_count =
          let longer = length-append r.unit.now.dummies l.others in
          let many = ap length l.names in
          let each = g.each in
          count_shown r.names ws (shapes_with numbers r got) (entered_with numbers r got) k g shown (omega (arith, m, longer, many, each))
          ∙ ap (λ x. size_of (shapes_with numbers r got (plain x))) (ap (λ ns. get_or ns k []) l.names ∙ get_or_append_left r.unit.now.dummies l.others [] k m)

      module _ (i : ℕ) (is : get_or all k (actual.Whole i) ≡ actual.Whole i) where
        there : i < length vs
        there = subst (IsActualBelow vs) is (below k (actual.Whole i) n)

        abbrev mine : Actual C
        mine = actual_in names (shapes_in names vs) (store_in numbers names vs) (actual.Whole i)

        at : get_or got k mine ≡ mine
        at = get_or-map (actual_in names (shapes_in names vs) (store_in numbers names vs)) all k (actual.Whole i) mine n ∙ ap (actual_in names (shapes_in names vs) (store_in numbers names vs)) is

        many : k < length got
        many = let c = length-map all (actual_in names (shapes_in names vs) (store_in numbers names vs)) in omega (arith, c, n)

        outer_count : get_or (counts_in vs) i 0 ≡ size_of mine.shape
        outer_count = count_shown names vs (shapes_in names vs) (store_in numbers names vs) i f (shows_itself numbers names vs) there

        as_large_one : get_or (counts_in vs) i 0 ≡ get_or (counts_in ws) k 0
        as_large_one = go (declared (procedure_of r.unit.now).declarations (plain name)) refl
          where
            go : (es : List Extent) → declared (procedure_of r.unit.now).declarations (plain name) ≡ es → get_or (counts_in vs) i 0 ≡ get_or (counts_in ws) k 0
            go [] e =
                let one = subst (λ (z : Actual C). PlaceHolds (HasOneCell names (counts_in vs)) z.place) at (got_at (HasOneCell names (counts_in vs)) (procedure_of r.unit.now) r.unit.now.dummies got k mine suited m many e) in
                let each = f.each in
                let lt = there in
                one i (omega (arith, lt, each)) refl ∙ sym (inner_count ∙ ap (λ (zs : List Extent). size_of (shape_of (map (extent_in numbers (entered_with numbers r got)) zs))) e)
            go (x ∷ xs) e =
                let zs = extents_of numbers (procedure_of r.unit.now) (entered_with numbers r got) (plain name) in
                let both = fit_at (procedure_of r.unit.now) (entered_with numbers r got) r.unit.now.dummies got k mine fit m many in
                let some : (length (x ∷ xs) == 0) ≡ false = grind arith in
                let fits : shape_fits zs (get_or got k mine).shape ≡ true = subst (λ b. (b || shape_fits zs (get_or got k mine).shape) ≡ true) (ap (λ (ys : List Extent). length ys == 0) e ∙ some) both in
                outer_count ∙ ap size_of (sym (ap (λ (z : Actual C). z.shape) at) ∙ fit_shape zs (get_or got k mine).shape fits) ∙ sym inner_count

    -- where calls hand scalars alone to scalars, each dummy has as many cells as the whole variable that it gets
    pub as_large : fit_from numbers r got 0 ≡ true → Shows numbers r.names ws (shapes_with numbers r got) (entered_with numbers r got) → AreGotSuited (HasOneCell names (counts_in vs)) (procedure_of r.unit.now) r.unit.now.dummies got → AreAsLarge (length r.unit.now.dummies) (counts_in vs) all (counts_in ws)
    as_large fit shown suited k d m n = go (get_or all k d) refl
      where
        go : (a : CodeActual C) → get_or all k d ≡ a → HasCells (counts_in vs) a (get_or (counts_in ws) k 0)
        go (actual.Whole i) e = as_large_one fit shown suited k m n i (get_or_default all k (actual.Whole i) d n ∙ e)
        go (actual.Cell i j w) e = tt
        go (actual.Word w) e = tt
