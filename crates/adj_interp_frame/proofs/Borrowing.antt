-- Cells that are lent to dummies, and that come back.
use Rattle.std.proofs.Common.{◌≡◌, ◌≢◌, ℕ, suc, ◌+◌, ◌<◌, ◌≤◌, Bool, true, false, List, [], ◌∷◌, length, get_or, refl, sym, ap, ap₂, subst, ◌∙◌, arith, if◌then◌else◌}
use Rattle.std.specs.Prelude.{◌==◌, ◌&&◌, nat_lt, slice_get, Option, Some, None}
use Rattle.std.proofs.Math.ListN.{set, length-set}
use Rattle.std.proofs.lemmas.Grind.{get_or-set_at}
use Rattle.std.proofs.lemmas.List.{get_or_default, get_or-set_other, get_or-map}
use Rattle.std.proofs.lemmas.Option.{slice_get_within, get_or_from_slice_get}
use Rattle.adj_tree.specs.Code.{Role, Var, plain, shadow, helper, name_eq}
use Rattle.adj_tree.proofs.Names.{name_refl, name_same}
use Rattle.def_meaning.specs.Numbers.{Numbers}
use Rattle.def_meaning.specs.Store as store
use Rattle.def_meaning.specs.Store.{Shape, scalar, size_of, Store}
use Rattle.def_meaning.specs.Apart.{AreApart}
use Rattle.def_meaning.specs.Units.{put}
use Rattle.adj_interp_frame.specs.declared.slot.Slot.{Slot}
use Rattle.adj_interp_frame.specs.declared.actual.Actual.{Actual as CodeActual}
use Rattle.adj_interp_frame.specs.declared.actual.Actual.TheVariants as actual
use Rattle.adj_interp_frame.specs.declared.routine.Routine.{Routine}
use Rattle.adj_interp_frame.specs.Prepared.{var_at}
use Rattle.adj_interp_frame.specs.Framed.{in_slot, slot_shape, IsSlot, IsFrame, shapes_in, zero_in, store_in}
use Rattle.adj_interp_frame.specs.Shown.{Shows}
use Rattle.adj_interp_frame.specs.Called.{actuals_in, place_of, IsActualBelow, AreActualsBelow, given_at, IsLaidOut, shapes_with, IsEntered}
use Rattle.adj_interp_frame.specs.Suited.{counts_in}
use Rattle.adj_interp_frame.specs.Lent.{IsPlaceIn, IsFirst, IsLent, HasLender, IsFilled, AreFilled, HaveCells, IsToCome, HaveLent, IsFrameFrom, ShowsHeld, sizes_in, IsActualWithin, AreActualsWithin}
use Rattle.adj_interp_frame.proofs.Reading.{has_first, at_number}
use Rattle.adj_interp_frame.proofs.Setting.{said_before, said_now, cell_now}
use Rattle.adj_interp_frame.proofs.Giving.{shown_cell}
use Rattle.adj_interp_frame.proofs.Entering.{given_is, given_cells}
use Rattle.adj_interp_frame.proofs.Listing.{apart_at}

no_items : {A : Type 0} (xs : List A) → length xs ≡ 0 → xs ≡ []
no_items [] h = refl
no_items (x ∷ xs) h = absurd (omega (arith, h))

module _ {C : Type 0} where
  -- ---- one actual

  -- a whole variable is one variable, and no cell and no word
  pub same_whole : (o : Option (CodeActual C)) (k m : ℕ) → o ≡ Some (actual.Whole k) → o ≡ Some (actual.Whole m) → k ≡ m
  same_whole o k m a b = cc

  pub not_cell : (o : Option (CodeActual C)) (k j m : ℕ) (w : C) → o ≡ Some (actual.Cell k j w) → o ≡ Some (actual.Whole m) → ⊥
  not_cell o k j m w a b = absurd cc

  pub not_word : (o : Option (CodeActual C)) (m : ℕ) (w : C) → o ≡ Some (actual.Word w) → o ≡ Some (actual.Whole m) → ⊥
  not_word o m w a b = absurd cc

  -- what a dummy gets stands among the actuals
  pub given_get : (count : ℕ) (all : List (CodeActual C)) (i : ℕ) (a : CodeActual C) → given_at count all i ≡ Some a → slice_get all i ≡ Some a
  given_get count all i a h = go (nat_lt i count) h
    where
      go : (b : Bool) → (let o : Option (CodeActual C) = if b then slice_get all i else None in o ≡ Some a) → slice_get all i ≡ Some a
      go true h = h
      go false h = absurd cc

  -- a whole variable that is an actual is one of the slots
  pub below_at : (vs : List (Slot C)) (all : List (CodeActual C)) (i k : ℕ) → AreActualsBelow vs all → slice_get all i ≡ Some (actual.Whole k) → k < length vs
  below_at vs all i k b at = subst (IsActualBelow vs) (get_or_from_slice_get all i (actual.Whole k) (actual.Whole k) at) (b i (actual.Whole k) (slice_get_within all i (actual.Whole k) at))

  -- the variable that lends to a dummy is its actual
  pub lent_first : (r : Routine) (all : List (CodeActual C)) (i k : ℕ) → HasLender r all i → slice_get all i ≡ Some (actual.Whole k) → IsLent r all i k
  lent_first r all i k h at = subst (IsLent r all i) (same_whole (slice_get all i) h.variable k (given_get (length r.unit.now.dummies) all i (actual.Whole h.variable) h.lent.given) at) h.lent

  -- a dummy is lent a whole variable that no actual before it names
  pub lent_by : (r : Routine) (all : List (CodeActual C)) (i k : ℕ) → i < length r.unit.now.dummies → slice_get all i ≡ Some (actual.Whole k) → IsFirst all i k → IsLent r all i k
  lent_by r all i k m at first = record { given = go (nat_lt i (length r.unit.now.dummies)) refl; first = first }
    where
      go : (b : Bool) → nat_lt i (length r.unit.now.dummies) ≡ b → (if b then slice_get all i else None) ≡ Some (actual.Whole k)
      go true e = at
      go false e = let n : length r.unit.now.dummies ≤ i = grind arith in absurd (omega (arith, m, n))

  -- such a dummy is one
  pub lent_dummy : (r : Routine) (all : List (CodeActual C)) (i k : ℕ) → IsLent r all i k → i < length r.unit.now.dummies
  lent_dummy r all i k h = (given_is (length r.unit.now.dummies) all i (actual.Whole k) h.given).0

  -- ---- what fills a slot

  -- it is what slots with the same cells give
  pub filled_moved : (vs us : List (Slot C)) (all : List (CodeActual C)) (i : ℕ) (w u : Slot C) → IsFilled vs all i w u → ((k : ℕ) (d : Slot C) → w.cells.items ≡ [] → slice_get all i ≡ Some (actual.Whole k) → (get_or vs k d).cells.items ≡ (get_or us k d).cells.items) → IsFilled us all i w u
  filled_moved vs us all i w u f h = record { shape = f.shape; own = f.own; lent = λ k d e at. f.lent k d e at ∙ h k d e at }

  -- a slot with cells is filled with its own, and so is one to which nothing is lent
  pub filled_same : (vs : List (Slot C)) (all : List (CodeActual C)) (i : ℕ) (w : Slot C) → ((k : ℕ) → w.cells.items ≡ [] → slice_get all i ≡ Some (actual.Whole k) → ⊥) → IsFilled vs all i w w
  filled_same vs all i w h = record { shape = refl; own = λ e. refl; lent = λ k d e at. absurd (h k e at) }

  -- one without gets those of its variable
  pub filled_lent : (vs : List (Slot C)) (all : List (CodeActual C)) (i k : ℕ) (w u d : Slot C) → w.cells.items ≡ [] → slice_get all i ≡ Some (actual.Whole k) → k < length vs → slot_shape u ≡ slot_shape w → u.cells.items ≡ (get_or vs k d).cells.items → IsFilled vs all i w u
  filled_lent vs all i k w u d none at lt shape cells = record {
    shape = shape;
    own = λ e. absurd (e none);
    lent = λ m g e is.
        let s = same_whole (slice_get all i) k m at is in
        cells ∙ ap (λ (v : Slot C). v.cells.items) (get_or_default vs k d g lt ∙ ap (λ z. get_or vs z g) s);
  }

  module _ (vs ws : List (Slot C)) (all : List (CodeActual C)) (i : ℕ) where
    -- a slot of an entry to which nothing is lent stays as it is
    pub filled_at : (w : Slot C) → i < length ws → w ≡ get_or ws i w → ((k : ℕ) → w.cells.items ≡ [] → slice_get all i ≡ Some (actual.Whole k) → ⊥) → (d e : Slot C) → IsFilled vs all i (get_or ws i d) (get_or ws i e)
    filled_at w lt is h d e =
        subst (λ (z : Slot C). IsFilled vs all i z (get_or ws i e)) (is ∙ get_or_default ws i w d lt)
        (subst (λ (z : Slot C). IsFilled vs all i w z) (is ∙ get_or_default ws i w e lt) (filled_same vs all i w h))

    -- one to which a variable is lent gets its cells
    pub filled_set : (k : ℕ) (w u c : Slot C) → i < length ws → w ≡ get_or ws i w → w.cells.items ≡ [] → slice_get all i ≡ Some (actual.Whole k) → k < length vs → slot_shape u ≡ slot_shape w → u.cells.items ≡ (get_or vs k c).cells.items → (d e : Slot C) → IsFilled vs all i (get_or ws i d) (get_or (set ws i u) i e)
    filled_set k w u c lt is none at there shape cells d e =
        subst (λ (z : Slot C). IsFilled vs all i z (get_or (set ws i u) i e)) (is ∙ get_or_default ws i w d lt)
        (subst (λ (z : Slot C). IsFilled vs all i w z) (sym (get_or-set_at ws i i u e refl lt)) (filled_lent vs all i k w u c none at there shape cells))

  -- a list of slots that all have cells is filled by itself
  pub filled_alone : (vs : List (Slot C)) (all : List (CodeActual C)) (ws : List (Slot C)) → HaveCells ws → AreFilled vs all ws ws
  filled_alone vs all ws h = record {
    count = refl;
    each = λ i d e lt. subst (λ (z : Slot C). IsFilled vs all i (get_or ws i d) z) (get_or_default ws i d e lt) (filled_same vs all i (get_or ws i d) (λ k none at. h i d lt none));
  }

  -- ---- slots that have their cells

  pub not_empty : (v : Slot C) → IsSlot v → v.cells.items ≡ [] → ⊥
  not_empty v h e = let p = has_first v h in let n = ap length e in absurd (omega (arith, p, n))

  -- slots that all have their cells have lent nothing
  pub lent_none : (r : Routine) (all : List (CodeActual C)) (names : List (List ℕ)) (vs : List (Slot C)) → IsFrame names vs → HaveLent r all vs vs
  lent_none r all names vs f = record {
    count = refl;
    shapes = λ k d. refl;
    kept = λ k d lt n. refl;
    come = λ k d lt e. absurd (not_empty (get_or vs k d) (f.sized k d lt) e);
  }

  -- the sizes of shapes are the numbers of cells of slots of these shapes
  pub sizes_alike : (us vs : List (Slot C)) → length us ≡ length vs → ((k : ℕ) (d : Slot C) → slot_shape (get_or us k d) ≡ slot_shape (get_or vs k d)) → ((k : ℕ) (d : Slot C) → k < length vs → IsSlot (get_or vs k d)) → sizes_in us ≡ counts_in vs
  sizes_alike [] [] n h s = refl
  sizes_alike [] (v ∷ vs) n h s = absurd (omega (arith, n))
  sizes_alike (u ∷ us) [] n h s = absurd (omega (arith, n))
  sizes_alike (u ∷ us) (v ∷ vs) n h s = ap₂ (λ a as'. a ∷ as') (ap size_of (h 0 u) ∙ sym (s 0 v (omega arith))) (sizes_alike us vs (omega (arith, n)) (λ k d. h (suc k) d) (λ k d l. s (suc k) d (omega (arith, l))))

  -- ---- the slot of one dummy

  module _ (vs : List (Slot C)) (all : List (CodeActual C)) (i : ℕ) (v u : Slot C) (f : IsFilled vs all i v u) where
    -- a slot with its own cells keeps them
    pub own_cells : IsSlot v → u.cells.items ≡ v.cells.items
    own_cells h = f.own (not_empty v h)

    pub own_slot : IsSlot v → IsSlot u
    own_slot h = ap length (own_cells h) ∙ h ∙ ap size_of (sym f.shape)

    -- one without gets those of its variable
    pub lent_slot : (names : List (List ℕ)) (k : ℕ) (d : Slot C) → IsFrame names vs → k < length vs → slot_shape v ≡ slot_shape (get_or vs k d) → v.cells.items ≡ [] → slice_get all i ≡ Some (actual.Whole k) → IsSlot u
    lent_slot names k d g lt sh e at = ap length (f.lent k d e at) ∙ g.sized k d lt ∙ ap size_of (sym (f.shape ∙ sh))

  -- ---- what is to come

  module _ (r : Routine) (all : List (CodeActual C)) where
    -- what comes back from a dummy on, and not by it, comes back behind it
    pub to_next : (i k : ℕ) → (slice_get all i ≡ Some (actual.Whole k) → ⊥) → IsToCome r all i k → IsToCome r all (i + 1) k
    to_next i k n t = go (t.number == i) refl
      where
        go : (b : Bool) → (t.number == i) ≡ b → IsToCome r all (i + 1) k
        go true e = let s : t.number ≡ i = grind arith in absurd (n (subst (λ j. slice_get all j ≡ Some (actual.Whole k)) s (given_get (length r.unit.now.dummies) all t.number (actual.Whole k) t.lent.given)))
        go false e =
            let l = t.later in
            let m : i + 1 ≤ t.number = grind (arith, l) in
            record { number = t.number; later = m; lent = t.lent }

    -- where it is to come, a dummy that gets the variable gets it back
    pub now_lent : (i k : ℕ) → slice_get all i ≡ Some (actual.Whole k) → IsToCome r all i k → IsLent r all i k
    now_lent i k at t = go (t.number == i) refl
      where
        go : (b : Bool) → (t.number == i) ≡ b → IsLent r all i k
        go true e = let s : t.number ≡ i = grind arith in subst (λ j. IsLent r all j k) s t.lent
        go false e =
            let l = t.later in
            let m : i < t.number = grind (arith, l) in
            absurd (t.lent.first i (actual.Whole k) m at refl)

    -- nothing comes back behind the last actual
    pub none_to_come : (i k : ℕ) → length all ≤ i → IsToCome r all i k → ⊥
    none_to_come i k l t =
        let m = slice_get_within all t.number (actual.Whole k) (given_get (length r.unit.now.dummies) all t.number (actual.Whole k) t.lent.given) in
        let n = t.later in
        absurd (omega (arith, l, m, n))

    -- a variable was lent to a dummy before one
    pub record IsGone (i k : ℕ) : Type 0 where
      pub number : ℕ
      pub before : number < i
      pub lent : IsLent r all number k

    pub gone_on : (i k : ℕ) → IsGone i k → IsGone (i + 1) k
    gone_on i k h = let b = h.before in record { number = h.number; before = omega (arith, b); lent = h.lent }

    pub gone_now : (i k : ℕ) → IsLent r all i k → IsGone (i + 1) k
    gone_now i k h = record { number = i; before = omega arith; lent = h }

    -- then it isn't lent to the one
    pub not_gone : (i k : ℕ) → IsLent r all i k → IsGone i k → ⊥
    not_gone i k l h = l.first h.number (actual.Whole k) h.before (given_get (length r.unit.now.dummies) all h.number (actual.Whole k) h.lent.given) refl

    pub gone_come : (i k : ℕ) → IsGone i k → IsToCome r all 0 k
    gone_come i k h = record { number = h.number; later = omega arith; lent = h.lent }

    module _ (i : ℕ) (names : List (List ℕ)) (vs : List (Slot C)) (f : IsFrameFrom r all i names vs) where
      -- a dummy that changes nothing
      pub frame_on : ((k : ℕ) (d : Slot C) → k < length vs → slice_get all i ≡ Some (actual.Whole k) → (get_or vs k d).cells.items ≡ [] → ⊥) → IsFrameFrom r all (i + 1) names vs
      frame_on n = record { apart = f.apart; each = f.each; sized = f.sized; come = λ k d l e. to_next i k (λ z. n k d l z e) (f.come k d l e) }

      -- behind the last the slots have their cells
      pub frame_end : length all ≤ i → IsFrame names vs
      frame_end n = record { apart = f.apart; each = f.each; sized = λ k d l. f.sized k d l (λ e. none_to_come i k n (f.come k d l e)) }

      -- a whole variable gets the cells of its dummy
      pub whole_frame : (k : ℕ) (e : Slot C) → slice_get all i ≡ Some (actual.Whole k) → k < length vs → IsSlot e → IsFrameFrom r all (i + 1) names (set vs k e)
      whole_frame k e at lt sized = record { apart = f.apart; each = f.each ∙ sym (length-set vs k e); sized = λ m g l h. go m g l h (m == k) refl; come = λ m g l h. back m g l h (m == k) refl }
        where
          go : (m : ℕ) (g : Slot C) → m < length (set vs k e) → ((get_or (set vs k e) m g).cells.items ≡ [] → ⊥) → (b : Bool) → (m == k) ≡ b → IsSlot (get_or (set vs k e) m g)
          go m g l h true q = let s : m ≡ k = grind arith in subst IsSlot (sym (get_or-set_at vs k m e g s lt)) sized
          go m g l h false q =
              let s : m ≢ k = grind arith in
              let n = length-set vs k e in
              let o = get_or-set_other vs k m e g s in
              subst IsSlot (sym o) (f.sized m g (omega (arith, l, n)) (λ z. h (ap (λ (v : Slot C). v.cells.items) o ∙ z)))

          back : (m : ℕ) (g : Slot C) → m < length (set vs k e) → (get_or (set vs k e) m g).cells.items ≡ [] → (b : Bool) → (m == k) ≡ b → IsToCome r all (i + 1) m
          back m g l h true q = let s : m ≡ k = grind arith in absurd (not_empty e sized (ap (λ (v : Slot C). v.cells.items) (sym (get_or-set_at vs k m e g s lt)) ∙ h))
          back m g l h false q =
              let s : m ≢ k = grind arith in
              let n = length-set vs k e in
              let o = get_or-set_other vs k m e g s in
              to_next i m (λ z. s (sym (same_whole (slice_get all i) k m at z))) (f.come m g (omega (arith, l, n)) (ap (λ (v : Slot C). v.cells.items) (sym o) ∙ h))

      module _ (k cell : ℕ) (w : C) (e d : Slot C) (at : slice_get all i ≡ Some (actual.Cell k cell w)) (lt : k < length vs) (shapes : slot_shape e ≡ slot_shape (get_or vs k d)) (count : length e.cells.items ≡ length (get_or vs k d).cells.items) where
        -- where the slot has cells now, it had them before
        pub cell_had : (e.cells.items ≡ [] → ⊥) → (get_or vs k d).cells.items ≡ [] → ⊥
        cell_had h z = h (no_items e.cells.items (count ∙ ap length z))

        -- a cell gets the number of its dummy
        pub cell_frame : IsFrameFrom r all (i + 1) names (set vs k e)
        cell_frame = record { apart = f.apart; each = f.each ∙ sym (length-set vs k e); sized = λ m g l h. go m g l h (m == k) refl; come = λ m g l h. back m g l h (m == k) refl }
          where
            go : (m : ℕ) (g : Slot C) → m < length (set vs k e) → ((get_or (set vs k e) m g).cells.items ≡ [] → ⊥) → (b : Bool) → (m == k) ≡ b → IsSlot (get_or (set vs k e) m g)
            go m g l h true q =
                let s : m ≡ k = grind arith in
                let o = get_or-set_at vs k m e g s lt in
                let some : e.cells.items ≡ [] → ⊥ = λ z. h (ap (λ (v : Slot C). v.cells.items) o ∙ z) in
                let sized : IsSlot e = count ∙ f.sized k d lt (cell_had some) ∙ ap size_of (sym shapes) in
                subst IsSlot (sym o) sized
            go m g l h false q =
                let s : m ≢ k = grind arith in
                let n = length-set vs k e in
                let o = get_or-set_other vs k m e g s in
                subst IsSlot (sym o) (f.sized m g (omega (arith, l, n)) (λ z. h (ap (λ (v : Slot C). v.cells.items) o ∙ z)))

            back : (m : ℕ) (g : Slot C) → m < length (set vs k e) → (get_or (set vs k e) m g).cells.items ≡ [] → (b : Bool) → (m == k) ≡ b → IsToCome r all (i + 1) m
            back m g l h true q =
                let s : m ≡ k = grind arith in
                let none = ap (λ (v : Slot C). v.cells.items) (sym (get_or-set_at vs k m e g s lt)) ∙ h in
                let was = no_items (get_or vs k d).cells.items (sym count ∙ ap length none) in
                subst (IsToCome r all (i + 1)) (sym s) (to_next i k (not_cell (slice_get all i) k cell k w at) (f.come k d lt was))
            back m g l h false q =
                let s : m ≢ k = grind arith in
                let n = length-set vs k e in
                let o = get_or-set_other vs k m e g s in
                to_next i m (not_cell (slice_get all i) k cell m w at) (f.come m g (omega (arith, l, n)) (ap (λ (v : Slot C). v.cells.items) (sym o) ∙ h))

    -- ---- slots that lent their cells

    module _ (names : List (List ℕ)) (vs us : List (Slot C)) (f : IsFrame names vs) (h : HaveLent r all vs us) where
      pub lent_frame : IsFrameFrom r all 0 names us
      lent_frame = record { apart = f.apart; each = f.each ∙ sym h.count; sized = λ k d l n. let c = h.count in subst IsSlot (sym (h.kept k d l n)) (f.sized k d (omega (arith, l, c))); come = h.come }

      pub lent_sizes : sizes_in us ≡ counts_in vs
      lent_sizes = sizes_alike us vs h.count h.shapes f.sized

      pub lent_within : AreActualsBelow vs all → AreActualsWithin us all
      lent_within b k d l = go (get_or all k d) (b k d l)
        where
          go : (a : CodeActual C) → IsActualBelow vs a → IsActualWithin us a
          go (actual.Whole i) b = let c = h.count in omega (arith, b, c)
          go (actual.Cell i j w) b = let c = h.count in let m = b.0 in (omega (arith, m, c), λ d. subst (λ n. j < n) (f.sized i d b.0 ∙ ap size_of (sym (h.shapes i d))) (b.1 d))
          go (actual.Word w) b = tt

  -- within slots is within slots of the same shapes
  pub within_on : (vs us : List (Slot C)) (all : List (CodeActual C)) → length us ≡ length vs → ((k : ℕ) (d : Slot C) → slot_shape (get_or us k d) ≡ slot_shape (get_or vs k d)) → AreActualsWithin vs all → AreActualsWithin us all
  within_on vs us all n h b k d l = go (get_or all k d) (b k d l)
    where
      go : (a : CodeActual C) → IsActualWithin vs a → IsActualWithin us a
      go (actual.Whole i) b = omega (arith, b, n)
      go (actual.Cell i j w) b = let m = b.0 in (omega (arith, m, n), λ d. subst (λ n. j < n) (ap size_of (sym (h i d))) (b.1 d))
      go (actual.Word w) b = tt

  -- a whole variable that is an actual is one of the slots
  pub within_at : (vs : List (Slot C)) (all : List (CodeActual C)) (i k : ℕ) → AreActualsWithin vs all → slice_get all i ≡ Some (actual.Whole k) → k < length vs
  within_at vs all i k b at = subst (IsActualWithin vs) (get_or_from_slice_get all i (actual.Whole k) (actual.Whole k) at) (b i (actual.Whole k) (slice_get_within all i (actual.Whole k) at))

  -- and so is a cell that is one
  pub within_cell : (vs : List (Slot C)) (all : List (CodeActual C)) (i k j : ℕ) (w : C) → AreActualsWithin vs all → slice_get all i ≡ Some (actual.Cell k j w) → IsActualWithin vs (actual.Cell k j w)
  within_cell vs all i k j w b at = subst (IsActualWithin vs) (get_or_from_slice_get all i (actual.Cell k j w) (actual.Cell k j w) at) (b i (actual.Cell k j w) (slice_get_within all i (actual.Cell k j w) at))

  -- where a slot keeps its shape, each does
  pub set_shapes : (vs : List (Slot C)) (k : ℕ) (e d : Slot C) → k < length vs → slot_shape e ≡ slot_shape (get_or vs k d) → (m : ℕ) (g : Slot C) → slot_shape (get_or (set vs k e) m g) ≡ slot_shape (get_or vs m g)
  set_shapes vs k e d lt h m g = go (m == k) refl
    where
      go : (b : Bool) → (m == k) ≡ b → slot_shape (get_or (set vs k e) m g) ≡ slot_shape (get_or vs m g)
      go true q =
          let s : m ≡ k = grind arith in
          ap slot_shape (get_or-set_at vs k m e g s lt) ∙ h ∙ ap slot_shape (get_or_default vs k d g lt) ∙ ap (λ j. slot_shape (get_or vs j g)) (sym s)
      go false q = let s : m ≢ k = grind arith in ap slot_shape (get_or-set_other vs k m e g s)

  -- slots that are there
  pub some_slot : (vs : List (Slot C)) (k : ℕ) → k < length vs → Slot C
  some_slot [] k lt = absurd (omega (arith, lt))
  some_slot (v ∷ vs) k lt = v

  -- how many cells the slot of a number has by its shape
  pub size_at : (vs : List (Slot C)) (i : ℕ) (d : Slot C) → i < length vs → get_or (sizes_in vs) i 0 ≡ size_of (slot_shape (get_or vs i d))
  size_at vs i d lt = get_or-map (λ (v : Slot C). size_of (slot_shape v)) vs i d 0 lt

  -- what slots say alike of a name
  said_alike : {A : Type 0} (other : A) (f : Slot C → A) (y : List ℕ) (names : List (List ℕ)) (vs us : List (Slot C)) → length us ≡ length vs → ((k : ℕ) (d : Slot C) → k < length us → name_eq y (get_or names k []) ≡ true → f (get_or us k d) ≡ f (get_or vs k d)) → in_slot other f names us y ≡ in_slot other f names vs y
  said_alike other f y [] vs us n h = refl
  said_alike other f y (x ∷ names) [] [] n h = refl
  said_alike other f y (x ∷ names) [] (u ∷ us) n h = absurd (omega (arith, n))
  said_alike other f y (x ∷ names) (v ∷ vs) [] n h = absurd (omega (arith, n))
  said_alike other f y (x ∷ names) (v ∷ vs) (u ∷ us) n h = go (said_alike other f y names vs us (omega (arith, n)) (λ k d l. h (suc k) d (omega (arith, l)))) (name_eq y x) refl
    where
      go : in_slot other f names us y ≡ in_slot other f names vs y → (b : Bool) → name_eq y x ≡ b → (if b then f u else in_slot other f names us y) ≡ (if b then f v else in_slot other f names vs y)
      go rest true e = h 0 v (omega arith) e
      go rest false e = rest

  -- what is put elsewhere leaves a variable as it is
  pub put_elsewhere : (names : List (List ℕ)) (a : CodeActual C) (k : ℕ) (cs : ℕ → C) (s : Store C) → AreApart names → k < length names → ((m : ℕ) → IsPlaceIn a m → m < length names) → (IsPlaceIn a k → ⊥) → (j : ℕ) → put (place_of names a) cs s (var_at names k) j ≡ s (var_at names k) j
  put_elsewhere names (actual.Whole m) k cs s ap' lt there n j = go (name_eq (get_or names k []) (get_or names m [])) refl
    where
      go : (b : Bool) → name_eq (get_or names k []) (get_or names m []) ≡ b → (if b then cs j else s (var_at names k) j) ≡ s (var_at names k) j
      go true e = absurd (n (sym (apart_at names k m ap' lt (there m refl) e)))
      go false e = refl
  put_elsewhere names (actual.Cell m c w) k cs s ap' lt there n j = go (name_eq (get_or names k []) (get_or names m [])) refl
    where
      go : (b : Bool) → name_eq (get_or names k []) (get_or names m []) ≡ b → (if b && (j == c) then cs 0 else s (var_at names k) j) ≡ s (var_at names k) j
      go true e = absurd (n (sym (apart_at names k m ap' lt (there m refl) e)))
      go false e = refl
  put_elsewhere names (actual.Word w) k cs s ap' lt there n j = refl

  -- an actual names variables of the slots
  pub place_within : (vs : List (Slot C)) (a : CodeActual C) → IsActualWithin vs a → (m : ℕ) → IsPlaceIn a m → m < length vs
  place_within vs (actual.Whole i) b m e = subst (λ z. z < length vs) e b
  place_within vs (actual.Cell i j w) b m e = subst (λ z. z < length vs) e b.0
  place_within vs (actual.Word w) b m e = absurd e

module _ {C : Type 0} (numbers : Numbers C) where
  -- ---- the slot of one dummy

  module _ (vs : List (Slot C)) (all : List (CodeActual C)) (i : ℕ) (v u : Slot C) (f : IsFilled vs all i v u) (r : Routine) (names : List (List ℕ)) (shape : Var → Shape) (s : Store C) where
    -- a slot with its own cells stays as at the entry
    pub own_entered : IsSlot v → IsEntered numbers r (actuals_in names shape s all) i v → IsEntered numbers r (actuals_in names shape s all) i u
    own_entered h e = record {
      shape = f.shape ∙ e.shape;
      cells = λ j lt. e.cells j (subst (λ (z : Shape). j < size_of z) f.shape lt) ∙ ap (λ cs. get_or cs j (zero_in numbers)) (sym (own_cells vs all i v u f h));
    }

    -- one that gets those of its variable is so then
    pub lent_entered : (l : IsLaidOut r) (k : ℕ) (d : Slot C) → i < length r.names → IsFrame names vs → Shows numbers names vs shape s → k < length vs → slot_shape v ≡ slot_shape (get_or vs k d) → slot_shape v ≡ shapes_with numbers r (actuals_in names shape s all) (var_at r.names i) → v.cells.items ≡ [] → IsLent r all i k → IsEntered numbers r (actuals_in names shape s all) i u
    lent_entered l k d there g h lt sh is e lent =
        let at = given_get (length r.unit.now.dummies) all i (actual.Whole k) lent.given in
        let same = f.lent k d e at in
        let size = f.shape ∙ sh in
        record {
          shape = f.shape ∙ is;
          cells = λ j m.
              given_cells numbers r l names shape s all i there (actual.Whole k) j lent.given
              ∙ shown_cell numbers names vs shape s h k d j g lt (subst (λ n. j < n) (ap size_of size ∙ sym (g.sized k d lt)) m)
              ∙ ap (λ cs. get_or cs j (zero_in numbers)) (sym same);
        }

  -- slots that lent their cells show what they showed, as far as they have them
  pub lent_shows : (r : Routine) (all : List (CodeActual C)) (names : List (List ℕ)) (vs us : List (Slot C)) (shape : Var → Shape) (s : Store C) → HaveLent r all vs us → Shows numbers names vs shape s → ShowsHeld numbers names us shape s
  lent_shows r all names vs us shape s l h = record { shapes = look; cells = hold }
    where
      look : (x : Var) → shape x ≡ shapes_in names us x
      look (plain y) = h.shapes (plain y) ∙ sym (said_alike scalar slot_shape y names vs us l.count (λ k d m e. l.shapes k d))
      look (shadow y) = h.shapes (shadow y)
      look (helper a k) = h.shapes (helper a k)

      hold : (x : Var) (j : ℕ) → ((k : ℕ) (d : Slot C) → k < length us → x ≡ var_at names k → (get_or us k d).cells.items ≡ [] → ⊥) → j < size_of (shape x) → s x j ≡ store_in numbers names us x j
      hold (plain y) j p m = h.cells (plain y) j m ∙ sym (said_alike (zero_in numbers) (λ v. get_or v.cells.items j (zero_in numbers)) y names vs us l.count (λ k d lt e. ap (λ (v : Slot C). get_or v.cells.items j (zero_in numbers)) (l.kept k d lt (p k d lt (ap plain (name_same y (get_or names k []) e))))))
      hold (shadow y) j p m = h.cells (shadow y) j m
      hold (helper a k) j p m = h.cells (helper a k) j m

  module _ (names : List (List ℕ)) (vs : List (Slot C)) (shape : Var → Shape) (s : Store C) (h : ShowsHeld numbers names vs shape s) where
    -- where each slot has its cells, they show the store
    pub shows_end : IsFrame names vs → Shows numbers names vs shape s
    shows_end f = record { shapes = h.shapes; cells = λ x j l. h.cells x j (λ k d lt q e. not_empty (get_or vs k d) (f.sized k d lt) e) l }

    module _ (apart : AreApart names) (each : length names ≡ length vs) (k : ℕ) (e d : Slot C) (there : k < length vs) (shapes : slot_shape e ≡ slot_shape (get_or vs k d)) where
      shapes_set : (x : Var) → shape x ≡ shapes_in names (set vs k e) x
      shapes_set (plain y) = h.shapes (plain y) ∙ sym (said_before scalar slot_shape e d names vs k y there shapes)
      shapes_set (shadow y) = h.shapes (shadow y)
      shapes_set (helper a b) = h.shapes (helper a b)

      -- the slot is that of a name
      size_now : (y : List ℕ) → name_eq y (get_or names k []) ≡ true → size_of (shape (plain y)) ≡ size_of (slot_shape e)
      size_now y g = ap size_of (h.shapes (plain y) ∙ ap (in_slot scalar slot_shape names vs) (name_same y (get_or names k []) g) ∙ at_number scalar slot_shape names vs k d apart each there ∙ sym shapes)

      -- another name is of another variable, whose slot is as it was
      elsewhere : (y : List ℕ) → name_eq y (get_or names k []) ≡ false → ((m : ℕ) (g : Slot C) → m < length (set vs k e) → plain y ≡ var_at names m → (get_or (set vs k e) m g).cells.items ≡ [] → ⊥) → (m : ℕ) (g : Slot C) → m < length vs → plain y ≡ var_at names m → (get_or vs m g).cells.items ≡ [] → ⊥
      elsewhere y f p m g l q z = go (m == k) refl
        where
          go : (b : Bool) → (m == k) ≡ b → ⊥
          go true r =
              let t : m ≡ k = grind arith in
              let y_is : y ≡ get_or names m [] = cc in
              let same : y ≡ get_or names k [] = y_is ∙ ap (λ n. get_or names n []) t in
              let bad : true ≡ false = sym (name_refl y) ∙ ap (name_eq y) same ∙ f in
              absurd cc
          go false r =
              let t : m ≢ k = grind arith in
              let n = length-set vs k e in
              p m g (omega (arith, l, n)) q (ap (λ (v : Slot C). v.cells.items) (get_or-set_other vs k m e g t) ∙ z)

      -- the slots show a store that is as it was elsewhere, and at the variable of the slot what that holds
      set_shows : (t : Store C) → ((y : List ℕ) (j : ℕ) → name_eq y (get_or names k []) ≡ true → ((m : ℕ) (g : Slot C) → m < length (set vs k e) → plain y ≡ var_at names m → (get_or (set vs k e) m g).cells.items ≡ [] → ⊥) → j < size_of (shape (plain y)) → t (plain y) j ≡ get_or e.cells.items j (zero_in numbers)) → ((y : List ℕ) (j : ℕ) → name_eq y (get_or names k []) ≡ false → t (plain y) j ≡ s (plain y) j) → ((y : List ℕ) (j : ℕ) → t (shadow y) j ≡ s (shadow y) j) → ((a : Role) (b : ℕ) (j : ℕ) → t (helper a b) j ≡ s (helper a b) j) → ShowsHeld numbers names (set vs k e) shape t
      set_shows t here there' shadows helpers = record { shapes = shapes_set; cells = hold }
        where
          go : (y : List ℕ) (j : ℕ) → ((m : ℕ) (g : Slot C) → m < length (set vs k e) → plain y ≡ var_at names m → (get_or (set vs k e) m g).cells.items ≡ [] → ⊥) → j < size_of (shape (plain y)) → (b : Bool) → name_eq y (get_or names k []) ≡ b → t (plain y) j ≡ (if b then get_or e.cells.items j (zero_in numbers) else in_slot (zero_in numbers) (λ v. get_or v.cells.items j (zero_in numbers)) names vs y)
          go y j p l true g = here y j g p l
          go y j p l false g = there' y j g ∙ h.cells (plain y) j (elsewhere y g p) l

          hold : (x : Var) (j : ℕ) → ((m : ℕ) (g : Slot C) → m < length (set vs k e) → x ≡ var_at names m → (get_or (set vs k e) m g).cells.items ≡ [] → ⊥) → j < size_of (shape x) → t x j ≡ store_in numbers names (set vs k e) x j
          hold (plain y) j p l = go y j p l (name_eq y (get_or names k [])) refl ∙ sym (said_now (zero_in numbers) (λ v. get_or v.cells.items j (zero_in numbers)) e d names vs k y apart each there)
          hold (shadow y) j p l = shadows y j ∙ h.cells (shadow y) j (λ m g lt q z. absurd cc) l
          hold (helper a b) j p l = helpers a b j ∙ h.cells (helper a b) j (λ m g lt q z. absurd cc) l

      -- a whole variable gets the cells of its dummy
      pub whole_shows : (cs : ℕ → C) → ((j : ℕ) → j < size_of (slot_shape e) → cs j ≡ get_or e.cells.items j (zero_in numbers)) → ShowsHeld numbers names (set vs k e) shape (store.set_all s (var_at names k) cs)
      whole_shows cs cells = set_shows (store.set_all s (var_at names k) cs)
          (λ y j g p l. ap (λ b. if b then cs j else s (plain y) j) g ∙ cells j (subst (λ z. j < z) (size_now y g) l))
          (λ y j g. ap (λ b. if b then cs j else s (plain y) j) g) (λ y j. refl) (λ a b j. refl)

      -- it gets back what it held
      pub own_shows : ((j : ℕ) → j < size_of (slot_shape e) → s (var_at names k) j ≡ get_or e.cells.items j (zero_in numbers)) → ShowsHeld numbers names (set vs k e) shape s
      own_shows cells = set_shows s
          (λ y j g p l. ap (λ z. s (plain z) j) (name_same y (get_or names k []) g) ∙ cells j (subst (λ z. j < z) (size_now y g) l))
          (λ y j g. refl) (λ y j. refl) (λ a b j. refl)

      -- a cell gets the number of its dummy, where the variable has its cells
      pub cell_shows : (cell : ℕ) (u : C) (had : (e.cells.items ≡ [] → ⊥) → (get_or vs k d).cells.items ≡ [] → ⊥) (sized : ((get_or vs k d).cells.items ≡ [] → ⊥) → IsSlot (get_or vs k d)) (within : cell < size_of (slot_shape (get_or vs k d))) (cells : cell < length (get_or vs k d).cells.items → e.cells.items ≡ set (get_or vs k d).cells.items cell u) → ShowsHeld numbers names (set vs k e) shape (store.set s (var_at names k) cell u)
      cell_shows cell u had sized within cells = set_shows (store.set s (var_at names k) cell u) here
          (λ y j g. ap (λ b. if b && (j == cell) then u else s (plain y) j) g) (λ y j. refl) (λ a b j. refl)
        where
          here : (y : List ℕ) (j : ℕ) → name_eq y (get_or names k []) ≡ true → ((m : ℕ) (g : Slot C) → m < length (set vs k e) → plain y ≡ var_at names m → (get_or (set vs k e) m g).cells.items ≡ [] → ⊥) → j < size_of (shape (plain y)) → store.set s (var_at names k) cell u (plain y) j ≡ get_or e.cells.items j (zero_in numbers)
          here y j g p l =
              let n = length-set vs k e in
              let y_is = name_same y (get_or names k []) g in
              let some : e.cells.items ≡ [] → ⊥ = λ z. p k d (omega (arith, n, there)) (ap plain y_is) (ap (λ (v : Slot C). v.cells.items) (get_or-set_at vs k k e d refl there) ∙ z) in
              let was = had some in
              let has : cell < length (get_or vs k d).cells.items = subst (λ n. cell < n) (sym (sized was)) within in
              let whole = subst (λ n. j < n) (ap size_of (h.shapes (plain y) ∙ ap (in_slot scalar slot_shape names vs) y_is ∙ at_number scalar slot_shape names vs k d apart each there)) l in
              ap (λ b. if b && (j == cell) then u else s (plain y) j) g
              ∙ ap (λ z. if j == cell then u else z)
              (h.cells (plain y) j (λ m q lt r z. was (same_slot m q lt r z)) l ∙ ap (in_slot (zero_in numbers) (λ v. get_or v.cells.items j (zero_in numbers)) names vs) y_is ∙ at_number (zero_in numbers) (λ v. get_or v.cells.items j (zero_in numbers)) names vs k d apart each there)
              ∙ sym (ap (λ cs. get_or cs j (zero_in numbers)) (cells has) ∙ cell_now numbers (get_or vs k d).cells.items cell j u has)
            where
              -- the slot of the name is the variable's
              same_slot : (m : ℕ) (q : Slot C) → m < length vs → plain y ≡ var_at names m → (get_or vs m q).cells.items ≡ [] → (get_or vs k d).cells.items ≡ []
              same_slot m q lt r z =
                  let y_is : y ≡ get_or names m [] = cc in
                  let same : m ≡ k = apart_at names m k apart (omega (arith, lt, each)) (omega (arith, there, each)) (ap (λ (x : List ℕ). name_eq x (get_or names k [])) (sym y_is) ∙ g) in
                  ap (λ (v : Slot C). v.cells.items) (get_or_default vs k d q there ∙ ap (λ i. get_or vs i q) (sym same)) ∙ z
