-- A run depends on no cells but those of what its statements read.
use Rattle.std.proofs.Common.{◌≡◌, ℕ, zero, suc, ◌<◌, ◌≤◌, Bool, true, false, List, [], ◌∷◌, refl, sym, ap, ◌∙◌, subst, arith}
use Rattle.std.specs.Prelude.{pos, int_le, Result, Ok, Err, Option, Some, None, IsTrue, length, map, ◌==◌, ◌&&◌, ◌||◌, if◌then◌else◌}
use Rattle.adj_tree.specs.Code.{Var, plain, name_eq, var_eq, Term, lit, var, elem, neg, bin, pow, power_of, abs, Terms, none, more, Extent, fixed, given, Declaration, Procedure}
use Rattle.adj_tree.proofs.Names.{nat_same, name_refl, name_same}
use Rattle.def_meaning.specs.Trap.{Trap, shape_trap, schedule_trap, then_ok}
use Rattle.def_meaning.specs.Numbers.{Numbers}
use Rattle.def_meaning.specs.Store.{Shape, size_of, Store, set_all}
use Rattle.def_meaning.specs.Value.{Setting, value, values, cell_at}
use Rattle.def_meaning.specs.Event.{Enter}
use Rattle.def_meaning.specs.Scene.{Scene, Stand, stand, Go, Outcome, Done, Trapped, then_do, with_value}
use Rattle.def_meaning.specs.Run.{Calls, run}
use Rattle.def_meaning.specs.LeastSet.{Dummies}
use Rattle.def_meaning.specs.Written.{find_unit, handed_back}
use Rattle.def_meaning.specs.Read.{reads_terms, reads_actual, reads_actuals, reads, names_extent, is_extent, read_rule, looked_at}
use Rattle.def_meaning.specs.Units.{declared, extent_in, extents_of, shape_of, are_extents, elements, shape_fits, Place, whole, cell, nowhere, Actual, one_word, actual_of, actuals, put, entry_store, dummies_fit, copied_out, setting_in, dummy_shapes, entered, unit_run, call_in, calls_of}
use Rattle.law_meaning.specs.Agree.{AgreeOn, EndAlike}
use Rattle.def_meaning.specs.Apart.{has_name, AreApart}
use Rattle.law_meaning.specs.Laws.{DependsOnReads}
use Rattle.def_meaning.proofs.Booleans.{and_true, or_false, or_first, or_second}
use Rattle.law_meaning.proofs.Results.{AlikeResults, results_then, results_same}
use Rattle.def_meaning.proofs.Variables.{name_comm, var_refl, var_same}
use Rattle.def_meaning.proofs.Cells.{size_positive}
use Rattle.def_meaning.proofs.LeastSets.{least_row}
use Rattle.def_meaning.proofs.ReadsMore.{read_rises}
use Rattle.law_meaning.proofs.Agreements.{Cells, Covers, covers_first, covers_second, StoresAgree, value_alike, values_alike, cell_bound, stand_alike, then_alike, if_alike, CallsDepend, run_alike}

-- ---- actuals

-- where cell j of a dummy is handed back to is in the set
abbrev pub IsBackIn : Cells → Place → ℕ → Type 0
IsBackIn A (whole x) j = A x j
IsBackIn A (cell x i) j = A x i
IsBackIn A nowhere j = Unit {0}

-- two actuals for one dummy, which is read where w is true
pub record Matches {C : Type 0} (A : Cells) (w : Bool) (a b : Actual C) : Type 0 where
  pub shape : a.shape ≡ b.shape
  pub place : a.place ≡ b.place
  pub cells : (j : ℕ) → IsBackIn A a.place j → a.cells j ≡ b.cells j
  pub taken : w ≡ true → (j : ℕ) → j < size_of a.shape → a.cells j ≡ b.cells j

abbrev pub first_flag : List Bool → Bool
first_flag [] = false
first_flag (w ∷ ws) = w

abbrev pub other_flags : List Bool → List Bool
other_flags [] = []
other_flags (w ∷ ws) = ws

abbrev pub AllMatch : {C : Type 0} → Cells → List Bool → List (Actual C) → List (Actual C) → Type 0
AllMatch A ws [] [] = Unit {0}
AllMatch A ws [] (b ∷ bs) = ⊥
AllMatch A ws (a ∷ got) [] = ⊥
AllMatch A ws (a ∷ got) (b ∷ bs) = Matches A (first_flag ws) a b × AllMatch A (other_flags ws) got bs

module _ {C : Type 0} (n : Setting C) (A : Cells) (f g : Store C) (agree : StoresAgree A f g) where
  -- values that are the same match
  word_matches : (w : Bool) (v u : Result C Trap) → v ≡ u → AlikeResults (Matches A w) (then_ok v (λ c. Ok (one_word c nowhere))) (then_ok u (λ c. Ok (one_word c nowhere)))
  word_matches w v u e =
      results_same (Matches A w) v u (λ c. Ok (one_word c nowhere)) (λ c. Ok (one_word c nowhere)) e (λ c h. record { shape = refl; place = refl; cells = λ j a. refl; taken = λ t j l. refl })

  -- an actual matches where the stores agree on what it reads
  actual_matches : (w : Bool) (e : Term) → Covers n A (λ x. reads_actual x w e) → AlikeResults (Matches A w) (actual_of n e f) (actual_of n e g)
  actual_matches w (var x) c = record {
    shape = refl;
    place = refl;
    cells = λ j a. agree x j a;
    taken = λ t j l. agree x j (c x (rw (t, var_refl x) refl) j l);
  }
  actual_matches w (elem x subs) c =
      results_same (Matches A w) (values n subs f) (values n subs g) _ _ (values_alike n A f g agree subs (covers_second n A (λ y. w && var_eq y x) (λ y. reads_terms y subs) c))
      (λ is h. results_same (Matches A w) (cell_at n x is) (cell_at n x is) (λ i. Ok (one_word (f x i) (cell x i))) (λ i. Ok (one_word (g x i) (cell x i))) refl
      (λ i b. record {
        shape = refl;
        place = refl;
        cells = λ j a. agree x i a;
        taken = λ t j l. agree x i (covers_first n A (λ y. w && var_eq y x) (λ y. reads_terms y subs) c x (rw (t, var_refl x) refl) i (cell_bound n x is i b));
      }))
  actual_matches w (lit z) c = word_matches w (value n (lit z) f) (value n (lit z) g) (value_alike n A f g agree (lit z) c)
  actual_matches w (neg a) c = word_matches w (value n (neg a) f) (value n (neg a) g) (value_alike n A f g agree (neg a) c)
  actual_matches w (bin op a b) c = word_matches w (value n (bin op a b) f) (value n (bin op a b) g) (value_alike n A f g agree (bin op a b) c)
  actual_matches w (pow a k) c = word_matches w (value n (pow a k) f) (value n (pow a k) g) (value_alike n A f g agree (pow a k) c)
  actual_matches w (power_of a b) c = word_matches w (value n (power_of a b) f) (value n (power_of a b) g) (value_alike n A f g agree (power_of a b) c)
  actual_matches w (abs a) c = word_matches w (value n (abs a) f) (value n (abs a) g) (value_alike n A f g agree (abs a) c)

  -- and so do all actuals of a call
  actuals_match : (ws : List Bool) (es : Terms) → Covers n A (λ x. reads_actuals x ws es) → AlikeResults (AllMatch A ws) (actuals n es f) (actuals n es g)
  actuals_match ws none c = tt
  actuals_match [] (more e es) c =
      results_then (Matches A false) (AllMatch A []) _ _ _ _ (actual_matches false e (covers_first n A (λ x. reads_actual x false e) (λ x. reads_actuals x [] es) c))
      (λ a b m. results_then (AllMatch A []) (AllMatch A []) _ _ _ _ (actuals_match [] es (covers_second n A (λ x. reads_actual x false e) (λ x. reads_actuals x [] es) c)) (λ got bs ms. (m, ms)))
  actuals_match (w ∷ ws) (more e es) c =
      results_then (Matches A w) (AllMatch A (w ∷ ws)) _ _ _ _ (actual_matches w e (covers_first n A (λ x. reads_actual x w e) (λ x. reads_actuals x ws es) c))
      (λ a b m. results_then (AllMatch A ws) (AllMatch A (w ∷ ws)) _ _ _ _ (actuals_match ws es (covers_second n A (λ x. reads_actual x w e) (λ x. reads_actuals x ws es) c)) (λ got bs ms. (m, ms)))

-- ---- the stores at a unit's entry

-- a list of no length has no members
pub none_declared : (l : List Extent) → (length l == 0) ≡ true → l ≡ []
none_declared [] h = refl
none_declared (e ∷ es) h = absurd (let x : length es ≡ length es = refl in grind arith)

-- shapes that compare equal are equal
pub shape_same : (a b : Shape) → (a.rows == b.rows && a.cols == b.cols) ≡ true → a ≡ b
shape_same a b h =
    let p = and_true (a.rows == b.rows) (a.cols == b.cols) h in
    λ i. record { rows = nat_same a.rows b.rows p.0 i; cols = nat_same a.cols b.cols p.1 i }

-- a dummy that fits has no more cells than its actual
pub fit_size : {C : Type 0} (n : Numbers C) (u : Procedure) (s : Store C) (x : Var) (sh : Shape) → (length (declared u.declarations x) == 0 || shape_fits (extents_of n u s x) sh) ≡ true → size_of (shape_of (extents_of n u s x)) ≤ size_of sh
fit_size n u s x sh h = go (length (declared u.declarations x) == 0) refl h
  where
    go : (b : Bool) → (length (declared u.declarations x) == 0) ≡ b → (b || shape_fits (extents_of n u s x) sh) ≡ true → size_of (shape_of (extents_of n u s x)) ≤ size_of sh
    go true e h =
        let one : size_of (shape_of (extents_of n u s x)) ≡ 1 = ap (λ l. size_of (shape_of (map (extent_in n s) l))) (none_declared (declared u.declarations x) e) in
        let some = size_positive sh in
        omega arith
    go false e h =
        let p = and_true (are_extents (extents_of n u s x)) _ h in
        let q = and_true (int_le (elements (extents_of n u s x)) (pos 1048576)) _ p.1 in
        let same : size_of (shape_of (extents_of n u s x)) ≡ size_of sh = ap size_of (shape_same (shape_of (extents_of n u s x)) sh q.1) in
        omega arith

-- the actual of each dummy of a name has the cell
abbrev pub HasCell : {C : Type 0} → Var → ℕ → List (List ℕ) → List (Actual C) → Type 0
HasCell y i [] got = Unit {0}
HasCell y i (d ∷ ds) [] = Unit {0}
HasCell y i (d ∷ ds) (a ∷ got) = (var_eq y (plain d) ≡ true → i < size_of a.shape) × HasCell y i ds got

-- each actual has the first
pub has_first : {C : Type 0} (y : Var) (ds : List (List ℕ)) (got : List (Actual C)) → HasCell y 0 ds got
has_first y [] got = tt
has_first y (d ∷ ds) [] = tt
has_first y (d ∷ ds) (a ∷ got) = (λ e. size_positive a.shape, has_first y ds got)

-- where all dummies fit, those that the unit has
pub has_fitting : {C : Type 0} (n : Numbers C) (u : Procedure) (s : Store C) (y : Var) (i : ℕ) → i < size_of (shape_of (extents_of n u s y)) → (ds : List (List ℕ)) (got : List (Actual C)) → dummies_fit n u s ds got ≡ true → HasCell y i ds got
has_fitting n u s y i l [] got h = tt
has_fitting n u s y i l (d ∷ ds) [] h = tt
has_fitting n u s y i l (d ∷ ds) (a ∷ got) h =
    let p = and_true (length (declared u.declarations (plain d)) == 0 || shape_fits (extents_of n u s (plain d)) a.shape) (dummies_fit n u s ds got) h in
    let le = fit_size n u s (plain d) a.shape p.0 in
    (λ e. let here : i < size_of (shape_of (extents_of n u s (plain d))) = subst (λ z. i < size_of (shape_of (extents_of n u s z))) (var_same y (plain d) e) l in omega arith, has_fitting n u s y i l ds got p.1)

-- the entries agree in the cells of a dummy that is read
entry_alike : {C : Type 0} (n : Numbers C) (A : Cells) (f : List ℕ → Bool) (ds : List (List ℕ)) (got bs : List (Actual C)) → AllMatch A (map f ds) got bs → (y : Var) → ((d : List ℕ) → var_eq y (plain d) ≡ true → f d ≡ true) → (i : ℕ) → HasCell y i ds got → entry_store n ds got y i ≡ entry_store n ds bs y i
entry_alike n A f [] got bs m y r i h = refl
entry_alike n A f (d ∷ ds) [] [] m y r i h = refl
entry_alike n A f (d ∷ ds) [] (b ∷ bs) m y r i h = absurd m
entry_alike n A f (d ∷ ds) (a ∷ got) [] m y r i h = absurd m
entry_alike n A f (d ∷ ds) (a ∷ got) (b ∷ bs) m y r i h = go (var_eq y (plain d)) refl (entry_alike n A f ds got bs m.1 y r i h.1)
  where
    go : (t : Bool) → var_eq y (plain d) ≡ t → entry_store n ds got y i ≡ entry_store n ds bs y i → (if t then a.cells i else entry_store n ds got y i) ≡ (if t then b.cells i else entry_store n ds bs y i)
    go true e rest = m.0.taken (r d e) i (h.0 e)
    go false e rest = rest

-- the extents of a declared variable are among those of the declarations
extent_there : (d : List ℕ) (x : Var) (ds : List Declaration) → names_extent d (declared ds x) ≡ true → is_extent d ds ≡ true
extent_there d x [] h = absurd cc
extent_there d x (e ∷ es) h = go (var_eq x (plain e.name)) refl h (extent_there d x es)
  where
    go : (t : Bool) → var_eq x (plain e.name) ≡ t → names_extent d (if t then e.extents else declared es x) ≡ true → (names_extent d (declared es x) ≡ true → is_extent d es ≡ true) → (names_extent d e.extents || is_extent d es) ≡ true
    go true w h ih = ap (λ z. z || is_extent d es) h
    go false w h ih = or_second (names_extent d e.extents) (is_extent d es) (ih h)

-- extents are the same where the names among them hold the same words
pub extents_alike : {C : Type 0} (n : Numbers C) (f g : Store C) (es : List Extent) → ((d : List ℕ) → names_extent d es ≡ true → f (plain d) 0 ≡ g (plain d) 0) → map (extent_in n f) es ≡ map (extent_in n g) es
extents_alike n f g [] h = refl
extents_alike n f g (fixed z ∷ es) h = ap (λ w. z ∷ w) (extents_alike n f g es h)
extents_alike n f g (given x ∷ es) h =
    λ i. n.shown (h x (rw (name_refl x) refl) i) ∷ extents_alike n f g es (λ d k. h d (go d k)) i
  where
    go : (d : List ℕ) → names_extent d es ≡ true → (name_eq d x || names_extent d es) ≡ true
    go d k = or_second (name_eq d x) (names_extent d es) k

-- the dummies fit in both or in neither
fit_alike : {C : Type 0} (n : Numbers C) (A : Cells) (u : Procedure) (s t : Store C) → ((x : Var) → extents_of n u s x ≡ extents_of n u t x) → (ds : List (List ℕ)) (ws : List Bool) (got bs : List (Actual C)) → AllMatch A ws got bs → dummies_fit n u s ds got ≡ dummies_fit n u t ds bs
fit_alike n A u s t e [] ws got bs m = refl
fit_alike n A u s t e (d ∷ ds) ws [] [] m = refl
fit_alike n A u s t e (d ∷ ds) ws [] (b ∷ bs) m = absurd m
fit_alike n A u s t e (d ∷ ds) ws (a ∷ got) [] m = absurd m
fit_alike n A u s t e (d ∷ ds) ws (a ∷ got) (b ∷ bs) m =
    λ i. (length (declared u.declarations (plain d)) == 0 || shape_fits (e (plain d) i) (m.0.shape i)) && fit_alike n A u s t e ds (other_flags ws) got bs m.1 i

-- ---- handing back

-- the store holds these actuals in these dummies
abbrev pub HoldsActuals : {C : Type 0} → Store C → List (List ℕ) → List (Actual C) → Type 0
HoldsActuals s [] got = Unit {0}
HoldsActuals s (d ∷ ds) [] = Unit {0}
HoldsActuals s (d ∷ ds) (a ∷ got) = ((i : ℕ) → s (plain d) i ≡ a.cells i) × HoldsActuals s ds got

-- a dummy of another name changes nothing
holds_more : {C : Type 0} (s : Store C) (d : List ℕ) (cs : ℕ → C) (ds : List (List ℕ)) (got : List (Actual C)) → has_name d ds ≡ false → HoldsActuals s ds got → HoldsActuals (set_all s (plain d) cs) ds got
holds_more s d cs [] got h k = tt
holds_more s d cs (e ∷ ds) [] h k = tt
holds_more s d cs (e ∷ ds) (a ∷ got) h k =
    let p = or_false (name_eq d e) (has_name d ds) h in
    (λ i. ap (λ t. if t then cs i else s (plain e) i) (name_comm d e p.0) ∙ k.0 i, holds_more s d cs ds got p.1 k.1)

-- at the entry of a unit whose dummies have names of their own
entry_holds : {C : Type 0} (n : Numbers C) (ds : List (List ℕ)) (got : List (Actual C)) → AreApart ds → HoldsActuals (entry_store n ds got) ds got
entry_holds n [] got h = tt
entry_holds n (d ∷ ds) [] h = tt
entry_holds n (d ∷ ds) (a ∷ got) h =
    (λ i. ap (λ t. if t then a.cells i else entry_store n ds got (plain d) i) (name_refl d), holds_more (entry_store n ds got) d a.cells ds got h.0 (entry_holds n ds got h.1))

module _ {C : Type 0} (A : Cells) where
  -- what is put back where the set is agrees
  put_alike : (p : Place) (cs ds : ℕ → C) (f g : Store C) → ((j : ℕ) → IsBackIn A p j → cs j ≡ ds j) → StoresAgree A f g → StoresAgree A (put p cs f) (put p ds g)
  put_alike (whole x) cs ds f g h agree y i a = go (var_eq y x) refl
    where
      go : (t : Bool) → var_eq y x ≡ t → (if t then cs i else f y i) ≡ (if t then ds i else g y i)
      go true e = h i (subst (λ z. A z i) (var_same y x e) a)
      go false e = agree y i a
  put_alike (cell x j) cs ds f g h agree y i a = go (var_eq y x && (i == j)) refl
    where
      go : (t : Bool) → (var_eq y x && (i == j)) ≡ t → (if t then cs 0 else f y i) ≡ (if t then ds 0 else g y i)
      go true e =
          let p = and_true (var_eq y x) (i == j) e in
          h 0 (subst (λ z. A z j) (var_same y x p.0) (subst (λ z. A y z) (nat_same i j p.1) a))
      go false e = agree y i a
  put_alike nowhere cs ds f g h agree y i a = agree y i a

  if_put : (w : Bool) (f g f1 g1 : Store C) → StoresAgree A f g → StoresAgree A f1 g1 → StoresAgree A (if w then f else f1) (if w then g else g1)
  if_put true f g f1 g1 a b = a
  if_put false f g f1 g1 a b = b

  -- es and et are the stores at the entries, and v and w those at the ends
  copied_alike : (es et v w : Store C) → ((x : Var) (i : ℕ) → es x i ≡ et x i → v x i ≡ w x i) → (ds : List (List ℕ)) (flags ws : List Bool) (got bs : List (Actual C)) → AllMatch A flags got bs → HoldsActuals es ds got → HoldsActuals et ds bs → (f g : Store C) → StoresAgree A f g → StoresAgree A (copied_out ds ws got v f) (copied_out ds ws bs w g)
  copied_alike es et v w keep [] flags ws got bs m h k f g agree = agree
  copied_alike es et v w keep (d ∷ ds) flags [] got bs m h k f g agree = agree
  copied_alike es et v w keep (d ∷ ds) flags (b ∷ ws) [] [] m h k f g agree = agree
  copied_alike es et v w keep (d ∷ ds) flags (b ∷ ws) [] (c ∷ bs) m h k f g agree = absurd m
  copied_alike es et v w keep (d ∷ ds) flags (b ∷ ws) (a ∷ got) [] m h k f g agree = absurd m
  copied_alike es et v w keep (d ∷ ds) flags (b ∷ ws) (a ∷ got) (c ∷ bs) m h k f g agree =
      copied_alike es et v w keep ds (other_flags flags) ws got bs m.1 h.1 k.1 (if b then put a.place (v (plain d)) f else f) (if b then put c.place (w (plain d)) g else g)
      (if_put b (put a.place (v (plain d)) f) (put c.place (w (plain d)) g) f g
      (subst (λ z. StoresAgree A (put a.place (v (plain d)) f) (put z (w (plain d)) g)) m.0.place
      (put_alike a.place (v (plain d)) (w (plain d)) f g (λ j i. keep (plain d) j (h.0 j ∙ m.0.cells j i ∙ sym (k.0 j))) agree))
      agree)

-- ---- calls

-- traps of one kind and actuals that match lead to the like
results_alike : {C : Type 0} (A : Cells) (R : List (Actual C) → List (Actual C) → Type 0) {x y : Stand} (v w : Result (List (Actual C)) Trap) (line : ℕ) → x ≡ y → (f g : List (Actual C) → Outcome (Scene C)) → AlikeResults R v w → ((a b : List (Actual C)) → R a b → EndAlike A (f a) (g b)) → EndAlike A (with_value v line x f) (with_value w line y g)
results_alike A R (Ok a) (Ok b) line l f g e h = h a b e
results_alike A R (Ok a) (Err t) line l f g e h = absurd e
results_alike A R (Err t) (Ok b) line l f g e h = absurd e
results_alike A R (Err t) (Err t') line l f g e h = (e, refl, l)

-- what comes after a unit that was called from a scene
abbrev pub handing : {C : Type 0} → Procedure → List Bool → List (Actual C) → Scene C → Go C
handing u ws got s s1 j = Done (record s { store = copied_out u.dummies ws got s1.store s.store; tape = s1.tape; events = s1.events }) j

-- the end of a unit
abbrev pub closed : {C : Type 0} → Setting C → ℕ → Go C
closed n line s k = if s.opened == 0 then Done s k else Trapped schedule_trap line (stand n s)

module _ {C : Type 0} (looked : Dummies) (q : Calls C) (depend : CallsDepend looked q) (A : Cells) (n : Setting C) (u : Procedure) (apart : AreApart u.dummies) where
  -- whether the unit reads a dummy
  abbrev flag : List ℕ → Bool
  flag d = read_rule looked u d

  module _ (got bs : List (Actual C)) (match : AllMatch A (map flag u.dummies) got bs) where
    abbrev here : Store C
    here = entry_store n.numbers u.dummies got

    abbrev there : Store C
    there = entry_store n.numbers u.dummies bs

    -- the cells in which both entries agree
    abbrev SameEntry : Cells
    SameEntry x i = here x i ≡ there x i

    -- the extents are the same in both
    extents_same : (x : Var) → extents_of n.numbers u here x ≡ extents_of n.numbers u there x
    extents_same x =
        extents_alike n.numbers here there (declared u.declarations x) (λ d h.
        let t : flag d ≡ true = or_second (reads looked (plain d) u.body) (is_extent d u.declarations) (extent_there d x u.declarations h) in
        entry_alike n.numbers A flag u.dummies got bs match (plain d) (λ e k. ap flag (sym (name_same d e k)) ∙ t) 0 (has_first (plain d) u.dummies got))

    -- so the dummies fit in both or in neither
    fit_same : dummies_fit n.numbers u here u.dummies got ≡ dummies_fit n.numbers u there u.dummies bs
    fit_same = fit_alike n.numbers A u here there extents_same u.dummies (map flag u.dummies) got bs match

    module _ (fit : dummies_fit n.numbers u here u.dummies got ≡ true) where
      -- the cells of what the body reads
      body_covered : Covers (setting_in n u here) SameEntry (λ x. reads looked x u.body)
      body_covered x r i l =
          entry_alike n.numbers A flag u.dummies got bs match x (λ d h. or_first (reads looked (plain d) u.body) (is_extent d u.declarations) (ap (λ z. reads looked z u.body) (sym (var_same x (plain d) h)) ∙ r)) i (has_fitting n.numbers u here x i l u.dummies got fit)

      -- the unit from both entries
      unit_alike : (line : ℕ) (s t : Scene C) → AgreeOn A s t → (k : ℕ) → EndAlike SameEntry (unit_run q n u line (record s { store = here }) k) (unit_run q n u line (record t { store = there }) k)
      unit_alike line s t e k =
          subst (λ w. EndAlike SameEntry (unit_run q n u line (record s { store = here }) k) (then_do (run q w u.body (entered n u (record t { store = there })) k) (closed n line))) setting_same
          (then_alike SameEntry SameEntry (run q (setting_in n u here) u.body (entered n u (record s { store = here })) k) (run q (setting_in n u here) u.body (entered n u (record t { store = there })) k) (closed n line) (closed n line)
          (run_alike looked q depend (setting_in n u here) SameEntry u.body body_covered (entered n u (record s { store = here })) (entered n u (record t { store = there })) start_alike k) ends_closed)
        where
          setting_same : setting_in n u here ≡ setting_in n u there
          setting_same = λ i. record { numbers = n.numbers; shape = λ x. shape_of (extents_same x i); room = n.room; level = suc n.level }

          start_alike : AgreeOn SameEntry (entered n u (record s { store = here })) (entered n u (record t { store = there }))
          start_alike = record { store = λ x i a. a; tape = e.tape; opened = refl; events = λ i. Enter u.name (suc n.level) (length (e.tape i)) (dummy_shapes (setting_same i) u) ∷ e.events i }

          ends_closed : (s1 t1 : Scene C) → AgreeOn SameEntry s1 t1 → (j : ℕ) → EndAlike SameEntry (closed n line s1 j) (closed n line t1 j)
          ends_closed s1 t1 a j =
              subst (λ z. EndAlike SameEntry (closed n line s1 j) (if z == 0 then Done t1 j else Trapped schedule_trap line (stand n t1))) a.opened
              (if_alike SameEntry (s1.opened == 0) (Done s1 j) (Trapped schedule_trap line (stand n s1)) (Done t1 j) (Trapped schedule_trap line (stand n t1)) (a, refl) (refl, refl, stand_alike SameEntry n s1 t1 a))

    -- the call from both scenes
    call_matched : (ws : List Bool) (line : ℕ) (s t : Scene C) → AgreeOn A s t → (k : ℕ) →
        EndAlike A
        (if dummies_fit n.numbers u here u.dummies got then then_do (unit_run q n u line (record s { store = here }) k) (handing u ws got s) else Trapped shape_trap line (stand n s))
        (if dummies_fit n.numbers u there u.dummies bs then then_do (unit_run q n u line (record t { store = there }) k) (handing u ws bs t) else Trapped shape_trap line (stand n t))
    call_matched ws line s t e k =
        subst (λ z. EndAlike A (if dummies_fit n.numbers u here u.dummies got then then_do (unit_run q n u line (record s { store = here }) k) (handing u ws got s) else Trapped shape_trap line (stand n s))
        (if z then then_do (unit_run q n u line (record t { store = there }) k) (handing u ws bs t) else Trapped shape_trap line (stand n t))) fit_same
        (go (dummies_fit n.numbers u here u.dummies got) refl)
      where
        handed : (s1 t1 : Scene C) → AgreeOn SameEntry s1 t1 → (j : ℕ) → EndAlike A (handing u ws got s s1 j) (handing u ws bs t t1 j)
        handed s1 t1 a j = (
          record {
            store = copied_alike A here there s1.store t1.store a.store u.dummies (map flag u.dummies) ws got bs match (entry_holds n.numbers u.dummies got apart) (entry_holds n.numbers u.dummies bs apart) s.store t.store e.store;
            tape = a.tape;
            opened = e.opened;
            events = a.events;
          },
          refl,
        )

        go : (b : Bool) → dummies_fit n.numbers u here u.dummies got ≡ b → EndAlike A (if b then then_do (unit_run q n u line (record s { store = here }) k) (handing u ws got s) else Trapped shape_trap line (stand n s)) (if b then then_do (unit_run q n u line (record t { store = there }) k) (handing u ws bs t) else Trapped shape_trap line (stand n t))
        go true fit = then_alike SameEntry A (unit_run q n u line (record s { store = here }) k) (unit_run q n u line (record t { store = there }) k) (handing u ws got s) (handing u ws bs t) (unit_alike fit line s t e k) handed
        go false fit = (refl, refl, stand_alike A n s t e)

-- ---- calls of a program's units, by their depth

module _ {C : Type 0} (units : List Procedure) (apart : (name : List ℕ) (u : Procedure) → find_unit units name ≡ Some u → AreApart u.dummies) where
  -- a call of a unit that was looked for
  found_depends : (q : Calls C) → CallsDepend (looked_at units) q → (name : List ℕ) (o : Option Procedure) → find_unit units name ≡ o → (A : Cells) (n : Setting C) (args : Terms) (line : ℕ) → Covers n A (λ x. reads_actuals x (looked_at units name) args) → (s t : Scene C) → AgreeOn A s t → (k : ℕ) → EndAlike A (call_in q n (handed_back units name) o args line s k) (call_in q n (handed_back units name) o args line t k)
  found_depends q ih name None f A n args line c s t e k = (refl, refl, stand_alike A n s t e)
  found_depends q ih name (Some u) f A n args line c s t e k =
      let flags : looked_at units name ≡ map (read_rule (looked_at units) u) u.dummies = least_row read_rule read_rises units name u f in
      results_alike A (AllMatch A (map (read_rule (looked_at units) u) u.dummies)) (actuals n args s.store) (actuals n args t.store) line (stand_alike A n s t e) _ _
      (actuals_match n A s.store t.store e.store (map (read_rule (looked_at units) u) u.dummies) args (λ x r. c x (ap (λ z. reads_actuals x z args) flags ∙ r)))
      (λ got bs m. call_matched (looked_at units) q ih A n u (apart name u f) got bs m (handed_back units name) line s t e k)

  -- calls at most `depth` within one another
  pub calls_depend : (depth : ℕ) → CallsDepend {C = C} (looked_at units) (calls_of units depth)
  calls_depend zero A n name args line c s t e k = stand_alike A n s t e
  calls_depend (suc depth) A n name args line c s t e k = found_depends (calls_of units depth) (calls_depend depth) name (find_unit units name) refl A n args line c s t e k

-- a list depends on no cells but those of what it reads
pub depends_on_reads : {C : Type 0} → DependsOnReads C
depends_on_reads units apart depth n c inside covered s t e k =
    run_alike (looked_at units) (calls_of units depth) (calls_depend units apart depth) n (λ x i. IsTrue (inside x i)) c covered s t e k
