-- After a call in the kernel: the elements that were passed by locals are put back.
use Rattle.std.proofs.Common.{◌≡◌, ℕ, ◌+◌, ◌<◌, ◌≤◌, ◌⊎◌, inl, inr, Bool, true, false, List, [], ◌∷◌, refl, sym, ap, ◌∙◌, arith, subst}
use Rattle.std.specs.Prelude.{length, ◌==◌, ◌&&◌, ◌||◌, Ok, if◌then◌else◌}
use Rattle.adj_tree.specs.Code.{Var, plain, var_eq, var, Terms, none, more, assign, stop, Declaration, Procedure}
use Rattle.def_meaning.specs.Append.{one}
use Rattle.def_meaning.specs.Trap.{then_ok}
use Rattle.def_meaning.specs.Store.{Shape, scalar, size_of, Store, set}
use Rattle.def_meaning.specs.Value.{Setting, target}
use Rattle.def_meaning.specs.Scene.{Scene}
use Rattle.def_meaning.specs.Run.{Calls}
use Rattle.def_meaning.specs.Written.{is_handed_back}
use Rattle.def_meaning.specs.Units.{Place, whole, cell, nowhere, Actual, actual_of, actuals, shape_of, extents_of, declared, dummies_fit, shape_fits}
use Rattle.def_meaning.proofs.Booleans.{and_true}
use Rattle.def_meaning.proofs.Variables.{var_refl}
use Rattle.def_meaning.proofs.Cells.{size_positive}
use Rattle.law_meaning.proofs.Inversions.{then_ok_is}
use Rattle.law_meaning.proofs.Frames.{is_in, place_in}
use Rattle.law_meaning.proofs.Leadings.{with_store}
use Rattle.def_kernel.specs.Lowered.{locals_in, locals_in_all, length_of, first_flag, other_flags, reduced, reduced_all, held, is_among, Passing, stays, put_back, by_value, passing, locals_passing, passed, after_passing, after_passing_all, locals_passing_all}
use Rattle.law_kernel.specs.Apart.{ShowWords, AreLocals, TermsInside}
use Rattle.def_kernel.specs.Calls.{is_name_of, is_scalar, AreHandedApart, ScalarsToScalars}
use Rattle.law_meaning.proofs.Bounded.{Goes, goes_stop, goes_append, goes_more, goes_assign}
use Rattle.law_kernel.proofs.Changing.{Range, not_local, other_local}
use Rattle.law_kernel.proofs.Targeting.{rest_inside}
use Rattle.law_kernel.proofs.Passings.{IsBelow, Back, NotBack}
use Rattle.law_kernel.proofs.Actuals.{AllMatch, passed_inside}
use Rattle.law_kernel.proofs.HandingBack.{goes_into, put_if, put_cells, StandsFor, AllStand}
use Rattle.law_kernel.proofs.Entries.{names_passed, AllEqual, size_same}
use Rattle.law_kernel.proofs.Names.{AreBelow, name_is, apart_below, not_again, not_named}

-- what is handed back goes where the actuals are
pub handed_places : {C : Type 0} (n : Setting C) (x : Var) (ws : List Bool) (es : Terms) (s : Store C) (got : List (Actual C)) → actuals n es s ≡ Ok got → goes_into x ws got ≡ is_handed_back x ws es
handed_places n x [] es s got h = refl
handed_places n x (w ∷ ws) none s [] h = refl
handed_places n x (w ∷ ws) none s (a ∷ got) h = absurd (let e : Ok [] ≡ Ok (a ∷ got) = h in cc)
handed_places n x (w ∷ ws) (more e es) s [] h =
    let v = then_ok_is (actual_of n e s) (λ a. then_ok (actuals n es s) (λ got. Ok (a ∷ got))) [] h in
    let vs = then_ok_is (actuals n es s) (λ got. Ok (v.value ∷ got)) [] v.goes in
    absurd (let e : Ok (v.value ∷ vs.value) ≡ Ok [] = vs.goes in cc)
handed_places n x (w ∷ ws) (more e es) s (a ∷ got) h =
    let v = then_ok_is (actual_of n e s) (λ a. then_ok (actuals n es s) (λ got. Ok (a ∷ got))) (a ∷ got) h in
    let vs = then_ok_is (actuals n es s) (λ got. Ok (v.value ∷ got)) (a ∷ got) v.goes in
    let first : v.value ≡ a = cc in
    let others : vs.value ≡ got = cc in
    λ i. (w && (ap (λ (z : Actual _). is_in x z.place) (sym first) ∙ place_in n x e s v.value v.is) i) || handed_places n x ws es s got (vs.is ∙ ap Ok others) i

-- one flag for each dummy
abbrev pub OneEach : List (List ℕ) → List Bool → Type 0
OneEach [] [] = Unit {0}
OneEach [] (w ∷ ws) = ⊥
OneEach (d ∷ ds) [] = ⊥
OneEach (d ∷ ds) (w ∷ ws) = OneEach ds ws

-- each is a dummy
abbrev pub AreDummies : (List ℕ → Bool) → List (List ℕ) → Type 0
AreDummies dummy [] = Unit {0}
AreDummies dummy (d ∷ ds) = (dummy d ≡ true) × AreDummies dummy ds

module _ {C : Type 0} (q : Calls C) (n : Setting C) (inside : Var → Bool) (local : ℕ → Var) (apart : AreLocals inside local) (shows : ShowWords n.numbers) (scalars : (k : ℕ) → n.shape (local k) ≡ scalar) (base : Scene C) (line : ℕ) where
  abbrev at : Store C → Scene C
  at t = with_store base t

  abbrev Matching : List Bool → ℕ → List Var → Terms → List (Actual C) → Store C → Type 0
  Matching = AllMatch n inside local

  -- ---- the locals that hold subscripts of elements that are put back

  abbrev HeldHere : ℕ → Passing → ℕ → Type 0
  HeldHere k (stays y) j = ⊥
  HeldHere k (put_back x subs) j = Range j (length_of subs + locals_in_all subs) k
  HeldHere k (by_value e) j = ⊥

  abbrev pub HeldIn : ℕ → ℕ → List Bool → List Var → Terms → Type 0
  HeldIn k j ws earlier none = ⊥
  HeldIn k j ws earlier (more e es) =
      HeldHere k (passing (first_flag ws) earlier e) j ⊎ HeldIn k (j + locals_passing (passing (first_flag ws) earlier e)) (other_flags ws) (passed local j (passing (first_flag ws) earlier e) ∷ earlier) es

  here_range : (k j : ℕ) (p : Passing) → HeldHere k p j → (j ≤ k) × (k < j + locals_passing p)
  here_range k j (stays y) h = absurd h
  here_range k j (put_back x subs) h = (h.0, omega (arith, h.1))
  here_range k j (by_value e) h = absurd h

  held_from : (k j : ℕ) (ws : List Bool) (earlier : List Var) (es : Terms) → HeldIn k j ws earlier es → j ≤ k
  held_from k j ws earlier none h = absurd h
  held_from k j ws earlier (more e es) (inl h) = (here_range k j (passing (first_flag ws) earlier e) h).0
  held_from k j ws earlier (more e es) (inr h) = let l = held_from k (j + locals_passing (passing (first_flag ws) earlier e)) (other_flags ws) (passed local j (passing (first_flag ws) earlier e) ∷ earlier) es h in omega (arith, l)

  both_false : (a b : Bool) → a ≡ false → b ≡ false → (a || b) ≡ false
  both_false a b e f = ap (λ z. z || b) e ∙ f

  -- they aren't the name of that actual
  held_here_apart : (k j : ℕ) (p : Passing) → HeldHere k p j → var_eq (local k) (passed local j p) ≡ false
  held_here_apart k j (stays y) h = absurd h
  held_here_apart k j (put_back x subs) h = other_local inside local apart k (j + (length_of subs + locals_in_all subs)) (λ e. absurd (omega (arith, e, h.1)))
  held_here_apart k j (by_value e) h = absurd h

  -- so they stand among none of the names
  pub held_apart : (k m j : ℕ) (ws : List Bool) (earlier : List Var) (es : Terms) → AreBelow inside local apart m es → m ≤ j → HeldIn k j ws earlier es → is_among (local k) (names_passed local j ws earlier es) ≡ false
  held_apart k m j ws earlier none b le h = refl
  held_apart k m j ws earlier (more e es) b le (inl h) =
      let p = passing (first_flag ws) earlier e in
      let r = here_range k j p h in
      both_false (var_eq (local k) (passed local j p)) _ (held_here_apart k j p h)
      (not_named inside local apart k m es (other_flags ws) (passed local j p ∷ earlier) (j + locals_passing p) b.1 (omega (arith, le, r.0)) r.1)
  held_apart k m j ws earlier (more e es) b le (inr h) =
      let p = passing (first_flag ws) earlier e in
      let l = held_from k (j + locals_passing p) (other_flags ws) (passed local j p ∷ earlier) es h in
      both_false (var_eq (local k) (passed local j p)) _
      (name_is inside local apart (local k) (first_flag ws) earlier j e (λ x f n. apart_below inside local apart k m x (omega (arith, le, l)) (b.0 x f)) (λ i r. other_local inside local apart k i (λ z. absurd (omega (arith, z, l, r.1)))))
      (held_apart k m (j + locals_passing p) (other_flags ws) (passed local j p ∷ earlier) es b.1 (omega (arith, le)) h)

  -- ---- the assignments after the call

  -- one of them, or none
  put_one : (w : Bool) (pl : Place) (j : ℕ) (p : Passing) (t k : Store C) → (w ≡ true → Back n inside local pl j p t) → (w ≡ false → NotBack n inside local p) → ((i : ℕ) → HeldHere i p j → k (local i) 0 ≡ t (local i) 0) → Goes q n (after_passing local line j p) (at k) (at (put_if w pl (passed local j p) k)) (locals_passing p)
  put_one false pl j (stays y) t k b f h = goes_stop q n (at k)
  put_one false pl j (put_back y subs) t k b f h = absurd (f refl)
  put_one false pl j (by_value e) t k b f h = goes_more q n stop (at k) (at k) 0 1 (omega arith) (goes_stop q n (at k))
  put_one true (whole x) j (stays y) t k b f h = goes_stop q n (at k)
  put_one true (whole x) j (put_back y subs) t k b f h = absurd (b refl)
  put_one true (whole x) j (by_value e) t k b f h = absurd (b refl)
  put_one true (cell x i) j (stays y) t k b f h = absurd (b refl)
  put_one true (cell x i) j (put_back y subs) t k b f h =
      let m = j + (length_of subs + locals_in_all subs) in
      let k1 = set k x i (k (local m) 0) in
      subst (λ z. Goes q n (one line (assign z (held local j subs) (var (local m)))) (at k) (at k1) (length_of subs + locals_in_all subs + 1)) (sym (b refl).0)
      (goes_more q n _ (at k) (at k1) 1 (length_of subs + locals_in_all subs + 1) (omega arith)
      (goes_assign q n line x (held local j subs) (var (local m)) stop (at k) (at k1) (k (local m) 0) i 0 refl
      (subst (λ z. target n z (held local j subs) k ≡ Ok i) (b refl).0 ((b refl).1.1 k h)) (goes_stop q n (at k1))))
  put_one true (cell x i) j (by_value e) t k b f h = absurd (b refl)
  put_one true nowhere j (stays y) t k b f h = goes_stop q n (at k)
  put_one true nowhere j (put_back y subs) t k b f h = absurd (b refl)
  put_one true nowhere j (by_value e) t k b f h = goes_more q n stop (at k) (at k) 0 1 (omega arith) (goes_stop q n (at k))

  -- what is put back changes no local
  put_keeps : (w : Bool) (pl : Place) (j : ℕ) (p : Passing) (t k : Store C) → (w ≡ true → Back n inside local pl j p t) → (i : ℕ) → put_if w pl (passed local j p) k (local i) 0 ≡ k (local i) 0
  put_keeps false pl j p t k b i = refl
  put_keeps true (whole x) j p t k b i = refl
  put_keeps true (cell x c) j (stays y) t k b i = absurd (b refl)
  put_keeps true (cell x c) j (put_back y subs) t k b i = ap (λ z. if z && (0 == c) then k (passed local j (put_back y subs)) 0 else k (local i) 0) (apart_below inside local apart i 0 x (omega arith) (inl (b refl).1.0))
  put_keeps true (cell x c) j (by_value e) t k b i = absurd (b refl)
  put_keeps true nowhere j p t k b i = refl

  -- the statements after a CALL put elements back
  pub puts_back : (ws : List Bool) (j : ℕ) (earlier : List Var) (es : Terms) (got : List (Actual C)) (t k : Store C) → Matching ws j earlier es got t → ((i : ℕ) → HeldIn i j ws earlier es → k (local i) 0 ≡ t (local i) 0) →
      Goes q n (after_passing_all local line j ws earlier es) (at k) (at (put_cells ws got (names_passed local j ws earlier es) k)) (locals_passing_all local j ws earlier es)
  puts_back [] j earlier none [] t k m h = goes_stop q n (at k)
  puts_back (w ∷ ws) j earlier none [] t k m h = goes_stop q n (at k)
  puts_back ws j earlier none (a ∷ got) t k m h = absurd m
  puts_back ws j earlier (more e es) [] t k m h = absurd m
  puts_back [] j earlier (more e es) (a ∷ got) t k m h =
      let p = passing false earlier e in
      let first = put_one false a.place j p t k m.0.back m.0.forth (λ i r. h i (inl r)) in
      let others = puts_back [] (j + locals_passing p) (passed local j p ∷ earlier) es got t k m.1 (λ i r. h i (inr r)) in
      goes_append q n (after_passing local line j p) _ (at k) (at k) (at k) (locals_passing p) (locals_passing_all local (j + locals_passing p) [] (passed local j p ∷ earlier) es) first others
  puts_back (w ∷ ws) j earlier (more e es) (a ∷ got) t k m h =
      let p = passing w earlier e in
      let k1 = put_if w a.place (passed local j p) k in
      let first = put_one w a.place j p t k m.0.back m.0.forth (λ i r. h i (inl r)) in
      let others = puts_back ws (j + locals_passing p) (passed local j p ∷ earlier) es got t k1 m.1 (λ i r. put_keeps w a.place j p t k m.0.back i ∙ h i (inr r)) in
      goes_append q n (after_passing local line j p) _ (at k) (at k1) (at (put_cells ws got (names_passed local (j + locals_passing p) ws (passed local j p ∷ earlier) es) k1)) (locals_passing p) (locals_passing_all local (j + locals_passing p) ws (passed local j p ∷ earlier) es) first others

  -- ---- the names and the places

  -- actuals that match have equal cells
  pub matched_cells : (ws : List Bool) (j : ℕ) (earlier : List Var) (es : Terms) (got : List (Actual C)) (t : Store C) → Matching ws j earlier es got t → AllEqual n t got (names_passed local j ws earlier es)
  matched_cells ws j earlier none [] t m = tt
  matched_cells ws j earlier none (a ∷ got) t m = absurd m
  matched_cells ws j earlier (more e es) [] t m = absurd m
  matched_cells ws j earlier (more e es) (a ∷ got) t m =
      let p = passing (first_flag ws) earlier e in
      ((m.0.shape, m.0.cells), matched_cells (other_flags ws) (j + locals_passing p) (passed local j p ∷ earlier) es got t m.1)

  -- what comes later isn't the name
  no_later : (y : Var) (m : ℕ) → (inside y ≡ true) ⊎ IsBelow local y m → (k : ℕ) → m ≤ k → var_eq y (local k) ≡ false
  no_later y m (inl h) k le = not_local inside local apart y k h
  no_later y m (inr b) k le = ap (λ z. var_eq z (local k)) b.is ∙ other_local inside local apart b.number k (λ e. absurd (omega (arith, e, b.less, le)))

  module _ (u : Procedure) (calling : List Declaration) (flat : (x : Var) → is_scalar calling x ≡ true → n.shape x ≡ scalar) (dummy : List ℕ → Bool) (here s t u1 v1 : Store C) (same : (d : List ℕ) → dummy d ≡ true → (i : ℕ) → i < size_of (shape_of (extents_of n.numbers u here (plain d))) → u1 (plain d) i ≡ v1 (plain d) i) where
    -- the name stands for the place
    stands : (d : List ℕ) → dummy d ≡ true → (pl : Place) (sh : Shape) (j : ℕ) (p : Passing) → Back n inside local pl j p t → sh ≡ n.shape (passed local j p) → (length (declared u.declarations (plain d)) == 0 || shape_fits (extents_of n.numbers u here (plain d)) sh) ≡ true → (inside (passed local j p) ≡ true → is_scalar u.declarations (plain d) ≡ true → n.shape (passed local j p) ≡ scalar) → StandsFor n inside t u1 v1 pl (passed local j p) d
    stands d hd (whole x) sh j (stays y) b e f g = (
      b.0,
      (
        b.1,
        λ i l.
            let le = size_same n.numbers u here (plain d) sh f (λ o. e ∙ g (ap inside b.0 ∙ b.1) o) in
            let small : i < size_of sh = subst (λ z. i < size_of z) (ap n.shape (sym b.0) ∙ sym e) l in
            same d hd i (omega (arith, le, small)),
      ),
    )
    stands d hd (whole x) sh j (put_back y subs) b e f g = absurd b
    stands d hd (whole x) sh j (by_value z) b e f g = absurd b
    stands d hd (cell x i) sh j (stays y) b e f g = absurd b
    stands d hd (cell x i) sh j (put_back y subs) b e f g = (apart.outside (j + (length_of subs + locals_in_all subs)), (b.1.0, same d hd 0 (size_positive (shape_of (extents_of n.numbers u here (plain d))))))
    stands d hd (cell x i) sh j (by_value z) b e f g = absurd b
    stands d hd nowhere sh j (stays y) b e f g = b
    stands d hd nowhere sh j (put_back y subs) b e f g = absurd b
    stands d hd nowhere sh j (by_value z) b e f g = apart.outside j

    -- what is known of all dummies at the return
    pub all_stand : (ds : List (List ℕ)) (ws : List Bool) (i j : ℕ) (earlier : List Var) (es : Terms) (got : List (Actual C)) → AreDummies dummy ds → OneEach ds ws → TermsInside inside es → actuals n es s ≡ Ok got → Matching ws j earlier (reduced_all local i es) got t → AreHandedApart ws es → ScalarsToScalars u.declarations calling ds ws es → dummies_fit n.numbers u here ds got ≡ true →
        AllStand n inside t u1 v1 ds ws got (names_passed local j ws earlier (reduced_all local i es))
    all_stand [] [] i j earlier es got hd o h a m z c f = tt
    all_stand [] (w ∷ ws) i j earlier es got hd o h a m z c f = absurd o
    all_stand (d ∷ ds) [] i j earlier es got hd o h a m z c f = tt
    all_stand (d ∷ ds) (w ∷ ws) i j earlier none [] hd o h a m z c f = tt
    all_stand (d ∷ ds) (w ∷ ws) i j earlier none (b ∷ got) hd o h a m z c f = absurd m
    all_stand (d ∷ ds) (w ∷ ws) i j earlier (more e es) [] hd o h a m z c f = absurd m
    all_stand (d ∷ ds) (w ∷ ws) i j earlier (more e es) (b ∷ got) hd o h a m z c f =
        let p = passing w earlier (reduced local i e) in
        let y = passed local j p in
        let parts = and_true (length (declared u.declarations (plain d)) == 0 || shape_fits (extents_of n.numbers u here (plain d)) b.shape) (dummies_fit n.numbers u here ds got) f in
        let v = then_ok_is (actual_of n e s) (λ a. then_ok (actuals n es s) (λ got. Ok (a ∷ got))) (b ∷ got) a in
        let vs = then_ok_is (actuals n es s) (λ got. Ok (v.value ∷ got)) (b ∷ got) v.goes in
        let first : v.value ≡ b = cc in
        let others : vs.value ≡ got = cc in (
          λ r. stands d hd.0 b.place b.shape j p (m.0.back r) m.0.shape parts.0 (λ l k. let n1 = passed_inside q n inside local apart shows scalars base line w earlier i j e l in flat y (c.0 y r (ap (is_name_of y) n1 ∙ var_refl y) k)),
          (
            not_again inside local apart y (reduced_all local (i + locals_in e) es) ws (y ∷ earlier) (j + locals_passing p) (ap (λ z. z || is_among y earlier) (var_refl y)) (no_later y (j + locals_passing p) m.0.known),
            (
              (λ x hx r l. handed_places n x ws es s got (vs.is ∙ ap Ok others) ∙ z.0 x (sym (ap (λ (z : Actual _). is_in x z.place) (sym first) ∙ place_in n x e s v.value v.is) ∙ l)),
              all_stand ds ws (i + locals_in e) (j + locals_passing p) (y ∷ earlier) es got hd.1 o (rest_inside inside e es h) (vs.is ∙ ap Ok others) m.1 z.1 c.1 parts.1,
            ),
          ),
        )
