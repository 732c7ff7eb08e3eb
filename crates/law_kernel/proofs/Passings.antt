-- One actual of a call, and the name that it becomes.
use Rattle.std.proofs.Common.{◌≡◌, ℕ, ◌+◌, ◌*◌, ◌<◌, ◌≤◌, ◌⊎◌, inl, inr, Bool, true, false, List, [], refl, sym, ap, ◌∙◌, arith, subst, mul-add}
use Rattle.std.specs.Prelude.{ℤ, Result, Ok, Err}
use Rattle.adj_tree.specs.Code.{Var, var_eq, Term, var, elem, Terms, none, more, assign, Code, stop}
use Rattle.def_meaning.specs.Append.{one}
use Rattle.def_meaning.specs.Trap.{Trap, then_ok}
use Rattle.def_meaning.specs.Store.{scalar, size_of, Store, set}
use Rattle.def_meaning.specs.Value.{Setting, value, values, target, cell_at}
use Rattle.def_meaning.specs.Scene.{Scene}
use Rattle.def_meaning.specs.Run.{Calls}
use Rattle.law_meaning.specs.Leads.{Leads}
use Rattle.def_meaning.specs.Units.{Place, whole, cell, nowhere, Actual, one_word, actual_of}
use Rattle.def_meaning.specs.Read.{reads_terms}
use Rattle.def_meaning.proofs.Booleans.{or_first, or_second}
use Rattle.def_meaning.proofs.Variables.{var_refl}
use Rattle.law_meaning.proofs.Leadings.{with_store}
use Rattle.law_meaning.proofs.Agreements.{StoresAgree, cell_bound}
use Rattle.def_kernel.specs.Lowered.{locals_in, locals_in_all, length_of, reduced, held, before_held, is_among, Passing, stays, put_back, by_value, passing, passing_name, passing_element, locals_passing, passed, before_passing}
use Rattle.law_kernel.specs.Apart.{ShowWords, AreLocals, CellsOf, TermInside, TermsInside}
use Rattle.law_meaning.proofs.Straights.{Stops, stops_first, stops_after, stops_value}
use Rattle.law_meaning.proofs.Bounded.{Goes, leads_of, goes_stop, goes_append, goes_more, goes_assign}
use Rattle.law_kernel.proofs.Changing.{SameOrNone, Range, Changes, changes_none, changes_both, set_changes, set_holds}
use Rattle.law_kernel.proofs.Sorts.{IsValue, Sort, name, element, chosen, other, sort, held_same, Held, are_held, not_held, holds_subscripts}

-- a local with a number below m
pub record IsBelow (local : ℕ → Var) (y : Var) (m : ℕ) : Type 0 where
  pub number : ℕ
  pub is : y ≡ local number
  pub less : number < m

module _ {C : Type 0} (n : Setting C) (inside : Var → Bool) (local : ℕ → Var) where
  -- where the dummy of an actual that is passed so is handed back to, in a store before the call
  abbrev pub Back : Place → ℕ → Passing → Store C → Type 0
  Back (whole x) j (stays y) t = (y ≡ x) × (inside x ≡ true)
  Back (whole x) j (put_back y subs) t = ⊥
  Back (whole x) j (by_value e) t = ⊥
  Back (cell x i) j (stays y) t = ⊥
  Back (cell x i) j (put_back y subs) t = (y ≡ x) × ((inside x ≡ true) × ((r : Store C) → ((k : ℕ) → Range j (length_of subs + locals_in_all subs) k → r (local k) 0 ≡ t (local k) 0) → target n y (held local j subs) r ≡ Ok i))
  Back (cell x i) j (by_value e) t = ⊥
  Back nowhere j (stays y) t = inside y ≡ false
  Back nowhere j (put_back y subs) t = ⊥
  Back nowhere j (by_value e) t = Unit {0}

  -- nothing comes after the call for it
  abbrev pub NotBack : Passing → Type 0
  NotBack (stays y) = Unit {0}
  NotBack (put_back y subs) = ⊥
  NotBack (by_value e) = Unit {0}

  -- an actual and the name that it became
  pub record Match (w : Bool) (a : Actual C) (j : ℕ) (p : Passing) (t : Store C) : Type 0 where
    pub shape : a.shape ≡ n.shape (passed local j p)
    pub cells : (i : ℕ) → i < size_of a.shape → a.cells i ≡ t (passed local j p) i
    pub known : (inside (passed local j p) ≡ true) ⊎ IsBelow local (passed local j p) (j + locals_passing p)
    pub back : w ≡ true → Back a.place j p t
    pub forth : w ≡ false → NotBack p

  -- they match where only later locals change
  later_known : (j j' m : ℕ) (y : Var) (t t1 : Store C) → j ≤ j' → (inside y ≡ true) ⊎ IsBelow local y j → Changes inside local (Range j' m) t t1 → (i : ℕ) → t1 y i ≡ t y i
  later_known j j' m y t t1 le (inl h) c i = c.within y i h
  later_known j j' m y t t1 le (inr b) c i = ap (λ z. t1 z i) b.is ∙ c.others b.number i (λ r. absurd (omega (arith, r.0, b.less))) ∙ ap (λ z. t z i) (sym b.is)

  later_back : (p : Place) (j j' m : ℕ) (g : Passing) (t t1 : Store C) → j + locals_passing g ≤ j' → Changes inside local (Range j' m) t t1 → Back p j g t → Back p j g t1
  later_back (whole x) j j' m (stays y) t t1 le c b = b
  later_back (whole x) j j' m (put_back y subs) t t1 le c b = b
  later_back (whole x) j j' m (by_value e) t t1 le c b = b
  later_back (cell x i) j j' m (stays y) t t1 le c b = b
  later_back (cell x i) j j' m (put_back y subs) t t1 le c b =
      (b.0, (b.1.0, λ r h. b.1.1 r (λ k z. h k z ∙ c.others k 0 (λ o. absurd (omega (arith, z.1, o.0))))))
  later_back (cell x i) j j' m (by_value e) t t1 le c b = b
  later_back nowhere j j' m (stays y) t t1 le c b = b
  later_back nowhere j j' m (put_back y subs) t t1 le c b = b
  later_back nowhere j j' m (by_value e) t t1 le c b = b

  pub match_later : (w : Bool) (a : Actual C) (j : ℕ) (p : Passing) (t t1 : Store C) (j' m : ℕ) → j + locals_passing p ≤ j' → Changes inside local (Range j' m) t t1 → Match w a j p t → Match w a j p t1
  match_later w a j p t t1 j' m le c h = record {
    shape = h.shape;
    cells = λ i l. h.cells i l ∙ sym (later_known (j + locals_passing p) j' m (passed local j p) t t1 le h.known c i);
    known = h.known;
    back = λ e. later_back a.place j j' m p t t1 le c (h.back e);
    forth = h.forth;
  }

module _ {C : Type 0} (q : Calls C) (n : Setting C) (inside : Var → Bool) (local : ℕ → Var) (apart : AreLocals inside local) (shows : ShowWords n.numbers) (scalars : (k : ℕ) → n.shape (local k) ≡ scalar) (base : Scene C) (line : ℕ) where
  abbrev at : Store C → Scene C
  at t = with_store base t

  abbrev Agree : Store C → Store C → Type 0
  Agree s t = StoresAgree (CellsOf n inside) s t

  -- what is known of an actual before it is passed: i locals are taken before those in it, and j in all; `earlier` are the names that stand earlier
  pub record Ready (w : Bool) (earlier : List Var) (i j : ℕ) (e : Term) (s t : Store C) : Type 0 where
    pub within : TermInside inside e
    pub same : SameOrNone (value n e s) (value n (reduced local i e) t)
    pub below : i + locals_in e ≤ j
    -- a name of a dummy that is written doesn't stand earlier
    pub once : (x : Var) → e ≡ var x → w ≡ true → is_among x earlier ≡ false
    -- a name that does is a scalar
    pub flat : (x : Var) → e ≡ var x → is_among x earlier ≡ true → n.shape x ≡ scalar

  -- the statements before the call lead to a store in which the name matches the actual, or they trap where there is no actual
  pub data Passed (w : Bool) (j : ℕ) (p : Passing) (e : Term) (s t : Store C) : Type 0 where
    passes : (t1 : Store C) → Goes q n (before_passing local line j p) (at t) (at t1) (3 * locals_passing p) → Changes inside local (Range j (locals_passing p)) t t1 → (a : Actual C) → actual_of n e s ≡ Ok a → Match n inside local w a j p t1 → Passed w j p e s t
    fails : (k : Trap) → actual_of n e s ≡ Err k → Stops q n (before_passing local line j p) (at t) line → Passed w j p e s t

  -- a value goes into a local
  with_value_of : (w : Bool) (j : ℕ) (e e' : Term) (s t : Store C) (u : C) (a : Actual C) → value n e' t ≡ Ok u → actual_of n e s ≡ Ok a → a.shape ≡ scalar → a.cells 0 ≡ u → (w ≡ true → a.place ≡ nowhere) → Passed w j (by_value e') e s t
  with_value_of w j e e' s t u a h g flat first back =
      let t1 = set t (local j) 0 u in
      passes t1
      (goes_more q n _ (at t) (at t1) 1 3 (omega arith) (goes_assign q n line (local j) none e' stop (at t) (at t1) u 0 0 h refl (goes_stop q n (at t1))))
      (set_changes inside local apart t j u) a g
      (record {
        shape = flat ∙ sym (scalars j);
        cells = λ i l. let z : i ≡ 0 = omega (arith, subst (λ z. i < size_of z) flat l) in ap a.cells z ∙ first ∙ sym (set_holds inside local apart t j u) ∙ ap (λ k. t1 (local j) k) (sym z);
        known = inr (record { number = j; is = refl; less = omega arith });
        back = λ r. subst (λ z. Back n inside local z j (by_value e') t1) (sym (back r)) tt;
        forth = λ r. tt;
      })

  without_value : (w : Bool) (j : ℕ) (e e' : Term) (s t : Store C) (k k1 : Trap) → value n e' t ≡ Err k1 → actual_of n e s ≡ Err k → Passed w j (by_value e') e s t
  without_value w j e e' s t k k1 h g = fails k g (stops_value q n line (local j) none e' stop (at t) k1 h)

  -- ---- by the sort of the actual

  module _ (w : Bool) (earlier : List Var) (i j : ℕ) (s t : Store C) (agree : Agree s t) where
    pass_name : (x : Var) → Ready w earlier i j (var x) s t → Passed w j (passing w earlier (var x)) (var x) s t
    pass_name x r = go (is_among x earlier) refl
      where
        here : inside x ≡ true
        here = r.within x (var_refl x)

        go : (b : Bool) → is_among x earlier ≡ b → Passed w j (passing_name b x) (var x) s t
        go false h =
            passes t (goes_stop q n (at t)) (changes_none inside local (Range j 0) t) (record { shape = n.shape x; cells = s x; place = whole x }) refl
            (record { shape = refl; cells = λ k l. agree x k (here, l); known = inl here; back = λ o. (refl, here); forth = λ o. tt })
        go true h =
            with_value_of w j (var x) (var x) s t (t x 0) (record { shape = n.shape x; cells = s x; place = whole x }) refl refl (r.flat x refl h)
            (agree x 0 (here, subst (λ z. 0 < size_of z) (sym (r.flat x refl h)) (omega arith)))
            (λ o. absurd (let e : true ≡ false = sym h ∙ r.once x refl o in cc))

    -- a value
    pass_value : (e e' : Term) → IsValue C e → (v v1 : Result C Trap) → value n e s ≡ v → value n e' t ≡ v1 → SameOrNone v v1 → Passed w j (by_value e') e s t
    pass_value e e' is (Ok u) (Ok u1) h h1 same =
        with_value_of w j e e' s t u1 (one_word u nowhere) h1 (is n s ∙ ap (λ z. then_ok z (λ c. Ok (one_word c nowhere))) h) refl same (λ o. refl)
    pass_value e e' is (Ok u) (Err k1) h h1 same = absurd same
    pass_value e e' is (Err k) (Ok u1) h h1 same = absurd same
    pass_value e e' is (Err k) (Err k1) h h1 same = without_value w j e e' s t k k1 h1 (is n s ∙ ap (λ z. then_ok z (λ c. Ok (one_word c nowhere))) h)

    pass_other : (e : Term) → Ready w earlier i j e s t → ((w : Bool) (earlier : List Var) → passing w earlier (reduced local i e) ≡ by_value (reduced local i e)) → IsValue C e → Passed w j (passing w earlier (reduced local i e)) e s t
    pass_other e r f is = subst (λ p. Passed w j p e s t) (sym (f w earlier)) (pass_value e (reduced local i e) is (value n e s) (value n (reduced local i e) t) refl refl r.same)

    -- a value that is in a local already
    pass_chosen : (e : Term) → Ready w earlier i j e s t → (l : ℕ) → l < i + locals_in e → reduced local i e ≡ var (local l) → IsValue C e → Passed w j (passing w earlier (reduced local i e)) e s t
    pass_chosen e r l lt f is = subst (λ z. Passed w j (passing w earlier z) e s t) (sym f) (go (is_among (local l) earlier))
      where
        same : SameOrNone (value n e s) (Ok (t (local l) 0))
        same = subst (λ z. SameOrNone (value n e s) (value n z t)) f r.same

        stay : (v : Result C Trap) → value n e s ≡ v → SameOrNone v (Ok (t (local l) 0)) → Passed w j (stays (local l)) e s t
        stay (Ok u) h g =
            passes t (goes_stop q n (at t)) (changes_none inside local (Range j 0) t) (one_word u nowhere) (is n s ∙ ap (λ z. then_ok z (λ c. Ok (one_word c nowhere))) h)
            (record {
              shape = sym (scalars l);
              cells = λ k o. let z : k ≡ 0 = omega (arith, o) in g ∙ ap (λ m. t (local l) m) (sym z);
              known = inr (record { number = l; is = refl; less = omega (arith, lt, r.below) });
              back = λ o. apart.outside l;
              forth = λ o. tt;
            })
        stay (Err k) h g = absurd g

        go : (b : Bool) → Passed w j (passing_name b (local l)) e s t
        go false = stay (value n e s) refl same
        go true = pass_value e (var (local l)) is (value n e s) (Ok (t (local l) 0)) refl refl same

    -- ---- elements

    module _ (x : Var) (subs : Terms) (r : Ready w earlier i j (elem x subs) s t) where
      here : inside x ≡ true
      here = r.within x (or_first (var_eq x x) (reads_terms x subs) (var_refl x))

      subs_inside : TermsInside inside subs
      subs_inside y h = r.within y (or_second (var_eq y x) (reads_terms y subs) h)

      no_subscripts : (k : Trap) → values n subs s ≡ Err k → actual_of n (elem x subs) s ≡ Err k
      no_subscripts k h = ap (λ z. then_ok z (λ is. then_ok (cell_at n x is) (λ i. Ok (one_word (s x i) (cell x i))))) h

      no_cell : (is : List ℤ) (k : Trap) → values n subs s ≡ Ok is → cell_at n x is ≡ Err k → actual_of n (elem x subs) s ≡ Err k
      no_cell is k h g = ap (λ z. then_ok z (λ is. then_ok (cell_at n x is) (λ i. Ok (one_word (s x i) (cell x i))))) h ∙ ap (λ z. then_ok z (λ i. Ok (one_word (s x i) (cell x i)))) g

      the_actual : (is : List ℤ) (o : ℕ) → values n subs s ≡ Ok is → cell_at n x is ≡ Ok o → actual_of n (elem x subs) s ≡ Ok (one_word (s x o) (cell x o))
      the_actual is o h g = ap (λ z. then_ok z (λ is. then_ok (cell_at n x is) (λ i. Ok (one_word (s x i) (cell x i))))) h ∙ ap (λ z. then_ok z (λ i. Ok (one_word (s x i) (cell x i)))) g

      the_value : (is : List ℤ) (o : ℕ) → values n subs s ≡ Ok is → cell_at n x is ≡ Ok o → value n (elem x subs) s ≡ Ok (s x o)
      the_value is o h g = ap (λ z. then_ok z (λ is. then_ok (cell_at n x is) (λ i. Ok (s x i)))) h ∙ ap (λ z. then_ok z (λ i. Ok (s x i))) g

      -- the element's value has none where the actual has none
      no_value : (k : Trap) → actual_of n (elem x subs) s ≡ Err k → (v : Result (List ℤ) Trap) → values n subs s ≡ v → (c : (is : List ℤ) → Result ℕ Trap) → ((is : List ℤ) → cell_at n x is ≡ c is) → value n (elem x subs) s ≡ Err k
      no_value k h (Err k1) e c f =
          let same : Err k1 ≡ Err k = sym (no_subscripts k1 e) ∙ h in
          let z : k1 ≡ k = cc in ap (λ z. then_ok z (λ is. then_ok (cell_at n x is) (λ i. Ok (s x i)))) e ∙ ap Err z
      no_value k h (Ok is) e c f = go (c is) (f is)
        where
          go : (r1 : Result ℕ Trap) → cell_at n x is ≡ r1 → value n (elem x subs) s ≡ Err k
          go (Ok o) g = absurd (let z : Ok (one_word (s x o) (cell x o)) ≡ Err k = sym (the_actual is o e g) ∙ h in cc)
          go (Err k1) g =
              let same : Err k1 ≡ Err k = sym (no_cell is k1 e g) ∙ h in
              let z : k1 ≡ k = cc in ap (λ z. then_ok z (λ is. then_ok (cell_at n x is) (λ i. Ok (s x i)))) e ∙ ap (λ z. then_ok z (λ i. Ok (s x i))) g ∙ ap Err z

      -- for a dummy that isn't written it is passed by its value
      element_by_value : w ≡ false → Passed w j (by_value (elem x subs)) (elem x subs) s t
      element_by_value f = go (values n subs s) refl
        where
          with_cell : (is : List ℤ) (o : ℕ) → values n subs s ≡ Ok is → cell_at n x is ≡ Ok o → (v1 : Result C Trap) → value n (elem x subs) t ≡ v1 → SameOrNone (Ok (s x o)) v1 → Passed w j (by_value (elem x subs)) (elem x subs) s t
          with_cell is o h g (Ok u) e1 same = with_value_of w j (elem x subs) (elem x subs) s t u (one_word (s x o) (cell x o)) e1 (the_actual is o h g) refl same (λ z. absurd (let y : true ≡ false = sym z ∙ f in cc))
          with_cell is o h g (Err k) e1 same = absurd same

          without : (k : Trap) → actual_of n (elem x subs) s ≡ Err k → (v1 : Result C Trap) → value n (elem x subs) t ≡ v1 → SameOrNone (Err k) v1 → Passed w j (by_value (elem x subs)) (elem x subs) s t
          without k h (Ok u) e1 same = absurd same
          without k h (Err k1) e1 same = without_value w j (elem x subs) (elem x subs) s t k k1 e1 h

          cells_of : (is : List ℤ) → values n subs s ≡ Ok is → (c : Result ℕ Trap) → cell_at n x is ≡ c → Passed w j (by_value (elem x subs)) (elem x subs) s t
          cells_of is h (Ok o) g = with_cell is o h g (value n (elem x subs) t) refl (subst (λ z. SameOrNone z (value n (elem x subs) t)) (the_value is o h g) r.same)
          cells_of is h (Err k) g = without k (no_cell is k h g) (value n (elem x subs) t) refl (subst (λ z. SameOrNone z (value n (elem x subs) t)) (no_value k (no_cell is k h g) (values n subs s) refl (cell_at n x) (λ is. refl)) r.same)

          go : (v : Result (List ℤ) Trap) → values n subs s ≡ v → Passed w j (by_value (elem x subs)) (elem x subs) s t
          go (Ok is) h = cells_of is h (cell_at n x is) refl
          go (Err k) h = without k (no_subscripts k h) (value n (elem x subs) t) refl (subst (λ z. SameOrNone z (value n (elem x subs) t)) (no_value k (no_subscripts k h) (values n subs s) refl (cell_at n x) (λ is. refl)) r.same)

      -- for a dummy that is written its subscripts are held, and then its value
      abbrev last : ℕ
      last = j + (length_of subs + locals_in_all subs)

      abbrev holding : Code
      holding = before_held local line j subs

      abbrev taking : Code
      taking = one line (assign (local last) none (elem x (held local j subs)))

      put_held : w ≡ true → Held q n inside local apart shows base line j subs s t → Passed w j (put_back x subs) (elem x subs) s t
      put_held f (not_held k h y) = fails k (no_subscripts k h) (stops_first q n holding taking (at t) line y)
      put_held f (are_held t1 l c v) = go (values n subs s) (values n (held local j subs) t1) refl refl v
        where
          leads : Leads q n holding (at t) (at t1)
          leads = leads_of q n holding (at t) (at t1) (3 * (length_of subs + locals_in_all subs)) l

          found : (is : List ℤ) (o : ℕ) → values n subs s ≡ Ok is → values n (held local j subs) t1 ≡ Ok is → cell_at n x is ≡ Ok o → Passed w j (put_back x subs) (elem x subs) s t
          found is o h h1 g =
              let u = t1 x o in
              let t2 = set t1 (local last) 0 u in
              let c2 = set_changes inside local apart t1 last u in
              passes t2
              (goes_more q n _ (at t) (at t2) (3 * (length_of subs + locals_in_all subs) + 1) (3 * (length_of subs + locals_in_all subs + 1)) (omega (arith, mul-add 3 (length_of subs + locals_in_all subs) 1))
              (goes_append q n holding taking (at t) (at t1) (at t2) (3 * (length_of subs + locals_in_all subs)) 1 l
              (goes_assign q n line (local last) none (elem x (held local j subs)) stop (at t1) (at t2) u 0 0
              (ap (λ z. then_ok z (λ is. then_ok (cell_at n x is) (λ i. Ok (t1 x i)))) h1 ∙ ap (λ z. then_ok z (λ i. Ok (t1 x i))) g) refl (goes_stop q n (at t2)))))
              (changes_both inside local (Range j (length_of subs + locals_in_all subs + 1)) (Range j (length_of subs + locals_in_all subs)) (Range last 1) t t1 t2 c c2 (λ k z. (z.0, omega (arith, z.1))) (λ k z. (omega (arith, z.0), omega (arith, z.1))))
              (one_word (s x o) (cell x o)) (the_actual is o h g)
              (record {
                shape = sym (scalars last);
                cells = λ i1 lt. let z : i1 ≡ 0 = omega (arith, lt) in agree x o (here, cell_bound n x is o g) ∙ sym (c.within x o here) ∙ sym (set_holds inside local apart t1 last u) ∙ ap (λ m. t2 (local last) m) (sym z);
                known = inr (record { number = last; is = refl; less = omega arith });
                back = λ z. (refl, (here, λ r1 same. target_of subs r1 (held_same n local subs j t1 r1 (λ k a. same k a ∙ c2.others k 0 (λ m. absurd (omega (arith, a.1, m.0)))) ∙ h1) g));
                forth = λ z. absurd (let y : true ≡ false = sym f ∙ z in cc);
              })
            where
              target_of : (es : Terms) (r1 : Store C) → values n (held local j es) r1 ≡ Ok is → cell_at n x is ≡ Ok o → target n x (held local j es) r1 ≡ Ok o
              target_of none r1 e1 e2 = absurd (let z : is ≡ [] = cc in let y : cell_at n x [] ≡ Ok o = ap (cell_at n x) (sym z) ∙ e2 in cc)
              target_of (more e es) r1 e1 e2 = ap (λ z. then_ok z (cell_at n x)) e1 ∙ e2

          lost : (is : List ℤ) (k : Trap) → values n subs s ≡ Ok is → values n (held local j subs) t1 ≡ Ok is → cell_at n x is ≡ Err k → Passed w j (put_back x subs) (elem x subs) s t
          lost is k h h1 g =
              fails k (no_cell is k h g)
              (stops_after q n holding taking (at t) (at t1) line leads
              (stops_value q n line (local last) none (elem x (held local j subs)) stop (at t1) k
              (ap (λ z. then_ok z (λ is. then_ok (cell_at n x is) (λ i. Ok (t1 x i)))) h1 ∙ ap (λ z. then_ok z (λ i. Ok (t1 x i))) g)))

          cells_of : (is : List ℤ) → values n subs s ≡ Ok is → values n (held local j subs) t1 ≡ Ok is → (c : Result ℕ Trap) → cell_at n x is ≡ c → Passed w j (put_back x subs) (elem x subs) s t
          cells_of is h h1 (Ok o) g = found is o h h1 g
          cells_of is h h1 (Err k) g = lost is k h h1 g

          go : (v v1 : Result (List ℤ) Trap) → values n subs s ≡ v → values n (held local j subs) t1 ≡ v1 → SameOrNone v v1 → Passed w j (put_back x subs) (elem x subs) s t
          go (Ok is) (Ok is1) h h1 same = cells_of is h (h1 ∙ ap Ok (sym same)) (cell_at n x is) refl
          go (Ok is) (Err k) h h1 same = absurd same
          go (Err k) (Ok is1) h h1 same = absurd same
          go (Err k) (Err k1) h h1 same =
              fails k (no_subscripts k h)
              (stops_after q n holding taking (at t) (at t1) line leads
              (stops_value q n line (local last) none (elem x (held local j subs)) stop (at t1) k1 (ap (λ z. then_ok z (λ is. then_ok (cell_at n x is) (λ i. Ok (t1 x i)))) h1)))

      pass_element : Passed w j (passing w earlier (elem x subs)) (elem x subs) s t
      pass_element = go w refl
        where
          go : (b : Bool) → w ≡ b → Passed w j (passing_element w x subs) (elem x subs) s t
          go true f = subst (λ z. Passed w j (passing_element z x subs) (elem x subs) s t) (sym f) (put_held f (holds_subscripts q n inside local apart shows base line subs j s t subs_inside agree))
          go false f = subst (λ z. Passed w j (passing_element z x subs) (elem x subs) s t) (sym f) (element_by_value f)

    -- any actual
    pub pass : (e : Term) → Ready w earlier i j e s t → Passed w j (passing w earlier (reduced local i e)) e s t
    pass e r = go (sort C local i e)
      where
        go : Sort C local i e → Passed w j (passing w earlier (reduced local i e)) e s t
        go (name x f) = subst (λ z. Ready w earlier i j z s t → Passed w j (passing w earlier (reduced local i z)) z s t) (sym f) (λ r1. pass_name x r1) r
        go (element x subs f) = subst (λ z. Ready w earlier i j z s t → Passed w j (passing w earlier (reduced local i z)) z s t) (sym f) (λ r1. pass_element x subs r1) r
        go (chosen l le lt f is) = pass_chosen e r l lt f is
        go (other f is) = pass_other e r f is
