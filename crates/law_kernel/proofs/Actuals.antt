-- The actuals of a call, and the names that they become.
use Rattle.std.proofs.Common.{◌≡◌, ℕ, ◌+◌, ◌*◌, ◌≤◌, ◌⊎◌, inl, inr, Bool, true, false, List, [], ◌∷◌, refl, sym, ap, ◌∙◌, arith, subst, mul-add}
use Rattle.std.proofs.lemmas.Bool.{or_cases}
use Rattle.std.specs.Prelude.{ℤ, ◌&&◌, Result, Ok, Err}
use Rattle.adj_tree.specs.Code.{Var, var_eq, Term, lit, var, elem, neg, bin, pow, power_of, abs, Terms, none, more}
use Rattle.def_meaning.specs.Trap.{Trap, then_ok}
use Rattle.def_meaning.specs.Store.{scalar, Store}
use Rattle.def_meaning.specs.Value.{Setting, value, values, cell_at}
use Rattle.def_meaning.specs.Scene.{Scene}
use Rattle.def_meaning.specs.Run.{Calls}
use Rattle.def_meaning.specs.Read.{reads_term}
use Rattle.def_meaning.specs.Written.{is_place_of, is_handed_back}
use Rattle.def_meaning.specs.Units.{cell, nowhere, Actual, one_word, actual_of, actuals}
use Rattle.def_meaning.proofs.Booleans.{or_false, or_first, or_second}
use Rattle.def_meaning.proofs.Variables.{var_refl, var_same}
use Rattle.law_meaning.proofs.Leadings.{with_store}
use Rattle.law_meaning.proofs.Agreements.{StoresAgree}
use Rattle.def_kernel.specs.Lowered.{locals_in, locals_in_all, length_of, first_flag, other_flags, reduced, before, reduced_all, before_all, is_among, Passing, passing, passing_name, passing_element, locals_passing, passed, before_passing, before_passing_all, locals_passing_all}
use Rattle.law_kernel.specs.Apart.{ShowWords, AreLocals, CellsOf, TermInside, TermsInside}
use Rattle.def_kernel.specs.Calls.{is_name_of, stands_whole, AreHandedApart}
use Rattle.law_meaning.proofs.Straights.{Stops, stops_first, stops_after}
use Rattle.law_meaning.proofs.Bounded.{Goes, leads_of, goes_stop, goes_append, goes_more}
use Rattle.law_kernel.proofs.Changing.{SameOrNone, same_trans, Range, Changes, changes_none, changes_both}
use Rattle.law_kernel.proofs.Reducing.{value_held, Prefixed, comes, stops, prefixed}
use Rattle.law_kernel.proofs.Targeting.{first_inside, rest_inside, agree_after}
use Rattle.law_kernel.proofs.Sorts.{Sort, name, element, chosen, other, sort}
use Rattle.law_kernel.proofs.Passings.{Match, match_later, Ready, Passed, passes, fails, pass}

-- a trap of some kind
pub record Nothing {A : Type 0} (r : Result A Trap) : Type 0 where
  pub kind : Trap
  pub is : r ≡ Err kind

-- ---- what actuals are where one is none

module _ {C : Type 0} (n : Setting C) where
  -- an actual is none where its value is
  pub none_of : (e : Term) (s : Store C) (k : Trap) → value n e s ≡ Err k → Nothing (actual_of n e s)
  none_of (lit z) s k h = absurd cc
  none_of (var x) s k h = absurd cc
  none_of (elem x subs) s k h = go (values n subs s) h
    where
      cells : (c : Result ℕ Trap) → then_ok c (λ i. Ok (s x i)) ≡ Err k → Nothing (then_ok c (λ i. let r : Result (Actual C) Trap = Ok (one_word (s x i) (cell x i)) in r))
      cells (Ok i) h = absurd cc
      cells (Err k1) h = record { kind = k1; is = refl }

      go : (v : Result (List ℤ) Trap) → then_ok v (λ is. then_ok (cell_at n x is) (λ i. Ok (s x i))) ≡ Err k → Nothing (then_ok v (λ is. then_ok (cell_at n x is) (λ i. let r : Result (Actual C) Trap = Ok (one_word (s x i) (cell x i)) in r)))
      go (Ok is) h = cells (cell_at n x is) h
      go (Err k1) h = record { kind = k1; is = refl }
  none_of (neg a) s k h = record { kind = k; is = ap (λ z. then_ok z (λ c. Ok (one_word c nowhere))) h }
  none_of (bin op a b) s k h = record { kind = k; is = ap (λ z. then_ok z (λ c. Ok (one_word c nowhere))) h }
  none_of (pow a m) s k h = record { kind = k; is = ap (λ z. then_ok z (λ c. Ok (one_word c nowhere))) h }
  none_of (power_of a b) s k h = record { kind = k; is = ap (λ z. then_ok z (λ c. Ok (one_word c nowhere))) h }
  none_of (abs a) s k h = record { kind = k; is = ap (λ z. then_ok z (λ c. Ok (one_word c nowhere))) h }

  -- no actuals where the first has none
  none_at_first : (e : Term) (es : Terms) (s : Store C) (k : Trap) → actual_of n e s ≡ Err k → actuals n (more e es) s ≡ Err k
  none_at_first e es s k h = ap (λ z. then_ok z (λ a. then_ok (actuals n es s) (λ got. Ok (a ∷ got)))) h

  -- nor where a later one has none
  none_later : (e : Term) (es : Terms) (s : Store C) (k : Trap) → actuals n es s ≡ Err k → Nothing (actuals n (more e es) s)
  none_later e es s k h = go (actual_of n e s) refl
    where
      go : (v : Result (Actual C) Trap) → actual_of n e s ≡ v → Nothing (actuals n (more e es) s)
      go (Ok a) g = record { kind = k; is = ap (λ z. then_ok z (λ a. then_ok (actuals n es s) (λ got. Ok (a ∷ got)))) g ∙ ap (λ z. then_ok z (λ got. Ok (a ∷ got))) h }
      go (Err k1) g = record { kind = k1; is = none_at_first e es s k1 g }

  all_of : (e : Term) (es : Terms) (s : Store C) (a : Actual C) (got : List (Actual C)) → actual_of n e s ≡ Ok a → actuals n es s ≡ Ok got → actuals n (more e es) s ≡ Ok (a ∷ got)
  all_of e es s a got h g = ap (λ z. then_ok z (λ a. then_ok (actuals n es s) (λ got. Ok (a ∷ got)))) h ∙ ap (λ z. then_ok z (λ got. Ok (a ∷ got))) g

-- ---- MAX, MIN and ABS in actuals

module _ {C : Type 0} (n : Setting C) (inside : Var → Bool) (local : ℕ → Var) where
  -- the reduced actuals have the values of the actuals
  abbrev pub AllSame : ℕ → Terms → Store C → Store C → Type 0
  AllSame j none s t = Unit {0}
  AllSame j (more e es) s t = SameOrNone (value n e s) (value n (reduced local j e) t) × AllSame (j + locals_in e) es s t

  -- they keep them where later locals change
  pub same_later : (es : Terms) (i j m : ℕ) (s t t1 : Store C) → TermsInside inside es → i + locals_in_all es ≤ j → Changes inside local (Range j m) t t1 → AllSame i es s t → AllSame i es s t1
  same_later none i j m s t t1 h le c a = tt
  same_later (more e es) i j m s t t1 h le c a = (
    same_trans (value n e s) (value n (reduced local i e) t) (value n (reduced local i e) t1) a.0
        (sym (value_held n inside local e i t t1 (first_inside inside e es h) c.within (λ k r. c.others k 0 (λ o. absurd (omega (arith, r.1, o.0, le)))))),
    same_later es (i + locals_in e) j m s t t1 (rest_inside inside e es h) (omega (arith, le)) c a.1,
  )

  -- the actuals and the names that they became; `es` are the reduced actuals
  abbrev pub AllMatch : List Bool → ℕ → List Var → Terms → List (Actual C) → Store C → Type 0
  AllMatch ws j earlier none [] t = Unit {0}
  AllMatch ws j earlier none (a ∷ got) t = ⊥
  AllMatch ws j earlier (more e es) [] t = ⊥
  AllMatch ws j earlier (more e es) (a ∷ got) t =
      Match n inside local (first_flag ws) a j (passing (first_flag ws) earlier e) t
      × AllMatch (other_flags ws) (j + locals_passing (passing (first_flag ws) earlier e)) (passed local j (passing (first_flag ws) earlier e) ∷ earlier) es got t

module _ {C : Type 0} (q : Calls C) (n : Setting C) (inside : Var → Bool) (local : ℕ → Var) (apart : AreLocals inside local) (shows : ShowWords n.numbers) (scalars : (k : ℕ) → n.shape (local k) ≡ scalar) (base : Scene C) (line : ℕ) where
  abbrev at : Store C → Scene C
  at t = with_store base t

  abbrev Agree : Store C → Store C → Type 0
  Agree s t = StoresAgree (CellsOf n inside) s t

  -- MAX, MIN and ABS of all actuals became locals, or an actual has no value
  pub data Reduced (j : ℕ) (es : Terms) (s t : Store C) : Type 0 where
    reduces : (t1 : Store C) → Goes q n (before_all local line j es) (at t) (at t1) (3 * locals_in_all es) → Changes inside local (Range j (locals_in_all es)) t t1 → AllSame n inside local j es s t1 → Reduced j es s t
    gives_none : Nothing (actuals n es s) → Stops q n (before_all local line j es) (at t) line → Reduced j es s t

  module _ (e : Term) (es : Terms) (j : ℕ) (s t : Store C) (he : TermInside inside e) where
    reduce_more : Agree s t → Prefixed q n inside local apart shows base line e j s t → ((t1 : Store C) → Agree s t1 → Reduced (j + locals_in e) es s t1) → Reduced j (more e es) s t
    reduce_more g (stops k f y) next = gives_none (let m = none_of n e s k f in record { kind = m.kind; is = none_at_first n e es s m.kind m.is }) (stops_first q n (before local line j e) _ (at t) line y)
    reduce_more g (comes t1 l c v) next = go (next t1 (agree_after q n inside local apart shows base line (Range j (locals_in e)) s t t1 g c))
      where
        go : Reduced (j + locals_in e) es s t1 → Reduced j (more e es) s t
        go (gives_none m y) = gives_none (none_later n e es s m.kind m.is) (stops_after q n (before local line j e) _ (at t) (at t1) line (leads_of q n (before local line j e) (at t) (at t1) (3 * locals_in e) l) y)
        go (reduces t2 l2 c2 v2) =
            reduces t2
            (goes_more q n _ (at t) (at t2) (3 * locals_in e + 3 * locals_in_all es) (3 * (locals_in e + locals_in_all es)) (omega (arith, mul-add 3 (locals_in e) (locals_in_all es)))
            (goes_append q n (before local line j e) _ (at t) (at t1) (at t2) (3 * locals_in e) (3 * locals_in_all es) l l2))
            (changes_both inside local (Range j (locals_in e + locals_in_all es)) (Range j (locals_in e)) (Range (j + locals_in e) (locals_in_all es)) t t1 t2 c c2 (λ k r. (r.0, omega (arith, r.1))) (λ k r. (omega (arith, r.0), omega (arith, r.1)))) (
              same_trans (value n e s) (value n (reduced local j e) t1) (value n (reduced local j e) t2) v
                  (sym (value_held n inside local e j t1 t2 he c2.within (λ k r. c2.others k 0 (λ o. absurd (omega (arith, r.1, o.0)))))),
              v2,
            )

  -- so it is of any actuals inside
  pub reduces_all : (es : Terms) (j : ℕ) (s t : Store C) → TermsInside inside es → Agree s t → Reduced j es s t
  reduces_all none j s t h g = reduces t (goes_stop q n (at t)) (changes_none inside local (Range j 0) t) tt
  reduces_all (more e es) j s t h g =
      reduce_more e es j s t (first_inside inside e es h) g (prefixed q n inside local apart shows base line e j s t (first_inside inside e es h) g)
      (λ t1 g1. reduces_all es (j + locals_in e) s t1 (rest_inside inside e es h) g1)

  -- ---- the names

  -- each actual became a name that matches it, or one has none
  pub data AllPassed (ws : List Bool) (j : ℕ) (earlier : List Var) (es es' : Terms) (s t : Store C) : Type 0 where
    all_pass : (t1 : Store C) → Goes q n (before_passing_all local line j ws earlier es') (at t) (at t1) (3 * locals_passing_all local j ws earlier es') → Changes inside local (Range j (locals_passing_all local j ws earlier es')) t t1 → (got : List (Actual C)) → actuals n es s ≡ Ok got → AllMatch n inside local ws j earlier es' got t1 → AllPassed ws j earlier es es' s t
    one_fails : Nothing (actuals n es s) → Stops q n (before_passing_all local line j ws earlier es') (at t) line → AllPassed ws j earlier es es' s t

  -- what is known of the names that stand earlier
  pub record Earlier (ws : List Bool) (earlier : List Var) (es : Terms) : Type 0 where
    pub once : (x : Var) → inside x ≡ true → is_among x earlier ≡ true → is_handed_back x ws es ≡ false
    pub flat : (x : Var) → inside x ≡ true → is_among x earlier ≡ true → stands_whole x es ≡ true → n.shape x ≡ scalar

  -- no array stands twice as a whole
  abbrev pub Flat : Terms → Type 0
  Flat none = Unit {0}
  Flat (more e es) = ((x : Var) → is_name_of x e ≡ true → stands_whole x es ≡ true → n.shape x ≡ scalar) × Flat es

  false_not_true : (b : Bool) → b ≡ true → b ≡ false → ⊥
  false_not_true b e f = let z : true ≡ false = sym e ∙ f in cc

  -- so an actual is ready
  ready : (ws : List Bool) (earlier : List Var) (i j : ℕ) (e : Term) (es : Terms) (s t : Store C) → TermInside inside e → SameOrNone (value n e s) (value n (reduced local i e) t) → i + locals_in e ≤ j → Earlier ws earlier (more e es) → Ready q n inside local apart shows scalars base line (first_flag ws) earlier i j e s t
  ready ws earlier i j e es s t h v le k = record {
    within = h;
    same = v;
    below = le;
    once = λ x f w. once x f (is_among x earlier) refl w;
    flat = λ x f a. k.flat x (here x f) a (or_first (is_name_of x e) (stands_whole x es) (named x f));
  }
    where
      here : (x : Var) → e ≡ var x → inside x ≡ true
      here x f = h x (ap (λ z. reads_term x z) f ∙ var_refl x)

      named : (x : Var) → e ≡ var x → is_name_of x e ≡ true
      named x f = ap (is_name_of x) f ∙ var_refl x

      handed : (x : Var) → e ≡ var x → (ws : List Bool) → first_flag ws ≡ true → is_handed_back x ws (more e es) ≡ true
      handed x f [] w = absurd cc
      handed x f (b ∷ ws) w = or_first (b && is_place_of x e) (is_handed_back x ws es) ((λ l. w l && is_place_of x (f l)) ∙ var_refl x)

      once : (x : Var) → e ≡ var x → (b : Bool) → is_among x earlier ≡ b → first_flag ws ≡ true → is_among x earlier ≡ false
      once x f true a w = absurd (false_not_true (is_handed_back x ws (more e es)) (handed x f ws w) (k.once x (here x f) a))
      once x f false a w = a

  -- a name inside is that of an actual that is this name
  pub passed_inside : (w : Bool) (earlier : List Var) (i j : ℕ) (e : Term) → inside (passed local j (passing w earlier (reduced local i e))) ≡ true → e ≡ var (passed local j (passing w earlier (reduced local i e)))
  passed_inside w earlier i j e h = go (sort C local i e)
    where
      no_local : (m : ℕ) → inside (local m) ≡ true → ⊥
      no_local m g = false_not_true (inside (local m)) g (apart.outside m)

      by_name : (b : Bool) (x : Var) → inside (passed local j (passing_name b x)) ≡ true → var x ≡ var (passed local j (passing_name b x))
      by_name true x g = absurd (no_local j g)
      by_name false x g = refl

      by_local : (b : Bool) (m : ℕ) → inside (passed local j (passing_name b (local m))) ≡ true → ⊥
      by_local true m g = no_local j g
      by_local false m g = no_local m g

      by_element : (b : Bool) (x : Var) (subs : Terms) → inside (passed local j (passing_element b x subs)) ≡ true → ⊥
      by_element true x subs g = no_local (j + (length_of subs + locals_in_all subs)) g
      by_element false x subs g = no_local j g

      go : Sort C local i e → e ≡ var (passed local j (passing w earlier (reduced local i e)))
      go (name x f) =
          subst (λ z. inside (passed local j (passing w earlier (reduced local i z))) ≡ true → z ≡ var (passed local j (passing w earlier (reduced local i z)))) (sym f)
          (λ g. by_name (is_among x earlier) x g) h
      go (element x subs f) =
          subst (λ z. inside (passed local j (passing w earlier (reduced local i z))) ≡ true → z ≡ var (passed local j (passing w earlier (reduced local i z)))) (sym f)
          (λ g. absurd (by_element w x subs g)) h
      go (chosen l le lt f is) = absurd (by_local (is_among (local l) earlier) l (ap (λ z. inside (passed local j (passing w earlier z))) (sym f) ∙ h))
      go (other f is) = absurd (no_local j (ap (λ p. inside (passed local j p)) (sym (f w earlier)) ∙ h))

  -- what is known of the names that stand before the next actual
  next_earlier : (ws : List Bool) (earlier : List Var) (i j : ℕ) (e : Term) (es : Terms) → Earlier ws earlier (more e es) → ((x : Var) → is_place_of x e ≡ true → is_handed_back x (other_flags ws) es ≡ false) → ((x : Var) → is_name_of x e ≡ true → stands_whole x es ≡ true → n.shape x ≡ scalar) →
      Earlier (other_flags ws) (passed local j (passing (first_flag ws) earlier (reduced local i e)) ∷ earlier) es
  next_earlier ws earlier i j e es k a f = record { once = once; flat = flat }
    where
      y : Var
      y = passed local j (passing (first_flag ws) earlier (reduced local i e))

      is_actual : (x : Var) → inside x ≡ true → var_eq x y ≡ true → e ≡ var x
      is_actual x h g = let z = var_same x y g in passed_inside (first_flag ws) earlier i j e (ap inside (sym z) ∙ h) ∙ ap var (sym z)

      earlier_once : (x : Var) (ws : List Bool) → is_handed_back x ws (more e es) ≡ false → is_handed_back x (other_flags ws) es ≡ false
      earlier_once x [] g = refl
      earlier_once x (b ∷ ws) g = (or_false (b && is_place_of x e) (is_handed_back x ws es) g).1

      once : (x : Var) → inside x ≡ true → is_among x (y ∷ earlier) ≡ true → is_handed_back x (other_flags ws) es ≡ false
      once x h g = go (or_cases (var_eq x y) (is_among x earlier) g)
        where
          go : (var_eq x y ≡ true) ⊎ (is_among x earlier ≡ true) → is_handed_back x (other_flags ws) es ≡ false
          go (inl l) = a x (ap (is_place_of x) (is_actual x h l) ∙ var_refl x)
          go (inr l) = earlier_once x ws (k.once x h l)

      flat : (x : Var) → inside x ≡ true → is_among x (y ∷ earlier) ≡ true → stands_whole x es ≡ true → n.shape x ≡ scalar
      flat x h g w = go (or_cases (var_eq x y) (is_among x earlier) g)
        where
          go : (var_eq x y ≡ true) ⊎ (is_among x earlier ≡ true) → n.shape x ≡ scalar
          go (inl l) = f x (ap (is_name_of x) (is_actual x h l) ∙ var_refl x) w
          go (inr l) = k.flat x h l (or_second (is_name_of x e) (stands_whole x es) w)

  -- one actual is passed, and then the others
  module _ (ws : List Bool) (earlier : List Var) (i j : ℕ) (e : Term) (es : Terms) (s t : Store C) where
    abbrev p : Passing
    p = passing (first_flag ws) earlier (reduced local i e)

    abbrev rest : Terms
    rest = reduced_all local (i + locals_in e) es

    abbrev next : ℕ
    next = j + locals_passing p

    abbrev later : List Var
    later = passed local j p ∷ earlier

    pass_more : Agree s t → Passed q n inside local apart shows scalars base line (first_flag ws) j p e s t →
        ((t1 : Store C) → Agree s t1 → Changes inside local (Range j (locals_passing p)) t t1 → AllPassed (other_flags ws) next later es rest s t1) → AllPassed ws j earlier (more e es) (reduced_all local i (more e es)) s t
    pass_more g (fails k f y) then_others = one_fails (record { kind = k; is = none_at_first n e es s k f }) (stops_first q n (before_passing local line j p) _ (at t) line y)
    pass_more g (passes t1 l c a f m) then_others = go (then_others t1 (agree_after q n inside local apart shows base line (Range j (locals_passing p)) s t t1 g c) c)
      where
        go : AllPassed (other_flags ws) next later es rest s t1 → AllPassed ws j earlier (more e es) (reduced_all local i (more e es)) s t
        go (one_fails z y) = one_fails (none_later n e es s z.kind z.is) (stops_after q n (before_passing local line j p) _ (at t) (at t1) line (leads_of q n (before_passing local line j p) (at t) (at t1) (3 * locals_passing p) l) y)
        go (all_pass t2 l2 c2 got f2 m2) =
            let more_locals = locals_passing_all local next (other_flags ws) later rest in
            all_pass t2
            (goes_more q n _ (at t) (at t2) (3 * locals_passing p + 3 * more_locals) (3 * (locals_passing p + more_locals)) (omega (arith, mul-add 3 (locals_passing p) more_locals))
            (goes_append q n (before_passing local line j p) _ (at t) (at t1) (at t2) (3 * locals_passing p) (3 * more_locals) l l2))
            (changes_both inside local (Range j (locals_passing p + more_locals)) (Range j (locals_passing p)) (Range next more_locals) t t1 t2 c c2 (λ k r. (r.0, omega (arith, r.1))) (λ k r. (omega (arith, r.0), omega (arith, r.1))))
            (a ∷ got) (all_of n e es s a got f f2)
            (match_later n inside local (first_flag ws) a j p t1 t2 next more_locals (omega arith) c2 m, m2)

  -- so it is of any actuals, where no name stands twice but for scalars and none is handed back twice
  pub passes_all : (es : Terms) (ws : List Bool) (earlier : List Var) (i j : ℕ) (s t : Store C) → TermsInside inside es → Agree s t → AllSame n inside local i es s t → i + locals_in_all es ≤ j → Earlier ws earlier es → AreHandedApart ws es → Flat es → AllPassed ws j earlier es (reduced_all local i es) s t
  passes_all none ws earlier i j s t h g v le k a f = all_pass t (goes_stop q n (at t)) (changes_none inside local (Range j 0) t) [] refl tt
  passes_all (more e es) ws earlier i j s t h g v le k a f =
      pass_more ws earlier i j e es s t g
      (pass q n inside local apart shows scalars base line (first_flag ws) earlier i j s t g e (ready ws earlier i j e es s t (first_inside inside e es h) v.0 (omega (arith, le)) k))
      (λ t1 g1 c. passes_all es (other_flags ws) (passed local j (passing (first_flag ws) earlier (reduced local i e)) ∷ earlier) (i + locals_in e) (j + locals_passing (passing (first_flag ws) earlier (reduced local i e))) s t1 (rest_inside inside e es h) g1
      (same_later n inside local es (i + locals_in e) j (locals_passing (passing (first_flag ws) earlier (reduced local i e))) s t t1 (rest_inside inside e es h) (omega (arith, le)) c v.1)
      (omega (arith, le)) (next_earlier ws earlier i j e es k a.0 f.0) a.1 f.1)
