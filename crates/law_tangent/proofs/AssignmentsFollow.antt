-- An assignment with what stands before it follows the assignment of the dual run.
use Rattle.std.proofs.Common.{◌≡◌, ◌<◌, ◌≤◌, ℕ, ◌+◌, ◌⊎◌, inl, inr, Bool, true, false, List, refl, sym, ap, ◌∙◌, subst, arith, if◌then◌else◌}
use Rattle.std.specs.Prelude.{ℤ, pos, Result, Ok, Err, Option, Some, None, ◌==◌, ◌&&◌}
use Rattle.adj_tree.specs.Code.{Var, plain, shadow, helper, name_eq, Term, Terms, none, more, Act, assign, Code, stop, step}
use Rattle.adj_tree.proofs.Names.{name_same}
use Rattle.adj_word.specs.Word.{wrap}
use Rattle.adj_word.specs.Pairing.{put}
use Rattle.def_meaning.specs.Trap.{Trap, index, or_trap}
use Rattle.def_meaning.specs.Append.{◌+++◌}
use Rattle.def_meaning.specs.Store.{Shape, size_of, Store, set, cell_of}
use Rattle.def_meaning.specs.Value.{Setting, value, values, cell_at, target}
use Rattle.def_meaning.specs.Scene.{Scene, stand, Done, Trapped, with_value}
use Rattle.def_meaning.specs.Run.{Calls, act, run}
use Rattle.law_meaning.specs.Follows.{Follows}
use Rattle.def_meaning.proofs.Cells.{size_positive}
use Rattle.law_meaning.proofs.Inversions.{then_ok_is}
use Rattle.law_meaning.proofs.Leadings.{with_store}
use Rattle.def_names.specs.Numbers.{Vars}
use Rattle.def_sweep.specs.Marked.{code_if}
use Rattle.def_sweep.specs.Facts.{In, Within, without, whole}
use Rattle.law_sweep.specs.Pairs.{Key, key_eq, Words, SamePlain, with_tangents, on_words, on_duals}
use Rattle.law_sweep.specs.Scenes.{Course}
use Rattle.def_names.proofs.Variables.{not_true, and_true}
use Rattle.law_sweep.proofs.KeyVariables.{key_same}
use Rattle.def_sweep.specs.Occurrences.{occurring}
use Rattle.law_sweep.specs.Passing.{plainly}
use Rattle.law_sweep.specs.Kernel.{AssignmentFits}
use Rattle.law_sweep.proofs.Terms.{num, nums, cell_or, cell_in, tan, HasCell, IsDefined, defined_of, all_defined_of, value_words, values_words, value_duals}
use Rattle.law_sweep.proofs.TermTangents.{tan_none, cell_in_below}
use Rattle.law_sweep.proofs.TermUses.{IsOver, text_of, texts_of, over_of}
use Rattle.law_sweep.proofs.TurnedOf.{HasTarget}
use Rattle.law_sweep.proofs.Shapes.{value_bare}
use Rattle.def_tangent.specs.TangentOf.{before_assignment}
use Rattle.def_tangent.specs.Forward.{Plan, before_act}
use Rattle.law_tangent.specs.Bears.{NoTapes, OnlyOn, Bears, SceneBears}
use Rattle.law_tangent.proofs.Straight.{AreAside, Went, Fell, ran, went_there}
use Rattle.law_tangent.specs.Counts.{size}
use Rattle.law_tangent.proofs.Tangents.{tan-word}
use Rattle.law_tangent.proofs.Values.{mapped-err, value_shown, target_shown, value_again, target_again}
use Rattle.law_tangent.proofs.Assignments.{prepares}
use Rattle.law_tangent.proofs.Steps.{follows_both_done, follows_both_trap, went_follows, fell_follows}
use Rattle.law_tangent.proofs.Asides.{aside_before}

-- one result has one value
ok_same : {C : Type 0} (a b : C) → (let r : Result C Trap = Ok a in r ≡ Ok b) → a ≡ b
ok_same a b h = cc

-- a cell of values and tangents that is set is that cell of the values and of the tangents
pub set_pair : (u : Store ℤ) (y : Words) (x : List ℕ) (c : ℕ) (v z : ℤ) → (let p : ℤ × ℤ = (v, z) in set (with_tangents u y) (plain x) c p ≡ with_tangents (set u (plain x) c v) (put key_eq y (x, c) z))
set_pair u y x c v z = λ k o j. each o j k
  where
    each : (o : Var) (j : ℕ) → (let p : ℤ × ℤ = (v, z) in set (with_tangents u y) (plain x) c p o j ≡ with_tangents (set u (plain x) c v) (put key_eq y (x, c) z) o j)
    each (plain o) j = go (name_eq o x && (j == c))
      where
        go : (b : Bool) → (let p : ℤ × ℤ = (v, z) in let o1 : ℤ × ℤ = (u (plain o) j, y (o, j)) in let r : ℤ × ℤ = ((if b then v else u (plain o) j), (if b then z else y (o, j))) in (if b then p else o1) ≡ r)
        go true = refl
        go false = refl
    each (shadow o) j = refl
    each (helper r o) j = refl

-- a target that was evaluated
target_was : (sh : Var → Shape) (level : ℕ) (x : Var) (subs : Terms) (u : Store ℤ) (i : ℕ) → target (on_words sh level) x subs u ≡ Ok i → HasTarget sh x subs u × (cell_in sh x subs u ≡ i)
target_was sh level x none u i h = (tt, ok_same 0 i h)
target_was sh level x (more a rest) u i h =
    let r = then_ok_is (values (on_words sh level) (more a rest) u) (λ is. cell_at (on_words sh level) x is) i h in
    let d = all_defined_of sh level (more a rest) u r.value r.is in
    let same : r.value ≡ nums sh (more a rest) u = ok_same r.value (nums sh (more a rest) u) (sym r.is ∙ values_words sh level (more a rest) u d) in
    let c = found (sh x) (nums sh (more a rest) u) i (ap (λ is. or_trap index (cell_of (sh x) is)) (sym same) ∙ r.goes) in
    ((d, c.0), c.1)
  where
    found : (m : Shape) (is : List ℤ) (i : ℕ) → or_trap index (cell_of m is) ≡ Ok i → HasCell m is × (cell_or (cell_of m is) ≡ i)
    found m is i h = go (cell_of m is) refl h
      where
        go : (o : Option ℕ) → cell_of m is ≡ o → or_trap index o ≡ Ok i → (o ≡ Some (cell_or o)) × (cell_or o ≡ i)
        go None e h = cc
        go (Some j) e h = (refl, ok_same j i h)

-- nothing stands before
unfoldable pub went_none : {C : Type 0} (q : Calls C) (n : Setting C) (s : Scene C) → Went q n stop s
went_none q n s = record { after = s.store; by = λ j. let e : 0 + j ≡ j = omega arith in ap (Done s) e; early = λ j lt. absurd (omega arith); same = λ x i. refl }

-- ---- what the scene holds after it

module _ (sh : Var → Shape) (on before after : Vars) (u : Store ℤ) (y : Words) (s s1 : Store ℤ) (b : Bears sh on before u y s) (x : List ℕ) (c : ℕ) (below : c < size_of (sh (plain x))) (v z : ℤ) where
  -- the target has the value v and the tangent z; the tangent is set beside it, where it is carried
  pub assigned_bears : SamePlain s s1 → ((o : List ℕ) (j : ℕ) → on (plain o) ≡ true → s1 (shadow o) j ≡ (if name_eq o x && (j == c) then z else s (shadow o) j)) → wrap z ≡ z → (after (plain x) ≡ false → z ≡ pos 0) → ((k : Key) → k.1 < size_of (sh (plain k.0)) → after (plain k.0) ≡ false → key_eq k (x, c) ≡ false → before (plain k.0) ≡ false) → Bears sh on after (set u (plain x) c v) (put key_eq y (x, c) z) (set s1 (plain x) c v)
  assigned_bears p h word untouched old = record {
    plains = record { at = λ o j. ap (λ a. if name_eq o x && (j == c) then v else a) (p.at o j ∙ b.plains.at o j) };
    tangents = λ o j n. h o j n ∙ ap (λ a. if name_eq o x && (j == c) then z else a) (b.tangents o j n);
    words = λ k. words k (key_eq k (x, c));
    others = λ k i n. others k i n (key_eq k (x, c)) refl;
    outside = λ k l. outside k l (key_eq k (x, c)) refl;
  }
    where
      words : (k : Key) (t : Bool) → wrap (if t then z else y k) ≡ (if t then z else y k)
      words k true = word
      words k false = b.words k

      others : (k : Key) → k.1 < size_of (sh (plain k.0)) → after (plain k.0) ≡ false → (t : Bool) → key_eq k (x, c) ≡ t → (if t then z else y k) ≡ pos 0
      others k i n true e = untouched (ap (λ o. after (plain o)) (sym (name_same k.0 x (and_true (name_eq k.0 x) (k.1 == c) e).0)) ∙ n)
      others k i n false e = b.others k i (old k i n e)

      outside : (k : Key) → size_of (sh (plain k.0)) ≤ k.1 → (t : Bool) → key_eq k (x, c) ≡ t → (if t then z else y k) ≡ pos 0
      outside k l true e =
          let is : k ≡ (x, c) = key_same k (x, c) e in
          let size : size_of (sh (plain k.0)) ≡ size_of (sh (plain x)) = ap (λ (m : Key). size_of (sh (plain m.0))) is in
          let at : k.1 ≡ c = ap (λ (m : Key). m.1) is in
          absurd (omega (arith, l, below, size, at))
      outside k l false e = b.outside k l

module _ (qd : Calls (ℤ × ℤ)) (q : Calls ℤ) (sh : Var → Shape) (level w : ℕ) (p : Plan) (before after : Vars) (vars : List (List ℕ)) (arrays : Vars) (known : (o : List ℕ) → arrays (plain o) ≡ false → size_of (sh (plain o)) ≡ 1) (shapes : (o : List ℕ) → p.carried (plain o) ≡ true → sh (shadow o) ≡ sh (plain o)) (x : List ℕ) (subs : Terms) (e : Term) (line : ℕ) (fits : AssignmentFits vars arrays x subs e)
    (covers : Within before p.carried) (carries : In (plain x) after → In (plain x) p.carried) (stays : Within (without before (whole (plain x) subs)) after) (goes : (o : Var) → In o (occurring e) → In o before → In (plain x) after) where
  abbrev on : Vars
  on = p.carried

  abbrev nd : Setting (ℤ × ℤ)
  nd = on_duals (plainly sh) level

  abbrev nw : Setting ℤ
  nw = on_words sh level

  abbrev it : Act
  it = assign (plain x) subs e

  abbrev pre : Code
  pre = before_act p line it

  over : IsOver vars e
  over = over_of vars e (text_of e fits.text) fits.treated fits.known

  -- only carried variables have a tangent before it
  carried_only : (y : Words) → OnlyOn sh before y → OnlyOn sh on y
  carried_only y h k i n = h k i (not_true (before (plain k.0)) (λ t. let z : true ≡ false = sym (covers (plain k.0) t) ∙ n in cc))

  -- where the target isn't varied after it, the right side has no tangent
  no_tangent : (u : Store ℤ) (y : Words) → OnlyOn sh before y → IsDefined sh e u → after (plain x) ≡ false → tan sh e u y ≡ pos 0
  no_tangent u y h d n = tan_none sh u y e fits.treated d (λ k i o. h k i (not_true (before (plain k.0)) (λ t. let z : true ≡ false = sym (goes (plain k.0) o t) ∙ n in cc)))

  -- a cell that isn't assigned and not varied after it wasn't before it
  old_cell : (u : Store ℤ) (k : Key) → k.1 < size_of (sh (plain k.0)) → after (plain k.0) ≡ false → key_eq k (x, cell_in sh (plain x) subs u) ≡ false → before (plain k.0) ≡ false
  old_cell u k i n e1 = not_true (before (plain k.0)) (λ t. go subs refl t)
    where
      stayed : (ss : Terms) → subs ≡ ss → before (plain k.0) ≡ true → whole (plain x) ss (plain k.0) ≡ false → ⊥
      stayed ss is t h =
          let z : true ≡ false = sym (stays (plain k.0) (rw (t, ap (λ a. whole (plain x) a (plain k.0)) is ∙ h) refl)) ∙ n in cc

      scalar : (b : Bool) → subs ≡ none → name_eq k.0 x ≡ b → before (plain k.0) ≡ true → ⊥
      scalar false is m t = stayed none is t m
      scalar true is m t =
          let one : size_of (sh (plain k.0)) ≡ 1 = ap (λ o. size_of (sh (plain o))) (name_same k.0 x m) ∙ known x (fits.rank is) in
          let first : k.1 ≡ 0 = omega (arith, i, one) in
          let cell : cell_in sh (plain x) subs u ≡ 0 = ap (λ ss. cell_in sh (plain x) ss u) is in
          let there : key_eq k (x, cell_in sh (plain x) subs u) ≡ true = rw (m, first, cell) refl in
          let z : true ≡ false = sym there ∙ e1 in cc

      go : (ss : Terms) → subs ≡ ss → before (plain k.0) ≡ true → ⊥
      go none is t = scalar (name_eq k.0 x) is refl t
      go (more a rest) is t = stayed (more a rest) is t refl

  module _ (Q : Scene (ℤ × ℤ) → Scene ℤ → Type 0) (few : size pre + 1 ≤ w) (c c' : Code) (rest : (d1 : Scene (ℤ × ℤ)) (s1 : Scene ℤ) (k : ℕ) → SceneBears sh on after d1 s1 → Follows Q w 0 (run qd nd c d1) (run q nw c' s1) k) where
    module _ (d : Scene (ℤ × ℤ)) (s : Scene ℤ) (u : Store ℤ) (y : Words) (b : Bears sh on before u y s.store) (opened : s.opened ≡ d.opened) (tape : NoTapes d.tape s.tape) where
      abbrev dd : Scene (ℤ × ℤ)
      dd = record d { store = with_tangents u y }

      -- it traps
      traps : (t t' : Trap) → ((j : ℕ) → act qd nd it line dd j ≡ Trapped t line (stand nd dd)) → ((s1 : Store ℤ) (j : ℕ) → SamePlain u s1 → act q nw it line (with_store s s1) j ≡ Trapped t' line (stand nw (with_store s s1))) → (k : ℕ) → Follows Q w 0 (run qd nd (step line it c) dd) (run q nw (pre +++ step line it c') s) k
      traps t t' dual own k = go (ran q nw line pre (aside (on (plain x))) s)
        where
          aside : (a : Bool) → AreAside line (code_if a (before_assignment on x subs e line))
          aside true = aside_before on line x subs e
          aside false = tt

          go : Went q nw pre s ⊎ Fell q nw line pre s → Follows Q w 0 (run qd nd (step line it c) dd) (run q nw (pre +++ step line it c') s) k
          go (inl g) = went_follows qd q nd nw w (SceneBears sh on after) Q line it it pre c c' dd s g few (λ j. follows_both_trap w (SceneBears sh on after) (act qd nd it line dd) (act q nw it line (with_store s g.after)) t t' line (stand nd dd) (stand nw (with_store s g.after)) dual (λ i. own g.after i (record { at = λ o i1. g.same o i1 ∙ b.plains.at o i1 })) j) rest k
          go (inr f) = fell_follows qd q nd nw w (SceneBears sh on after) Q line it it pre c c' dd s f t (stand nd dd) dual k

      -- it is done
      module _ (def : IsDefined sh e u) (at : ℕ) (is : target nw (plain x) subs u ≡ Ok at) (tg : HasTarget sh (plain x) subs u) (cell : cell_in sh (plain x) subs u ≡ at) where
        abbrev v : ℤ
        v = num sh e u

        abbrev z : ℤ
        z = tan sh e u y

        below : at < size_of (sh (plain x))
        below = subst (λ m. m < size_of (sh (plain x))) cell (go subs tg)
          where
            go : (ss : Terms) → HasTarget sh (plain x) ss u → cell_in sh (plain x) ss u < size_of (sh (plain x))
            go none h = size_positive (sh (plain x))
            go (more a rest) h = cell_in_below (sh (plain x)) (nums sh (more a rest) u) h.1

        abbrev done : Scene (ℤ × ℤ)
        done = record dd { store = set (with_tangents u y) (plain x) at (v, z) }

        dual_done : (j : ℕ) → act qd nd it line dd j ≡ Done done j
        dual_done j =
            ap (λ r. with_value r line (stand nd dd) (λ a. with_value (target nd (plain x) subs (with_tangents u y)) line (stand nd dd) (λ i. Done (record dd { store = set (with_tangents u y) (plain x) i a }) j))) (value_bare (on_duals sh level) (with_tangents u y) e fits.text ∙ value_duals sh level e u y def)
            ∙ ap (λ r. with_value r line (stand nd dd) (λ i. Done (record dd { store = set (with_tangents u y) (plain x) i (v, z) }) j)) (target_shown sh level u y x subs fits.subs_text ∙ is)

        words_done : (s1 : Store ℤ) → SamePlain u s1 → (j : ℕ) → act q nw it line (with_store s s1) j ≡ Done (with_store s (set s1 (plain x) at v)) j
        words_done s1 same j =
            ap (λ r. with_value r line (stand nw (with_store s s1)) (λ a. with_value (target nw (plain x) subs s1) line (stand nw (with_store s s1)) (λ i. Done (with_store s (set s1 (plain x) i a)) j))) (value_again sh level u s1 same e fits.text ∙ value_words sh level e u def)
            ∙ ap (λ r. with_value r line (stand nw (with_store s s1)) (λ i. Done (with_store s (set s1 (plain x) i v)) j)) (target_again sh level u s1 same (plain x) subs fits.subs_text ∙ is)

        -- from the store in which the target's tangent is set
        from : (g : Went q nw pre s) → ((o : List ℕ) (j : ℕ) → on (plain o) ≡ true → g.after (shadow o) j ≡ (if name_eq o x && (j == at) then z else s.store (shadow o) j)) → (k : ℕ) → Follows Q w 0 (run qd nd (step line it c) dd) (run q nw (pre +++ step line it c') s) k
        from g h k =
            let same : SamePlain u g.after = record { at = λ o i. g.same o i ∙ b.plains.at o i } in
            went_follows qd q nd nw w (SceneBears sh on after) Q line it it pre c c' dd s g few
            (λ j. follows_both_done w (SceneBears sh on after) (act qd nd it line dd) (act q nw it line (with_store s g.after)) done (with_store s (set g.after (plain x) at v)) dual_done (words_done g.after same)
            (record {
              values = set u (plain x) at v;
              tangents = put key_eq y (x, at) z;
              is = set_pair u y x at v z;
              bears = assigned_bears sh on before after u y s.store g.after b x at below v z (record { at = λ o i. g.same o i }) h (tan-word sh u y b.words e fits.treated) (no_tangent u y b.others def)
                  (λ k1 i n e1. old_cell u k1 i n (ap (λ m. key_eq k1 (x, m)) cell ∙ e1));
              opened = opened;
              tape = tape;
            }) j)
            rest k

        -- the code before it, by whether the target is carried
        abbrev Set' : Code → Type 0
        Set' code = (g : Went q nw code s) × ((o : List ℕ) (j : ℕ) → on (plain o) ≡ true → g.after (shadow o) j ≡ (if name_eq o x && (j == at) then z else s.store (shadow o) j))

        set_there : (a : Bool) → on (plain x) ≡ a → Set' (code_if a (before_assignment on x subs e line))
        unfolding went_none
        set_there false n = (went_none q nw s, λ o j h. kept o j h (name_eq o x) refl)
          where
            kept : (o : List ℕ) (j : ℕ) → on (plain o) ≡ true → (t : Bool) → name_eq o x ≡ t → s.store (shadow o) j ≡ (if t && (j == at) then z else s.store (shadow o) j)
            kept o j h true m = absurd (let r : true ≡ false = sym h ∙ ap (λ a. on (plain a)) (name_same o x m) ∙ n in cc)
            kept o j h false m = refl
        set_there true n =
            let base : Course = record { opened = s.opened; events = s.events } in
            let g = prepares on q sh level base vars u y b.words (carried_only y b.others) shapes x subs e line s.store s.tape n (texts_of subs fits.subs_text) tg over def b.plains b.tangents in
            let t = went_there q nw line (before_assignment on x subs e line) s (with_store s g.after) (aside_before on line x subs e) g.runs in
            (t.0, λ o j h. ap (λ (a : Scene ℤ). a.store (shadow o) j) t.1 ∙ g.shadows o j ∙ ap (λ m. if name_eq o x && (j == m) then z else s.store (shadow o) j) cell)

        finishes : (k : ℕ) → Follows Q w 0 (run qd nd (step line it c) dd) (run q nw (pre +++ step line it c') s) k
        finishes k = let g = set_there (on (plain x)) refl in from g.0 g.1 k

      follows_words : (k : ℕ) → Follows Q w 0 (run qd nd (step line it c) dd) (run q nw (pre +++ step line it c') s) k
      follows_words k = by_value (value nw e u) refl
        where
          by_value : (r : Result ℤ Trap) → value nw e u ≡ r → Follows Q w 0 (run qd nd (step line it c) dd) (run q nw (pre +++ step line it c') s) k
          by_value (Err t) is =
              traps t t
              (λ j. ap (λ r. with_value r line (stand nd dd) (λ a. with_value (target nd (plain x) subs (with_tangents u y)) line (stand nd dd) (λ i. Done (record dd { store = set (with_tangents u y) (plain x) i a }) j))) (mapped-err (λ (a : ℤ × ℤ). a.0) (value nd e (with_tangents u y)) t (value_shown sh level u y e fits.text ∙ is)))
              (λ s1 j same. ap (λ r. with_value r line (stand nw (with_store s s1)) (λ a. with_value (target nw (plain x) subs s1) line (stand nw (with_store s s1)) (λ i. Done (with_store s (set s1 (plain x) i a)) j))) (value_again sh level u s1 same e fits.text ∙ is)) k
          by_value (Ok v0) is = by_target (target nw (plain x) subs u) refl
            where
              def : IsDefined sh e u
              def = defined_of sh level e u v0 is

              by_target : (r : Result ℕ Trap) → target nw (plain x) subs u ≡ r → Follows Q w 0 (run qd nd (step line it c) dd) (run q nw (pre +++ step line it c') s) k
              by_target (Err t) at =
                  let pv : ℤ × ℤ = (num sh e u, tan sh e u y) in
                  traps t t
                  (λ j. ap (λ r. with_value r line (stand nd dd) (λ a. with_value (target nd (plain x) subs (with_tangents u y)) line (stand nd dd) (λ i. Done (record dd { store = set (with_tangents u y) (plain x) i a }) j))) (value_bare (on_duals sh level) (with_tangents u y) e fits.text ∙ value_duals sh level e u y def)
                  ∙ ap (λ r. with_value r line (stand nd dd) (λ i. Done (record dd { store = set (with_tangents u y) (plain x) i pv }) j)) (target_shown sh level u y x subs fits.subs_text ∙ at))
                  (λ s1 j same. ap (λ r. with_value r line (stand nw (with_store s s1)) (λ a. with_value (target nw (plain x) subs s1) line (stand nw (with_store s s1)) (λ i. Done (with_store s (set s1 (plain x) i a)) j))) (value_again sh level u s1 same e fits.text ∙ is)
                  ∙ ap (λ r. with_value r line (stand nw (with_store s s1)) (λ i. Done (with_store s (set s1 (plain x) i v0)) j)) (target_again sh level u s1 same (plain x) subs fits.subs_text ∙ at)) k
              by_target (Ok i) at = let g = target_was sh level (plain x) subs u i at in finishes def i at g.0 g.1 k

    pub assignment_follows : (d : Scene (ℤ × ℤ)) (s : Scene ℤ) → SceneBears sh on before d s → (k : ℕ) → Follows Q w 0 (run qd nd (step line it c) d) (run q nw (pre +++ step line it c') s) k
    assignment_follows d s b k =
        let from_store : Store (ℤ × ℤ) → Scene (ℤ × ℤ) = λ f. record d { store = f } in
        let whole : from_store (with_tangents b.values b.tangents) ≡ d = ap from_store (sym b.is) in
        subst (λ m. Follows Q w 0 (run qd nd (step line it c) m) (run q nw (pre +++ step line it c') s) k) whole (follows_words d s b.values b.tangents b.bears b.opened b.tape k)
