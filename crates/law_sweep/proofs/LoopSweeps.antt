-- The sweeps of the turns of a DO: where the body has a backward sweep, the turns are gone through from the last to the first.
use Rattle.std.proofs.Common.{◌≡◌, ◌<◌, ◌≤◌, ◌^◌, ℕ, suc, ◌+◌, Bool, true, false, List, [], ◌++◌, refl, sym, ap, ◌∙◌, subst, arith, append_assoc}
use Rattle.std.specs.Prelude.{ℤ, pos, negsuc, ◌==◌, ◌&&◌}
use Rattle.adj_tree.specs.Code.{role_code, Var, plain, shadow, helper, first, stride, count, turn, name_eq, plus, times, var, bin, none, assign, Code, stop}
use Rattle.adj_tree.proofs.Names.{nat_refl, name_refl, name_same}
use Rattle.adj_word.specs.Word.{add, mul}
use Rattle.adj_word.specs.Pairing.{pairing}
use Rattle.adj_word.proofs.Counting.{count_up, count_down}
use Rattle.def_meaning.specs.Append.{◌+++◌, one}
use Rattle.def_meaning.specs.Store.{Shape, size_of, Store, set}
use Rattle.def_meaning.specs.Value.{Setting}
use Rattle.def_meaning.specs.Run.{Calls}
use Rattle.law_meaning.proofs.Leadings.{leads_stop, leads_step}
use Rattle.def_names.specs.Numbers.{Vars}
use Rattle.def_sweep.specs.Facts.{In, joined}
use Rattle.law_sweep.specs.Pairs.{Key, Words, shadows, on_words}
use Rattle.law_sweep.specs.Scenes.{Course, scene}
use Rattle.def_names.proofs.Variables.{or_false}
use Rattle.law_sweep.proofs.Turned.{SameDepth}
use Rattle.def_sweep.specs.Rows.{literal, set_own}
use Rattle.law_sweep.specs.Laws.{just}
use Rattle.def_sweep.specs.Reversals.{Reversal, LoopRun, AreReversed}
use Rattle.law_sweep.specs.Runs.{Comes, SameOn, SameOff}
use Rattle.law_sweep.proofs.Runs.{comes_leads, comes_append}
use Rattle.law_sweep.proofs.Told.{reversed_append}
use Rattle.law_sweep.proofs.Sweeps.{Sweeps}
use Rattle.law_sweep.proofs.Turns.{TurnsCome, turns_none, turns_more, turns_then}

module _ (sh : Var → Shape) (x : List ℕ) (one_cell : size_of (sh (plain x)) ≡ 1) where
  first_cell : (y : List ℕ) (j : ℕ) → j < size_of (sh (plain y)) → name_eq y x ≡ true → j ≡ 0
  first_cell y j l e =
      let n : y ≡ x = name_same y x e in
      let lt : j < 1 = subst (λ m. j < m) (ap (λ z. size_of (sh (plain z))) n ∙ one_cell) l in
      omega arith

  -- stores that agree still do where the variable gets one value in both
  pub same_set : (a a' : Vars) (s s' : Store ℤ) (v v' : ℤ) → v' ≡ v → ((y : List ℕ) → name_eq y x ≡ false → In (plain y) a' → In (plain y) a) → SameOn sh a s s' → SameOn sh a' (set s (plain x) 0 v) (set s' (plain x) 0 v')
  same_set a a' s s' v v' e less h = record { at = λ y j l i. go y j l i (name_eq y x) refl }
    where
      go : (y : List ℕ) (j : ℕ) → j < size_of (sh (plain y)) → In (plain y) a' → (b : Bool) → name_eq y x ≡ b → set s' (plain x) 0 v' (plain y) j ≡ set s (plain x) 0 v (plain y) j
      go y j l i true n = let z : (j == 0) ≡ true = ap (λ m. m == 0) (first_cell y j l n) in rw (n, z) e
      go y j l i false n = rw n (h.at y j l (less y n i))

  -- and where it gets back its value in one of them
  pub same_back : (a a' : Vars) (s g : Store ℤ) (v w : ℤ) → w ≡ s (plain x) 0 → ((y : List ℕ) → name_eq y x ≡ false → In (plain y) a' → In (plain y) a) → SameOn sh a (set s (plain x) 0 v) g → SameOn sh a' s (set g (plain x) 0 w)
  same_back a a' s g v w e less h = record { at = λ y j l i. go y j l i (name_eq y x) refl }
    where
      go : (y : List ℕ) (j : ℕ) → j < size_of (sh (plain y)) → In (plain y) a' → (b : Bool) → name_eq y x ≡ b → set g (plain x) 0 w (plain y) j ≡ s (plain y) j
      go y j l i true n =
          let z : (j == 0) ≡ true = ap (λ m. m == 0) (first_cell y j l n) in
          rw (n, z) (e ∙ (λ k. s (plain (sym (name_same y x n) k)) (sym (first_cell y j l n) k)))
      go y j l i false n =
          let there : set s (plain x) 0 v (plain y) j ≡ s (plain y) j = rw n refl in
          rw n (h.at y j l (less y n i) ∙ there)

  -- setting the variable leaves the others
  pub set_off : (a : Vars) (s : Store ℤ) (v : ℤ) → SameOff (joined (just (plain x)) a) s (set s (plain x) 0 v)
  set_off a s v = record { at = λ y j o. rw (or_false (name_eq y x) (a (plain y)) o).0 refl }

and_no : (b c : Bool) → c ≡ false → (b && c) ≡ false
and_no true c h = h
and_no false c h = refl

-- helpers of other depths are other helpers
pub other_depth : (d : ℕ) (r n : ℕ) (i : ℕ) → i ≤ d → ((r == n) && (i == suc d)) ≡ false
other_depth d r n i le = and_no (r == n) (i == suc d) (let ne : (i == suc d) ≡ false = grind arith in ne)

-- the code of a turn in the two sweeps, for a loop of depth d
abbrev pub forward_turn : ℕ → ℕ → Code → Code
forward_turn d line body = body +++ one line (assign (helper count d) none (bin plus (var (helper count d)) (literal 1)))

abbrev pub backward_turn : ℕ → ℕ → List ℕ → Code → Code
backward_turn d line x body = set_own line (plain x) (bin plus (var (helper first d)) (bin times (var (helper turn d)) (var (helper stride d)))) body

-- the first value, the step and the number of the turn stand in their helpers
pub record AtTurn (d : ℕ) (a c : ℤ) (i : ℕ) (s : Store ℤ) : Type 0 where
  pub start : s (helper first d) 0 ≡ a
  pub step_is : s (helper stride d) 0 ≡ c
  pub number : s (helper turn d) 0 ≡ add (pos i) (negsuc 0)

module _ (q : Calls ℤ) (sh : Var → Shape) (level : ℕ) (xs : List Key) (d line : ℕ) (x : List ℕ) (one_cell : size_of (sh (plain x)) ≡ 1) (a0 c0 : ℤ) (needed needed_last held held_last : Vars) (needs : (y : List ℕ) → name_eq y x ≡ false → In (plain y) needed → In (plain y) needed_last) (holds : (y : List ℕ) → name_eq y x ≡ false → In (plain y) held_last → In (plain y) held) (Fb Bb : Code) (wr : Vars) (spares : wr (plain x) ≡ false) where
  abbrev nw : Setting ℤ
  nw = on_words sh level

  abbrev wrote : Vars
  wrote = joined (just (plain x)) wr

  -- ---- with a backward sweep

  pub record TurnsBack (m j : ℕ) (base : Course) (f g : Store ℤ) (t t' : List ℤ) (change : Words → Words) (loops : List LoopRun) : Type 0 where
    pub after : Store ℤ
    pub reversals : List Reversal
    pub reversed : AreReversed loops reversals
    pub runs : TurnsCome q nw m (backward_turn (suc d) line x Bb) (helper turn (suc d)) (negsuc 0) base g after t t' reversals
    pub same : SameOn sh held f after
    pub off : SameOff wrote g after
    pub pairs : (y : Words) → pairing xs (shadows after) y ≡ pairing xs (shadows g) (change y)
    pub depth : SameDepth d g after
    pub at : AtTurn (suc d) a0 c0 j after

  pub record TurnsForth (m j : ℕ) (base : Course) (u' f : Store ℤ) (t : List ℤ) (change : Words → Words) (loops : List LoopRun) : Type 0 where
    pub to : Store ℤ
    pub trail : List ℤ
    pub runs : TurnsCome q nw m (forward_turn (suc d) line Fb) (plain x) c0 base f to t (trail ++ t) []
    pub same : SameOn sh needed u' to
    pub off : SameOff wrote f to
    pub shadows : (y : List ℕ) (i : ℕ) → to (shadow y) i ≡ f (shadow y) i
    pub depth : SameDepth d f to
    pub counted_is : to (helper count (suc d)) 0 ≡ pos (j + m)
    pub start : to (helper first (suc d)) 0 ≡ f (helper first (suc d)) 0
    pub step_is : to (helper stride (suc d)) 0 ≡ f (helper stride (suc d)) 0
    pub back : (b : Course) (g : Store ℤ) → SameOn sh held to g → AtTurn (suc d) a0 c0 (j + m) g → TurnsBack m j b f g (trail ++ t) t change loops

  -- the sweeps of m turns from the j-th on, which take the values u to u'
  pub record LoopSwept (m j : ℕ) (u u' : Store ℤ) (change : Words → Words) (loops : List LoopRun) : Type 0 where
    pub forth : (b : Course) (f : Store ℤ) (t : List ℤ) → SameOn sh needed u f → f (plain x) 0 ≡ u (plain x) 0 → f (helper count (suc d)) 0 ≡ pos j → TurnsForth m j b u' f t change loops

  pub swept_none : (j : ℕ) (u : Store ℤ) → LoopSwept 0 j u u (λ z. z) []
  swept_none j u = record {
    forth = λ b f t s v c. record {
      to = f;
      trail = [];
      runs = turns_none q nw (forward_turn (suc d) line Fb) (plain x) c0 b f t;
      same = s;
      off = record { at = λ y i o. refl };
      shadows = λ y i. refl;
      depth = record { at = λ r i k lt le. refl };
      counted_is = let e : j ≡ j + 0 = omega arith in c ∙ ap pos e;
      start = refl;
      step_is = refl;
      back = λ b1 g r k. record {
        after = g;
        reversals = [];
        reversed = tt;
        runs = turns_none q nw (backward_turn (suc d) line x Bb) (helper turn (suc d)) (negsuc 0) b1 g t;
        same = r;
        off = record { at = λ y i o. refl };
        pairs = λ y. refl;
        depth = record { at = λ o i n lt le. refl };
        at = let e : j + 0 ≡ j = omega arith in record { start = k.start; step_is = k.step_is; number = k.number ∙ ap (λ n. add (pos n) (negsuc 0)) e };
      };
    };
  }

  pub swept_more : (m j : ℕ) (u ub u' : Store ℤ) (c1 c2 : Words → Words) (l1 l2 : List LoopRun) → suc j < 2 ^ 63 → u (plain x) 0 ≡ add a0 (mul (pos j) c0) → ub (plain x) 0 ≡ u (plain x) 0 → Sweeps q sh level xs (suc d) Fb Bb needed needed_last held held_last wr u ub c1 l1 → LoopSwept m (suc j) (set ub (plain x) 0 (add (ub (plain x) 0) c0)) u' c2 l2 → LoopSwept (suc m) j u u' (λ z. c2 (c1 z)) (l2 ++ l1)
  swept_more m j u ub u' c1 c2 l1 l2 small value_is keeps s rest = record {
    forth = λ b f t same v c.
        let k1 = s.way b f t same in
        let l = k1.trail ++ t in
        let n = add (k1.to (helper count (suc d)) 0) (pos 1) in
        let f2 = set k1.to (helper count (suc d)) 0 n in
        let f3 = set f2 (plain x) 0 (add (f2 (plain x) 0) c0) in
        let before : k1.to (helper count (suc d)) 0 ≡ pos j = k1.depth.at count (suc d) 0 (omega arith) (omega arith) ∙ c in
        let here : f3 (helper count (suc d)) 0 ≡ pos (suc j) = rw (nat_refl (suc d)) (ap (λ z. add z (pos 1)) before ∙ count_up j small) in
        let fx : f2 (plain x) 0 ≡ ub (plain x) 0 = k1.off.at x 0 spares ∙ v ∙ sym keeps in
        let same2 : SameOn sh needed_last ub f2 = record { at = λ y i lt o. k1.same.at y i lt o } in
        let same3 = same_set sh x one_cell needed_last needed ub f2 (add (ub (plain x) 0) c0) (add (f2 (plain x) 0) c0) (ap (λ z. add z c0) fx) needs same2 in
        let counting = comes_leads q nw (one line (assign (helper count (suc d)) none (bin plus (var (helper count (suc d))) (literal 1)))) k1.runs.later k1.to f2 l l
        (leads_step q nw line (assign (helper count (suc d)) none (bin plus (var (helper count (suc d))) (literal 1))) stop (scene k1.runs.later k1.to l) (scene k1.runs.later f2 l) (scene k1.runs.later f2 l) (λ k. refl) (leads_stop q nw (scene k1.runs.later f2 l))) in
        let turn_runs = comes_append q nw Fb (one line (assign (helper count (suc d)) none (bin plus (var (helper count (suc d))) (literal 1)))) b f k1.to f2 t l l k1.runs counting in
        let moved : f3 (plain x) 0 ≡ set ub (plain x) 0 (add (ub (plain x) 0) c0) (plain x) 0 = rw (name_refl x) (ap (λ z. add z c0) fx) in
        let r = rest.forth turn_runs.later f3 l same3 moved here in
        let e : r.trail ++ (k1.trail ++ t) ≡ (r.trail ++ k1.trail) ++ t = sym (append_assoc r.trail k1.trail t) in
        let count_is : suc j + m ≡ j + suc m = omega arith in
        record {
          to = r.to;
          trail = r.trail ++ k1.trail;
          runs = subst (λ (z : List ℤ). TurnsCome q nw (suc m) (forward_turn (suc d) line Fb) (plain x) c0 b f r.to t z []) e
              (turns_more q nw (forward_turn (suc d) line Fb) (plain x) c0 m b f f2 r.to t l (r.trail ++ l) turn_runs r.runs);
          same = r.same;
          off = record { at = λ y i o. let p = or_false (name_eq y x) (wr (plain y)) o in r.off.at y i o ∙ rw p.0 (k1.off.at y i p.1) };
          shadows = λ y i. r.shadows y i ∙ k1.shadows y i;
          depth = record { at = λ o i k lt le. r.depth.at o i k lt le ∙ (rw (other_depth d (role_code o) 5 i le) (k1.depth.at o i k lt (omega arith))) };
          counted_is = r.counted_is ∙ ap pos count_is;
          start = r.start ∙ k1.depth.at first (suc d) 0 (omega arith) (omega arith);
          step_is = r.step_is ∙ k1.depth.at stride (suc d) 0 (omega arith) (omega arith);
          back = λ b1 g h at.
              let at1 : AtTurn (suc d) a0 c0 (suc j + m) g = record { start = at.start; step_is = at.step_is; number = at.number ∙ ap (λ z. add (pos z) (negsuc 0)) (sym count_is) } in
              let k2 = r.back b1 g h at1 in
              let w = add (k2.after (helper first (suc d)) 0) (mul (k2.after (helper turn (suc d)) 0) (k2.after (helper stride (suc d)) 0)) in
              let lower : k2.after (helper turn (suc d)) 0 ≡ pos j = k2.at.number ∙ count_down j (omega arith) in
              let w_is : w ≡ add a0 (mul (pos j) c0) = λ i. add (k2.at.start i) (mul (lower i) (k2.at.step_is i)) in
              let g2 = set k2.after (plain x) 0 w in
              let f2x : w ≡ f2 (plain x) 0 = w_is ∙ sym value_is ∙ sym keeps ∙ sym fx in
              let back_same = same_back sh x one_cell held held_last f2 k2.after (add (f2 (plain x) 0) c0) w f2x holds k2.same in
              let k3 = k1.returns k2.runs.later g2 (record { at = λ y i lt o. back_same.at y i lt o }) in
              let g3 = set k3.after (helper turn (suc d)) 0 (add (k3.after (helper turn (suc d)) 0) (negsuc 0)) in
              let setting : Comes q nw (backward_turn (suc d) line x Bb) k2.runs.later k2.after k3.after l t k3.reversals = record {
                later = k3.runs.later;
                tells = k3.runs.tells;
                runs = leads_step q nw line (assign (plain x) none (bin plus (var (helper first (suc d))) (bin times (var (helper turn (suc d))) (var (helper stride (suc d)))))) Bb (scene k2.runs.later k2.after l) (scene k2.runs.later g2 l) (scene k3.runs.later k3.after t) (λ k. refl) k3.runs.runs;
              } in
              record {
                after = g3;
                reversals = k2.reversals ++ k3.reversals;
                reversed = reversed_append l2 l1 k2.reversals k3.reversals k2.reversed k3.reversed;
                runs = subst (λ (z : List ℤ). TurnsCome q nw (suc m) (backward_turn (suc d) line x Bb) (helper turn (suc d)) (negsuc 0) b1 g g3 z t (k2.reversals ++ k3.reversals)) e
                    (turns_then q nw (backward_turn (suc d) line x Bb) (helper turn (suc d)) (negsuc 0) m b1 g k2.after k3.after (r.trail ++ l) l t k2.runs setting);
                same = record { at = λ y i lt o. k3.same.at y i lt o };
                off = record { at = λ y i o. let p = or_false (name_eq y x) (wr (plain y)) o in k3.off.at y i p.1 ∙ rw p.0 (k2.off.at y i o) };
                pairs = λ y. k3.pairs y ∙ k2.pairs (c1 y);
                depth = record { at = λ o i k lt le. rw (other_depth d (role_code o) 6 i le) (k3.depth.at o i k lt (omega arith) ∙ k2.depth.at o i k lt le) };
                at = record {
                  start = k3.depth.at first (suc d) 0 (omega arith) (omega arith) ∙ k2.at.start;
                  step_is = k3.depth.at stride (suc d) 0 (omega arith) (omega arith) ∙ k2.at.step_is;
                  number = rw (nat_refl (suc d)) (ap (λ n. add n (negsuc 0)) (k3.depth.at turn (suc d) 0 (omega arith) (omega arith) ∙ lower));
                };
              };
        };
  }
