-- What the two sweeps of a list do along a run, and that they do it one list after another.
use Rattle.std.proofs.Common.{◌≡◌, ◌<◌, ℕ, false, List, [], ◌++◌, refl, sym, ◌∙◌, subst, append_assoc}
use Rattle.std.specs.Prelude.{ℤ, pos, ◌&&◌}
use Rattle.adj_tree.specs.Code.{Var, plain, shadow, Code, stop}
use Rattle.adj_word.specs.Pairing.{pairing}
use Rattle.def_meaning.specs.Store.{Shape, size_of, Store}
use Rattle.def_meaning.specs.Append.{◌+++◌}
use Rattle.def_meaning.specs.Run.{Calls}
use Rattle.def_names.specs.Numbers.{Vars}
use Rattle.def_sweep.specs.Marks.{Marks}
use Rattle.def_sweep.specs.Facts.{In, Within, joined}
use Rattle.law_sweep.specs.Pairs.{Key, Words, shadows, on_words}
use Rattle.law_sweep.specs.Scenes.{Course}
use Rattle.law_sweep.proofs.Turned.{SameDepth}
use Rattle.def_names.proofs.Variables.{or_false}
use Rattle.def_sweep.specs.Reversals.{Reversal, LoopRun, AreReversed}
use Rattle.law_sweep.specs.Runs.{Comes, SameOn, SameOff}
use Rattle.law_sweep.proofs.Told.{reversed_append}
use Rattle.law_sweep.proofs.Runs.{comes_stop, comes_append, same_within}

-- ---- tangents at a point

-- a cell of its variable
abbrev pub IsCell : (Var → Shape) → Key → Type 0
IsCell sh k = k.1 < size_of (sh (plain k.0))

-- `y` are the tangents of the dual run, and `z` those of which the backward sweep is the transpose: only varied variables have a
-- tangent; in the sweeps only those that have a shadow besides; and what is varied and useful has one tangent
pub record Matches (sh : Var → Shape) (m : Marks) (p : ℕ) (y z : Words) : Type 0 where
  pub support : (k : Key) → IsCell sh k → m.varied p (plain k.0) ≡ false → y k ≡ pos 0
  pub shadowed : (k : Key) → IsCell sh k → (m.varied p (plain k.0) && m.shadowed (plain k.0)) ≡ false → z k ≡ pos 0
  pub equal : (k : Key) → IsCell sh k → In (plain k.0) (m.varied p) → In (plain k.0) (m.useful p) → z k ≡ y k

-- ---- sweeps

module _ (q : Calls ℤ) (sh : Var → Shape) (level : ℕ) (xs : List Key) (d : ℕ) where
  -- the backward sweep comes from g and the tape to the tape that the forward sweep had, and to a store with the values of f that
  -- are held; it changes none but what the program may write, and turns the shadows as the transpose of `change`
  pub record Returns (b : Code) (held written : Vars) (base : Course) (f g : Store ℤ) (t t' : List ℤ) (change : Words → Words) (loops : List LoopRun) : Type 0 where
    pub after : Store ℤ
    -- it reverses these runs of loops
    pub reversals : List Reversal
    pub reversed : AreReversed loops reversals
    pub runs : Comes q (on_words sh level) b base g after t t' reversals
    pub same : SameOn sh held f after
    pub off : SameOff written g after
    pub pairs : (y : Words) → pairing xs (shadows after) y ≡ pairing xs (shadows g) (change y)
    pub depth : SameDepth d g after

  -- the forward sweep comes from f to a store with the values of u' that are needed there, and leaves the shadows;
  -- from each store with the values that are held there the backward sweep returns
  pub record Way (forth back : Code) (needed held_before held written : Vars) (base : Course) (u' f : Store ℤ) (t : List ℤ) (change : Words → Words) (loops : List LoopRun) : Type 0 where
    pub to : Store ℤ
    pub trail : List ℤ
    pub runs : Comes q (on_words sh level) forth base f to t (trail ++ t) []
    pub same : SameOn sh needed u' to
    pub off : SameOff written f to
    pub shadows : (x : List ℕ) (i : ℕ) → to (shadow x) i ≡ f (shadow x) i
    pub depth : SameDepth d f to
    pub returns : (b : Course) (g : Store ℤ) → SameOn sh held to g → Returns back held_before written b f g (trail ++ t) t change loops

  -- the sweeps of code that takes the values u to u', between two points
  pub record Sweeps (forth back : Code) (needed needed' held held' written : Vars) (u u' : Store ℤ) (change : Words → Words) (loops : List LoopRun) : Type 0 where
    pub way : (b : Course) (f : Store ℤ) (t : List ℤ) → SameOn sh needed u f → Way forth back needed' held held' written b u' f t change loops

  -- no statements: less may be needed after them, and more held
  pub sweeps_stop : (needed needed' held held' written : Vars) (u : Store ℤ) → Within needed' needed → Within held held' → Sweeps stop stop needed needed' held held' written u u (λ y. y) []
  sweeps_stop needed needed' held held' written u n h = record {
    way = λ b f t s. record {
      to = f;
      trail = [];
      runs = comes_stop q (on_words sh level) b f t;
      same = same_within sh needed needed' u f n s;
      off = record { at = λ x j e. refl };
      shadows = λ x i. refl;
      depth = record { at = λ r i c lt le. refl };
      returns = λ b1 g r. record {
        after = g;
        reversals = [];
        reversed = tt;
        runs = comes_stop q (on_words sh level) b1 g t;
        same = same_within sh held' held f g h r;
        off = record { at = λ x j e. refl };
        pairs = λ y. refl;
        depth = record { at = λ r i c lt le. refl };
      };
    };
  }

  -- from an earlier point, where more may be needed and less held, to a later one
  pub sweeps_between : (forth back : Code) (n n1 n2 n3 h h1 h2 h3 w : Vars) (u u' : Store ℤ) (c : Words → Words) (loops : List LoopRun) → Within n1 n → Within h h1 → Within n3 n2 → Within h2 h3 → Sweeps forth back n1 n2 h1 h2 w u u' c loops → Sweeps forth back n n3 h h3 w u u' c loops
  sweeps_between forth back n n1 n2 n3 h h1 h2 h3 w u u' c loops n_less h_more n3_less h2_less s = record {
    way = λ b f t a.
        let k = s.way b f t (same_within sh n n1 u f n_less a) in
        record {
          to = k.to;
          trail = k.trail;
          runs = k.runs;
          same = same_within sh n2 n3 u' k.to n3_less k.same;
          off = k.off;
          shadows = k.shadows;
          depth = k.depth;
          returns = λ b1 g r.
              let e = k.returns b1 g (same_within sh h3 h2 k.to g h2_less r) in
              record { after = e.after; reversals = e.reversals; reversed = e.reversed; runs = e.runs; same = same_within sh h1 h f e.after h_more e.same; off = e.off; pairs = e.pairs; depth = e.depth };
        };
  }

  -- where more may be written
  pub sweeps_more : (forth back : Code) (n n' h h' w1 w2 : Vars) (u u' : Store ℤ) (c : Words → Words) (loops : List LoopRun) → ((x : List ℕ) → w2 (plain x) ≡ false → w1 (plain x) ≡ false) → Sweeps forth back n n' h h' w1 u u' c loops → Sweeps forth back n n' h h' w2 u u' c loops
  sweeps_more forth back n n' h h' w1 w2 u u' c loops less s = record {
    way = λ b f t a.
        let k = s.way b f t a in
        record {
          to = k.to;
          trail = k.trail;
          runs = k.runs;
          same = k.same;
          off = record { at = λ x j o. k.off.at x j (less x o) };
          shadows = k.shadows;
          depth = k.depth;
          returns = λ b1 g r.
              let e = k.returns b1 g r in
              record { after = e.after; reversals = e.reversals; reversed = e.reversed; runs = e.runs; same = e.same; off = record { at = λ x j o. e.off.at x j (less x o) }; pairs = e.pairs; depth = e.depth };
        };
  }

  -- one after another: the backward sweeps in the other order
  pub sweeps_append : (f1 f2 b1 b2 : Code) (n n1 n2 h h1 h2 w1 w2 : Vars) (u u1 u2 : Store ℤ) (c1 c2 : Words → Words) (l1 l2 : List LoopRun) → Sweeps f1 b1 n n1 h h1 w1 u u1 c1 l1 → Sweeps f2 b2 n1 n2 h1 h2 w2 u1 u2 c2 l2 → Sweeps (f1 +++ f2) (b2 +++ b1) n n2 h h2 (joined w1 w2) u u2 (λ y. c2 (c1 y)) (l2 ++ l1)
  sweeps_append f1 f2 b1 b2 n n1 n2 h h1 h2 w1 w2 u u1 u2 c1 c2 l1 l2 s1 s2 = record {
    way = λ b f t s.
        let k1 = s1.way b f t s in
        let k2 = s2.way k1.runs.later k1.to (k1.trail ++ t) k1.same in
        let e : k2.trail ++ (k1.trail ++ t) ≡ (k2.trail ++ k1.trail) ++ t = sym (append_assoc k2.trail k1.trail t) in
        record {
          to = k2.to;
          trail = k2.trail ++ k1.trail;
          runs = subst (λ (l : List ℤ). Comes q (on_words sh level) (f1 +++ f2) b f k2.to t l []) e
              (comes_append q (on_words sh level) f1 f2 b f k1.to k2.to t (k1.trail ++ t) (k2.trail ++ (k1.trail ++ t)) k1.runs k2.runs);
          same = k2.same;
          off = record { at = λ x j o. let p = or_false (w1 (plain x)) (w2 (plain x)) o in k2.off.at x j p.1 ∙ k1.off.at x j p.0 };
          shadows = λ x i. k2.shadows x i ∙ k1.shadows x i;
          depth = record { at = λ r i c lt le. k2.depth.at r i c lt le ∙ k1.depth.at r i c lt le };
          returns = λ b g r.
              let r2 = k2.returns b g r in
              let r1 = k1.returns r2.runs.later r2.after r2.same in
              record {
                after = r1.after;
                reversals = r2.reversals ++ r1.reversals;
                reversed = reversed_append l2 l1 r2.reversals r1.reversals r2.reversed r1.reversed;
                runs = subst (λ (l : List ℤ). Comes q (on_words sh level) (b2 +++ b1) b g r1.after l t (r2.reversals ++ r1.reversals)) e
                    (comes_append q (on_words sh level) b2 b1 b g r2.after r1.after (k2.trail ++ (k1.trail ++ t)) (k1.trail ++ t) t r2.runs r1.runs);
                same = r1.same;
                off = record { at = λ x j o. let p = or_false (w1 (plain x)) (w2 (plain x)) o in r1.off.at x j p.0 ∙ r2.off.at x j p.1 };
                pairs = λ y. r1.pairs y ∙ r2.pairs (c1 y);
                depth = record { at = λ r i c lt le. r1.depth.at r i c lt le ∙ r2.depth.at r i c lt le };
              };
        };
  }
