-- The turns of a DO whose body has no backward sweep, and of one that is left out.
use Rattle.std.proofs.Common.{◌≡◌, ◌<◌, ◌≤◌, ℕ, suc, ◌+◌, Bool, true, false, List, [], ◌∷◌, ◌++◌, length, refl, sym, ap, ◌∙◌, subst, arith, append_assoc}
use Rattle.std.specs.Prelude.{ℤ, pos}
use Rattle.adj_tree.specs.Code.{Var, plain, shadow, helper, name_eq, Code, stop}
use Rattle.adj_tree.proofs.Names.{name_refl, name_same}
use Rattle.std.proofs.lemmas.List.{append-nil, length-append}
use Rattle.adj_word.specs.Word.{add}
use Rattle.adj_word.specs.Pairing.{pairing}
use Rattle.def_meaning.specs.Store.{Shape, size_of, Store, set}
use Rattle.def_meaning.specs.Event.{Event}
use Rattle.def_meaning.specs.Value.{Setting}
use Rattle.def_meaning.specs.Scene.{Scene}
use Rattle.def_meaning.specs.Run.{Calls}
use Rattle.law_meaning.proofs.Inversions.{done_same}
use Rattle.def_names.specs.Numbers.{Vars}
use Rattle.def_sweep.specs.Facts.{In, joined}
use Rattle.law_sweep.specs.Pairs.{Key, Words, shadows, on_words}
use Rattle.law_sweep.specs.Scenes.{Course, scene}
use Rattle.def_names.proofs.Variables.{or_false}
use Rattle.law_sweep.proofs.Turned.{SameDepth}
use Rattle.law_sweep.specs.Laws.{just}
use Rattle.def_sweep.specs.Reversals.{Reversal, LoopRun, reversals_in, AreReversed}
use Rattle.law_sweep.specs.Tells.{in_order}
use Rattle.law_sweep.specs.Runs.{Comes, SameOn, SameOff}
use Rattle.law_sweep.proofs.Told.{reversed_append}
use Rattle.law_sweep.proofs.Runs.{same_refl}
use Rattle.law_sweep.proofs.Sweeps.{Way, Sweeps}
use Rattle.law_sweep.proofs.Turns.{TurnsCome, turns_none, turns_more}
use Rattle.law_sweep.proofs.LoopSweeps.{same_set}

-- no statements leave store and tape
pub stop_comes : {rs : List Reversal} (q : Calls ℤ) (n : Setting ℤ) (base : Course) (s s' : Store ℤ) (t t' : List ℤ) → Comes q n stop base s s' t t' rs → (s' ≡ s) × (t' ≡ t)
stop_comes q n base s s' t t' c =
    let e : scene base s t ≡ scene c.later s' t' = done_same (scene base s t) (scene c.later s' t') (c.runs.cost + 0) 0 (c.runs.by 0) in
    (ap (λ (z : Scene ℤ). z.store) (sym e), ap (λ (z : Scene ℤ). z.tape) (sym e))

-- and tell of no reversal
pub stop_tells : {rs : List Reversal} (q : Calls ℤ) (n : Setting ℤ) (base : Course) (s s' : Store ℤ) (t t' : List ℤ) → Comes q n stop base s s' t t' rs → rs ≡ []
stop_tells {rs} q n base s s' t t' c =
    let e : scene base s t ≡ scene c.later s' t' = done_same (scene base s t) (scene c.later s' t') (c.runs.cost + 0) 0 (c.runs.by 0) in
    let none : c.tells.told ≡ [] = nothing_more c.tells.told base.events (sym c.tells.events ∙ ap (λ (z : Scene ℤ). z.events) (sym e)) in
    sym (append-nil rs) ∙ sym (c.tells.is.all []) ∙ ap (λ z. reversals_in (in_order z [])) none
  where
    nothing_more : (a es : List Event) → a ++ es ≡ es → a ≡ []
    nothing_more [] es h = refl
    nothing_more (e ∷ a) es h =
        let l : suc (length a + length es) ≡ length es = sym (ap suc (length-append a es)) ∙ ap length h in
        absurd (omega (arith, l))

-- the store f with other shadows
abbrev pub with_shadow_words : Store ℤ → Words → Store ℤ
with_shadow_words f s (plain y) j = f (plain y) j
with_shadow_words f s (shadow y) j = s (y, j)
with_shadow_words f s (helper r k) j = f (helper r k) j

module _ (q : Calls ℤ) (sh : Var → Shape) (level : ℕ) (xs : List Key) (d : ℕ) where
  -- what code without a backward sweep does on the way: it keeps what was held, pushes nothing, and has no derivative that counts
  pub record Silently (held : Vars) (f to : Store ℤ) (trail t : List ℤ) (change : Words → Words) (loops : List LoopRun) : Type 0 where
    pub stays : SameOn sh held f to
    pub flat : trail ++ t ≡ t
    pub pairs : (s y : Words) → pairing xs s y ≡ pairing xs s (change y)
    pub unreversed : AreReversed loops []

  pub silently : (forth : Code) (n held held' wr : Vars) (base : Course) (u' f : Store ℤ) (t : List ℤ) (change : Words → Words) (loops : List LoopRun) (k : Way q sh level xs d forth stop n held held' wr base u' f t change loops) → Silently held f k.to k.trail t change loops
  silently forth n held held' wr base u' f t change loops k =
      let g = λ (s : Words). with_shadow_words k.to s in
      let r = λ (s : Words). k.returns base (g s) (record { at = λ y j l i. refl }) in
      let e = λ (s : Words). stop_comes q (on_words sh level) base (g s) (r s).after (k.trail ++ t) t (r s).runs in
      record {
        stays = record { at = λ y j l i. sym (ap (λ (z : Store ℤ). z (plain y) j) (e (λ z. pos 0)).0) ∙ (r (λ z. pos 0)).same.at y j l i };
        flat = sym (e (λ z. pos 0)).1;
        pairs = λ s y. ap (λ (z : Store ℤ). pairing xs (shadows z) y) (sym (e s).0) ∙ (r s).pairs y;
        unreversed = subst (AreReversed loops) (stop_tells q (on_words sh level) base (g (λ z. pos 0)) (r (λ z. pos 0)).after (k.trail ++ t) t (r (λ z. pos 0)).runs) (r (λ z. pos 0)).reversed;
      }

module _ (q : Calls ℤ) (sh : Var → Shape) (level : ℕ) (xs : List Key) (d : ℕ) (x : List ℕ) (one_cell : size_of (sh (plain x)) ≡ 1) (c0 : ℤ) (needed needed_last held held_last : Vars) (needs : (y : List ℕ) → name_eq y x ≡ false → In (plain y) needed → In (plain y) needed_last) (Fb : Code) (wr : Vars) (spares : wr (plain x) ≡ false) where
  abbrev nw : Setting ℤ
  nw = on_words sh level

  abbrev wrote : Vars
  wrote = joined (just (plain x)) wr

  pub record SilentForth (m : ℕ) (base : Course) (u' f : Store ℤ) (t : List ℤ) (change : Words → Words) : Type 0 where
    pub to : Store ℤ
    pub trail : List ℤ
    pub runs : TurnsCome q nw m Fb (plain x) c0 base f to t (trail ++ t) []
    pub same : SameOn sh needed u' to
    pub off : SameOff wrote f to
    pub shadows : (y : List ℕ) (i : ℕ) → to (shadow y) i ≡ f (shadow y) i
    pub depth : SameDepth d f to
    pub stays : (y : List ℕ) (j : ℕ) → j < size_of (sh (plain y)) → name_eq y x ≡ false → In (plain y) held → to (plain y) j ≡ f (plain y) j
    pub flat : trail ++ t ≡ t

  -- m turns that take the values u to u'
  pub record LoopSilent (m : ℕ) (u u' : Store ℤ) (change : Words → Words) (loops : List LoopRun) : Type 0 where
    pub forth : (b : Course) (f : Store ℤ) (t : List ℤ) → SameOn sh needed u f → f (plain x) 0 ≡ u (plain x) 0 → SilentForth m b u' f t change
    pub pairs : (s y : Words) → pairing xs s y ≡ pairing xs s (change y)
    pub unreversed : AreReversed loops []

  pub silent_none : (u : Store ℤ) → LoopSilent 0 u u (λ z. z) []
  silent_none u = record {
    forth = λ b f t s v. record {
      to = f;
      trail = [];
      runs = turns_none q nw Fb (plain x) c0 b f t;
      same = s;
      off = record { at = λ y i o. refl };
      shadows = λ y i. refl;
      depth = record { at = λ r i k lt le. refl };
      stays = λ y j l e i. refl;
      flat = refl;
    };
    pairs = λ s y. refl;
    unreversed = tt;
  }

  -- a store that agrees on what is needed, made of the values of the program alone
  pub silent_more : (m : ℕ) (u ub u' : Store ℤ) (c1 c2 : Words → Words) (l1 l2 : List LoopRun) → ub (plain x) 0 ≡ u (plain x) 0 → Sweeps q sh level xs (suc d) Fb stop needed needed_last held held_last wr u ub c1 l1 → LoopSilent m (set ub (plain x) 0 (add (ub (plain x) 0) c0)) u' c2 l2 → LoopSilent (suc m) u u' (λ z. c2 (c1 z)) (l2 ++ l1)
  silent_more m u ub u' c1 c2 l1 l2 keeps s rest = record {
    forth = λ b f t same v.
        let k1 = s.way b f t same in
        let q1 = silently q sh level xs (suc d) Fb needed_last held held_last wr b ub f t c1 l1 k1 in
        let l = k1.trail ++ t in
        let f3 = set k1.to (plain x) 0 (add (k1.to (plain x) 0) c0) in
        let fx : k1.to (plain x) 0 ≡ ub (plain x) 0 = k1.off.at x 0 spares ∙ v ∙ sym keeps in
        let same3 = same_set sh x one_cell needed_last needed ub k1.to (add (ub (plain x) 0) c0) (add (k1.to (plain x) 0) c0) (ap (λ z. add z c0) fx) needs k1.same in
        let moved : f3 (plain x) 0 ≡ set ub (plain x) 0 (add (ub (plain x) 0) c0) (plain x) 0 = rw (name_refl x) (ap (λ z. add z c0) fx) in
        let r = rest.forth k1.runs.later f3 l same3 moved in
        let e : r.trail ++ (k1.trail ++ t) ≡ (r.trail ++ k1.trail) ++ t = sym (append_assoc r.trail k1.trail t) in
        record {
          to = r.to;
          trail = r.trail ++ k1.trail;
          runs = subst (λ (z : List ℤ). TurnsCome q nw (suc m) Fb (plain x) c0 b f r.to t z []) e
              (turns_more q nw Fb (plain x) c0 m b f k1.to r.to t l (r.trail ++ l) k1.runs r.runs);
          same = r.same;
          off = record { at = λ y i o. let p = or_false (name_eq y x) (wr (plain y)) o in r.off.at y i o ∙ rw p.0 (k1.off.at y i p.1) };
          shadows = λ y i. r.shadows y i ∙ k1.shadows y i;
          depth = record { at = λ o i k lt le. r.depth.at o i k lt le ∙ k1.depth.at o i k lt (le_suc i d le) };
          stays = λ y j lt n i. r.stays y j lt n i ∙ rw n (q1.stays.at y j lt i);
          flat = sym e ∙ r.flat ∙ q1.flat;
        };
    pairs = λ s0 y.
        let k1 = s.way no_kept u [] (same_refl sh needed u) in
        let q1 = silently q sh level xs (suc d) Fb needed_last held held_last wr no_kept ub u [] c1 l1 k1 in
        q1.pairs s0 y ∙ rest.pairs s0 (c1 y);
    unreversed =
        let k1 = s.way no_kept u [] (same_refl sh needed u) in
        reversed_append l2 l1 [] [] rest.unreversed (silently q sh level xs (suc d) Fb needed_last held held_last wr no_kept ub u [] c1 l1 k1).unreversed;
  }
    where
      le_suc : (i d : ℕ) → i ≤ d → i ≤ suc d
      le_suc i d h = omega arith

      no_kept : Course
      no_kept = record { opened = 0; events = [] }

  -- ---- a loop that is left out

  -- m turns, of which nothing is in the sweeps, and whose variable isn't needed
  pub record LoopLeft (m : ℕ) (u u' : Store ℤ) (change : Words → Words) (loops : List LoopRun) : Type 0 where
    pub same : (f : Store ℤ) → SameOn sh needed u f → SameOn sh needed u' f
    pub pairs : (s y : Words) → pairing xs s y ≡ pairing xs s (change y)
    pub unreversed : AreReversed loops []

  pub left_none : (u : Store ℤ) → LoopLeft 0 u u (λ z. z) []
  left_none u = record { same = λ f s. s; pairs = λ s y. refl; unreversed = tt }

  pub left_more : (m : ℕ) (u ub u' : Store ℤ) (c1 c2 : Words → Words) (l1 l2 : List LoopRun) → needed (plain x) ≡ false → Sweeps q sh level xs (suc d) stop stop needed needed_last held held_last wr u ub c1 l1 → LoopLeft m (set ub (plain x) 0 (add (ub (plain x) 0) c0)) u' c2 l2 → LoopLeft (suc m) u u' (λ z. c2 (c1 z)) (l2 ++ l1)
  left_more m u ub u' c1 c2 l1 l2 idle s rest = record {
    same = λ f a.
        let k1 = s.way no_kept f [] a in
        let e = stop_comes q nw no_kept f k1.to [] (k1.trail ++ []) k1.runs in
        rest.same f (record { at = λ y j l i. go f y j l i (name_eq y x) refl (ap (λ (z : Store ℤ). z (plain y) j) (sym e.0)) (k1.same.at y j l) });
    pairs = λ s0 y.
        let k1 = s.way no_kept u [] (same_refl sh needed u) in
        let q1 = silently q sh level xs (suc d) stop needed_last held held_last wr no_kept ub u [] c1 l1 k1 in
        q1.pairs s0 y ∙ rest.pairs s0 (c1 y);
    unreversed =
        let k1 = s.way no_kept u [] (same_refl sh needed u) in
        reversed_append l2 l1 [] [] rest.unreversed (silently q sh level xs (suc d) stop needed_last held held_last wr no_kept ub u [] c1 l1 k1).unreversed;
  }
    where
      no_kept : Course
      no_kept = record { opened = 0; events = [] }

      go : (f : Store ℤ) (y : List ℕ) (j : ℕ) → j < size_of (sh (plain y)) → In (plain y) needed → (b : Bool) → name_eq y x ≡ b → {k : ℤ} → f (plain y) j ≡ k → (In (plain y) needed_last → k ≡ ub (plain y) j) → f (plain y) j ≡ set ub (plain x) 0 (add (ub (plain x) 0) c0) (plain y) j
      go f y j l i true n e h = absurd (let c : true ≡ false = sym i ∙ ap (λ z. needed (plain z)) (name_same y x n) ∙ idle in cc)
      go f y j l i false n e h = rw n (e ∙ h (needs y n i))
