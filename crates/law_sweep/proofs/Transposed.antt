-- Code that was run, its derivative along the run, and its sweeps: they go together one after another.
use Rattle.std.proofs.Common.{◌≡◌, ℕ, Bool, true, false, List, [], ◌++◌, refl, sym, ◌∙◌}
use Rattle.std.specs.Prelude.{ℤ, pos, ◌&&◌}
use Rattle.adj_tree.specs.Code.{Var, plain, Code, stop}
use Rattle.def_meaning.specs.Append.{◌+++◌}
use Rattle.def_meaning.specs.Store.{Shape, Store}
use Rattle.def_meaning.specs.Run.{Calls}
use Rattle.def_names.specs.Numbers.{Vars}
use Rattle.def_sweep.specs.Marks.{Marks}
use Rattle.def_sweep.specs.Facts.{In, joined, without, Facts}
use Rattle.law_sweep.specs.Pairs.{Key, Words, with_tangents, on_duals}
use Rattle.law_sweep.specs.Scenes.{Course}
use Rattle.def_names.proofs.Variables.{or_false, and_true}
use Rattle.def_sweep.specs.Callees.{nothing}
use Rattle.law_sweep.specs.Laws.{WayLaws, TangentLaws}
use Rattle.law_sweep.specs.Passing.{plainly}
use Rattle.def_sweep.specs.Reversals.{LoopRun, ReversedLines}
use Rattle.law_sweep.specs.Runs.{Passes}
use Rattle.law_sweep.proofs.Runs.{passes_stop, passes_append}
use Rattle.law_sweep.proofs.Sweeps.{IsCell, Matches, Sweeps, sweeps_stop, sweeps_between, sweeps_append, sweeps_more}

module _ (q : Calls ℤ) (lines : ReversedLines) (qd : Calls (ℤ × ℤ)) (sh : Var → Shape) (level : ℕ) (xs : List Key) (w : Facts) (d : ℕ) (present : Bool) where
  -- code that takes the values u to u' between two points, and its sweeps in loops of depth d; where it is inert, no statement of it
  -- is adjointed
  pub record Transposed (written : Vars) (inert : Bool) (from to : ℕ) (c forth back : Code) (u u' : Store ℤ) : Type 0 where
    -- its derivative along the run, and the map whose transpose the backward sweep applies to the shadows
    pub derivative : Words → Words
    pub change : Words → Words
    -- the runs of loops that are to be reversed, from the last to the first
    pub loops : List LoopRun
    pub dual : (home : Course) (y : Words) (t : List (ℤ × ℤ)) → Passes lines qd (on_duals (plainly sh) level) c home (with_tangents u y) (with_tangents u' (derivative y)) t loops
    -- where the unit's adjoint is emitted
    pub sweeps : present ≡ true → Sweeps q sh level xs d forth back (w.needed from) (w.needed to) (w.held from) (w.held to) written u u' change loops
    pub matches : (y z : Words) → Matches sh w.marks from y z → Matches sh w.marks to (derivative y) (change z)
    -- neither changes the tangents of a variable that isn't written
    pub unwritten : (k : Key) → written (plain k.0) ≡ false → (y : Words) → (derivative y k ≡ y k) × (change y k ≡ y k)
    pub still : inert ≡ true → (y : Words) (k : Key) → change y k ≡ y k
    -- where no statement is adjointed no loop is reversed
    pub none_reversed : inert ≡ true → loops ≡ []

  -- one after the other
  pub transposed_append : (w1 w2 : Vars) (i1 i2 : Bool) (p1 p2 p3 : ℕ) (c1 c2 f1 f2 b1 b2 : Code) (u u1 u2 : Store ℤ) → Transposed w1 i1 p1 p2 c1 f1 b1 u u1 → Transposed w2 i2 p2 p3 c2 f2 b2 u1 u2 → Transposed (joined w1 w2) (i1 && i2) p1 p3 (c1 +++ c2) (f1 +++ f2) (b2 +++ b1) u u2
  transposed_append w1 w2 i1 i2 p1 p2 p3 c1 c2 f1 f2 b1 b2 u u1 u2 s t = record {
    derivative = λ y. t.derivative (s.derivative y);
    change = λ y. t.change (s.change y);
    loops = t.loops ++ s.loops;
    dual = λ home y tape.
        let a = s.dual home y tape in
        passes_append qd (on_duals (plainly sh) level) lines s.loops t.loops c1 c2 home (with_tangents u y) (with_tangents u1 (s.derivative y)) (with_tangents u2 (t.derivative (s.derivative y))) tape a (t.dual a.later (s.derivative y) tape);
    sweeps = λ e. sweeps_append q sh level xs d f1 f2 b1 b2 (w.needed p1) (w.needed p2) (w.needed p3) (w.held p1) (w.held p2) (w.held p3) w1 w2 u u1 u2 s.change t.change s.loops t.loops (s.sweeps e) (t.sweeps e);
    matches = λ y z m. t.matches (s.derivative y) (s.change z) (s.matches y z m);
    unwritten = λ k n y.
        let p = or_false (w1 (plain k.0)) (w2 (plain k.0)) n in
        ((t.unwritten k p.1 (s.derivative y)).0 ∙ (s.unwritten k p.0 y).0, (t.unwritten k p.1 (s.change y)).1 ∙ (s.unwritten k p.0 y).1);
    still = λ e y k. let p = and_true i1 i2 e in t.still p.1 (s.change y) k ∙ s.still p.0 y k;
    none_reversed = λ e. let p = and_true i1 i2 e in (λ i. t.none_reversed p.1 i ++ s.none_reversed p.0 i);
  }

-- ---- ways on which nothing is assigned

without_none : (a : Vars) (v : Var) → In v a → In v (without a nothing)
without_none a v h = rw h refl

contrary : (a b : Bool) → (a ≡ true → b ≡ true) → b ≡ false → a ≡ false
contrary true b h n = absurd (let c : true ≡ false = sym (h refl) ∙ n in cc)
contrary false b h n = refl

and_less : (a b c : Bool) → (a ≡ true → b ≡ true) → (b && c) ≡ false → (a && c) ≡ false
and_less true b c h n = let p : c ≡ (b && c) = rw (h refl) refl in p ∙ n
and_less false b c h n = refl

-- a cell at which nothing happens from p to r
module _ (sh : Var → Shape) (m : Marks) (p r : ℕ) (y z : Words) (h : Matches sh m p y z) (k : Key) (o : IsCell sh k) (varies : In (plain k.0) (m.varied p) → In (plain k.0) (m.varied r)) (serves : In (plain k.0) (m.useful r) → In (plain k.0) (m.useful p)) where
  pub still_support : m.varied r (plain k.0) ≡ false → y k ≡ pos 0
  still_support n = h.support k o (contrary _ _ varies n)

  pub still_shadowed : (m.varied r (plain k.0) && m.shadowed (plain k.0)) ≡ false → z k ≡ pos 0
  still_shadowed n = h.shadowed k o (and_less _ _ _ varies n)

  pub still_equal : In (plain k.0) (m.varied r) → In (plain k.0) (m.useful r) → z k ≡ y k
  still_equal a b = go (m.varied p (plain k.0)) refl
    where
      go : (t : Bool) → m.varied p (plain k.0) ≡ t → z k ≡ y k
      go true v = h.equal k o v (serves b)
      go false v = h.shadowed k o (rw v refl) ∙ sym (h.support k o v)

pub matches_way : (sh : Var → Shape) (m : Marks) (p r : ℕ) (y z : Words) → TangentLaws m nothing p r → Matches sh m p y z → Matches sh m r y z
matches_way sh m p r y z laws h = record {
  support = λ k o. still_support sh m p r y z h k o (λ v. laws.varies (plain k.0) (without_none (m.varied p) (plain k.0) v)) (λ v. laws.serves (plain k.0) (without_none (m.useful r) (plain k.0) v));
  shadowed = λ k o. still_shadowed sh m p r y z h k o (λ v. laws.varies (plain k.0) (without_none (m.varied p) (plain k.0) v)) (λ v. laws.serves (plain k.0) (without_none (m.useful r) (plain k.0) v));
  equal = λ k o. still_equal sh m p r y z h k o (λ v. laws.varies (plain k.0) (without_none (m.varied p) (plain k.0) v)) (λ v. laws.serves (plain k.0) (without_none (m.useful r) (plain k.0) v));
}

module _ (q : Calls ℤ) (lines : ReversedLines) (qd : Calls (ℤ × ℤ)) (sh : Var → Shape) (level : ℕ) (xs : List Key) (w : Facts) (d : ℕ) (present : Bool) where
  -- the code from an earlier point
  pub transposed_from : (n : Vars) (i : Bool) (p0 p1 p2 : ℕ) (c f b : Code) (u u' : Store ℤ) → WayLaws w p0 p1 → Transposed q lines qd sh level xs w d present n i p1 p2 c f b u u' → Transposed q lines qd sh level xs w d present n i p0 p2 c f b u u'
  transposed_from n i p0 p1 p2 c f b u u' l t = record {
    derivative = t.derivative;
    change = t.change;
    loops = t.loops;
    dual = t.dual;
    sweeps = λ e. sweeps_between q sh level xs d f b (w.needed p0) (w.needed p1) (w.needed p2) (w.needed p2) (w.held p0) (w.held p1) (w.held p2) (w.held p2) n u u' t.change t.loops
        (λ v h. l.values.needs v (without_none (w.needed p1) v h)) (λ v h. l.values.holds v (without_none (w.held p0) v h)) (λ v h. h) (λ v h. h) (t.sweeps e);
    matches = λ y z m. t.matches y z (matches_way sh w.marks p0 p1 y z l.tangents m);
    unwritten = t.unwritten;
    still = t.still;
    none_reversed = t.none_reversed;
  }

  -- the code to a later point
  pub transposed_to : (n : Vars) (i : Bool) (p0 p1 p2 : ℕ) (c f b : Code) (u u' : Store ℤ) → WayLaws w p1 p2 → Transposed q lines qd sh level xs w d present n i p0 p1 c f b u u' → Transposed q lines qd sh level xs w d present n i p0 p2 c f b u u'
  transposed_to n i p0 p1 p2 c f b u u' l t = record {
    derivative = t.derivative;
    change = t.change;
    loops = t.loops;
    dual = t.dual;
    sweeps = λ e. sweeps_between q sh level xs d f b (w.needed p0) (w.needed p0) (w.needed p1) (w.needed p2) (w.held p0) (w.held p0) (w.held p1) (w.held p2) n u u' t.change t.loops
        (λ v h. h) (λ v h. h) (λ v h. l.values.needs v (without_none (w.needed p2) v h)) (λ v h. l.values.holds v (without_none (w.held p1) v h)) (t.sweeps e);
    matches = λ y z m. matches_way sh w.marks p1 p2 (t.derivative y) (t.change z) l.tangents (t.matches y z m);
    unwritten = t.unwritten;
    still = t.still;
    none_reversed = t.none_reversed;
  }

  -- no statements
  pub transposed_none : (p : ℕ) (u : Store ℤ) → Transposed q lines qd sh level xs w d present nothing true p p stop stop stop u u
  transposed_none p u = record {
    derivative = λ y. y;
    change = λ y. y;
    loops = [];
    dual = λ home y t. passes_stop qd (on_duals (plainly sh) level) lines home (with_tangents u y) t;
    sweeps = λ e. sweeps_stop q sh level xs d (w.needed p) (w.needed p) (w.held p) (w.held p) nothing u (λ v h. h) (λ v h. h);
    matches = λ y z m. m;
    unwritten = λ k n y. (refl, refl);
    still = λ e y k. refl;
    none_reversed = λ e. refl;
  }

  -- where more may be written, and less is known to be inert
  pub transposed_more : (n1 n2 : Vars) (i1 i2 : Bool) (p1 p2 : ℕ) (c f b : Code) (u u' : Store ℤ) → ((x : List ℕ) → n2 (plain x) ≡ false → n1 (plain x) ≡ false) → (i2 ≡ true → i1 ≡ true) → Transposed q lines qd sh level xs w d present n1 i1 p1 p2 c f b u u' → Transposed q lines qd sh level xs w d present n2 i2 p1 p2 c f b u u'
  transposed_more n1 n2 i1 i2 p1 p2 c f b u u' less inert t = record {
    derivative = t.derivative;
    change = t.change;
    loops = t.loops;
    dual = t.dual;
    sweeps = λ e. sweeps_more q sh level xs d f b (w.needed p1) (w.needed p2) (w.held p1) (w.held p2) n1 n2 u u' t.change t.loops less (t.sweeps e);
    matches = t.matches;
    unwritten = λ k n y. t.unwritten k (less k.0 n) y;
    still = λ e y k. t.still (inert e) y k;
    none_reversed = λ e. t.none_reversed (inert e);
  }
