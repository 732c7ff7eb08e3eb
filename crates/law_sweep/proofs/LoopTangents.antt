-- What the turns of a DO make of tangents: that of its variable is 0 throughout.
use Rattle.std.proofs.Common.{◌≡◌, ◌<◌, ℕ, suc, Bool, true, false, List, [], ◌++◌, refl, sym, ap, ◌∙◌, subst, arith, if◌then◌else◌}
use Rattle.std.specs.Prelude.{ℤ, pos, ◌==◌, ◌&&◌}
use Rattle.adj_tree.specs.Code.{Var, plain, shadow, helper, name_eq, Code}
use Rattle.adj_tree.proofs.Names.{name_refl, name_same}
use Rattle.adj_word.specs.Word.{add}
use Rattle.adj_word.specs.Pairing.{put}
use Rattle.def_meaning.specs.Store.{Shape, size_of, Store, set}
use Rattle.def_meaning.specs.Value.{Setting}
use Rattle.def_meaning.specs.Run.{Calls}
use Rattle.def_names.specs.Numbers.{Vars}
use Rattle.def_sweep.specs.Marks.{Marks}
use Rattle.def_sweep.specs.Facts.{In, Facts}
use Rattle.law_sweep.specs.Pairs.{Key, key_eq, Words, with_tangents, on_words, on_duals}
use Rattle.law_sweep.specs.Scenes.{Course}
use Rattle.law_sweep.specs.Laws.{just, TangentLaws}
use Rattle.def_sweep.specs.Reversals.{LoopRun, ReversedLines}
use Rattle.law_sweep.specs.Passing.{plainly}
use Rattle.law_sweep.proofs.Sweeps.{IsCell, Matches}
use Rattle.law_sweep.proofs.Transposed.{Transposed, still_support, still_shadowed, still_equal}
use Rattle.law_sweep.proofs.Turns.{next_store, TurnsPass, turns_pass_none, turns_pass_more}

-- a cell with a value without tangent
pub set_dual : (x : List ℕ) (u : Store ℤ) (y : Words) (v : ℤ) → (let p : ℤ × ℤ = (v, pos 0) in set (with_tangents u y) (plain x) 0 p ≡ with_tangents (set u (plain x) 0 v) (put key_eq y (x, 0) (pos 0)))
set_dual x u y v = λ i z j. at z j i
  where
    at : (z : Var) (j : ℕ) → (let p : ℤ × ℤ = (v, pos 0) in set (with_tangents u y) (plain x) 0 p z j ≡ with_tangents (set u (plain x) 0 v) (put key_eq y (x, 0) (pos 0)) z j)
    at (plain z) j = go (name_eq z x && (j == 0))
      where
        go : (b : Bool) → (let p : ℤ × ℤ = (v, pos 0) in let o : ℤ × ℤ = (u (plain z) j, y (z, j)) in let r : ℤ × ℤ = ((if b then v else u (plain z) j), (if b then pos 0 else y (z, j))) in (if b then p else o) ≡ r)
        go true = refl
        go false = refl
    at (shadow z) j = refl
    at (helper r k) j = refl

module _ (sh : Var → Shape) (x : List ℕ) (one_cell : size_of (sh (plain x)) ≡ 1) where
  -- a cell of the variable is its only one
  pub only_cell : (k : Key) → IsCell sh k → name_eq k.0 x ≡ true → k ≡ (x, 0)
  only_cell k c e =
      let n : k.0 ≡ x = name_same k.0 x e in
      let l : k.1 < 1 = subst (λ m. k.1 < m) (ap (λ y. size_of (sh (plain y))) n ∙ one_cell) c in
      let z : k.1 ≡ 0 = omega arith in
      λ i. (n i, z i)

  put_here : (y : Words) (k : Key) → k ≡ (x, 0) → put key_eq y (x, 0) (pos 0) k ≡ pos 0
  put_here y k e = ap (put key_eq y (x, 0) (pos 0)) e ∙ ap (λ b. if b && (0 == 0) then pos 0 else y (x, 0)) (name_refl x)

  pub put_there : (y : Words) (k : Key) → name_eq k.0 x ≡ false → put key_eq y (x, 0) (pos 0) k ≡ y k
  put_there y k e = ap (λ b. if b && (k.1 == 0) then pos 0 else y k) e

  -- across a way that assigns the variable whole, without tangent
  pub matches_cut : (m : Marks) (p r : ℕ) (y z z' : Words) → TangentLaws m (just (plain x)) p r → Matches sh m p y z → ((k : Key) → name_eq k.0 x ≡ false → z' k ≡ z k) → z' (x, 0) ≡ pos 0 → Matches sh m r (put key_eq y (x, 0) (pos 0)) z'
  matches_cut m p r y z z' laws h else_same here = record {
    support = λ k c n. go_support k c n (name_eq k.0 x) refl;
    shadowed = λ k c n. go_shadowed k c n (name_eq k.0 x) refl;
    equal = λ k c a b. go_equal k c a b (name_eq k.0 x) refl;
  }
    where
      varies : (k : Key) → name_eq k.0 x ≡ false → In (plain k.0) (m.varied p) → In (plain k.0) (m.varied r)
      varies k e v = laws.varies (plain k.0) (rw (v, e) refl)

      serves : (k : Key) → name_eq k.0 x ≡ false → In (plain k.0) (m.useful r) → In (plain k.0) (m.useful p)
      serves k e v = laws.serves (plain k.0) (rw (v, e) refl)

      own : (k : Key) → IsCell sh k → name_eq k.0 x ≡ true → z' k ≡ pos 0
      own k c e = ap z' (only_cell k c e) ∙ here

      go_support : (k : Key) → IsCell sh k → m.varied r (plain k.0) ≡ false → (b : Bool) → name_eq k.0 x ≡ b → put key_eq y (x, 0) (pos 0) k ≡ pos 0
      go_support k c n true e = put_here y k (only_cell k c e)
      go_support k c n false e = put_there y k e ∙ still_support sh m p r y z h k c (varies k e) (serves k e) n

      go_shadowed : (k : Key) → IsCell sh k → (m.varied r (plain k.0) && m.shadowed (plain k.0)) ≡ false → (b : Bool) → name_eq k.0 x ≡ b → z' k ≡ pos 0
      go_shadowed k c n true e = own k c e
      go_shadowed k c n false e = else_same k e ∙ still_shadowed sh m p r y z h k c (varies k e) (serves k e) n

      go_equal : (k : Key) → IsCell sh k → In (plain k.0) (m.varied r) → In (plain k.0) (m.useful r) → (b : Bool) → name_eq k.0 x ≡ b → z' k ≡ put key_eq y (x, 0) (pos 0) k
      go_equal k c v s true e = own k c e ∙ sym (put_here y k (only_cell k c e))
      go_equal k c v s false e = else_same k e ∙ still_equal sh m p r y z h k c (varies k e) (serves k e) v s ∙ sym (put_there y k e)

module _ (q : Calls ℤ) (lines : ReversedLines) (qd : Calls (ℤ × ℤ)) (sh : Var → Shape) (level : ℕ) (xs : List Key) (w : Facts) (d : ℕ) (present : Bool) (x : List ℕ) (one_cell : size_of (sh (plain x)) ≡ 1) (c0 : ℤ) (inside last : ℕ) (step_laws : TangentLaws w.marks (just (plain x)) last inside) (body Fb Bb : Code) (wr : Vars) (spares : wr (plain x) ≡ false) (inert : Bool) where
  abbrev nw : Setting ℤ
  nw = on_words (plainly sh) level

  abbrev nd : Setting (ℤ × ℤ)
  nd = on_duals (plainly sh) level

  -- m turns take the values u to u'
  pub record LoopTangents (m : ℕ) (u u' : Store ℤ) : Type 0 where
    pub derivative : Words → Words
    pub change : Words → Words
    pub loops : List LoopRun
    pub dual : (home : Course) (y : Words) (t : List (ℤ × ℤ)) → TurnsPass lines qd nd m body (plain x) c0 home (with_tangents u y) (with_tangents u' (derivative y)) t loops
    pub matches : (y z : Words) → Matches sh w.marks inside y z → z (x, 0) ≡ pos 0 → Matches sh w.marks inside (derivative y) (change z)
    pub zero : (z : Words) → change z (x, 0) ≡ z (x, 0)
    pub unwritten : (k : Key) → name_eq k.0 x ≡ false → wr (plain k.0) ≡ false → (y : Words) → (derivative y k ≡ y k) × (change y k ≡ y k)
    pub still : inert ≡ true → (y : Words) (k : Key) → change y k ≡ y k
    pub none_reversed : inert ≡ true → loops ≡ []

  abbrev pub tangents_none : (u : Store ℤ) → LoopTangents 0 u u
  tangents_none u = record {
    derivative = λ y. y;
    change = λ z. z;
    loops = [];
    dual = λ home y t. turns_pass_none qd nd body (plain x) c0 lines home (with_tangents u y) t;
    matches = λ y z h e. h;
    zero = λ z. refl;
    unwritten = λ k n o y. (refl, refl);
    still = λ e y k. refl;
    none_reversed = λ e. refl;
  }

  abbrev pub tangents_more : (m : ℕ) (u ub u' : Store ℤ) → Transposed q lines qd sh level xs w (suc d) present wr inert inside last body Fb Bb u ub → LoopTangents m (next_store nw (plain x) c0 ub) u' → LoopTangents (suc m) u u'
  tangents_more m u ub u' t rest =
      let after = λ (y : Words). put key_eq (t.derivative y) (x, 0) (pos 0) in
      record {
        derivative = λ y. rest.derivative (after y);
        change = λ z. rest.change (t.change z);
        loops = rest.loops ++ t.loops;
        dual = λ home y l.
            let one = t.dual home y l in
            turns_pass_more qd nd body (plain x) c0 lines t.loops rest.loops m home (with_tangents u y) (with_tangents ub (t.derivative y)) (with_tangents u' (rest.derivative (after y))) l one
            (subst (λ (s : Store (ℤ × ℤ)). TurnsPass lines qd nd m body (plain x) c0 one.later s (with_tangents u' (rest.derivative (after y))) l rest.loops) (sym (set_dual x ub (t.derivative y) (add (ub (plain x) 0) c0))) (rest.dual one.later (after y) l));
        matches = λ y z h e.
            let kept : t.change z (x, 0) ≡ pos 0 = (t.unwritten (x, 0) spares z).1 ∙ e in
            rest.matches (after y) (t.change z) (matches_cut sh x one_cell w.marks last inside (t.derivative y) (t.change z) (t.change z) step_laws (t.matches y z h) (λ k n. refl) kept) kept;
        zero = λ z. rest.zero (t.change z) ∙ (t.unwritten (x, 0) spares z).1;
        unwritten = λ k n o y.
            let one = t.unwritten k o y in
            ((rest.unwritten k n o (after y)).0 ∙ put_there sh x one_cell (t.derivative y) k n ∙ one.0, (rest.unwritten k n o (t.change y)).1 ∙ one.1);
        still = λ e y k. rest.still e (t.change y) k ∙ t.still e y k;
        none_reversed = λ e. (λ i. rest.none_reversed e i ++ t.none_reversed e i);
      }
