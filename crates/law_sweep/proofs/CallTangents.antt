-- What a call makes of tangents, in the dual run and in the sweeps.
use Rattle.std.proofs.Common.{◌≡◌, ◌<◌, ℕ, Bool, true, false, List, refl, sym, ap, ◌∙◌, subst, if◌then◌else◌}
use Rattle.std.specs.Prelude.{pos, ◌&&◌, Option, Some, None}
use Rattle.adj_tree.specs.Code.{Var, plain}
use Rattle.def_meaning.specs.Store.{Shape, size_of}
use Rattle.def_names.specs.Numbers.{Vars}
use Rattle.def_sweep.specs.Marks.{Marks}
use Rattle.def_names.specs.Numbering.{point_before, point_after}
use Rattle.def_sweep.specs.Facts.{In, Facts}
use Rattle.def_meaning.specs.Apart.{AreApart}
use Rattle.law_sweep.specs.Pairs.{Key, Words}
use Rattle.def_sweep.specs.Plan.{beside, IsActual, found_or}
use Rattle.def_sweep.specs.Callees.{CalleeFacts}
use Rattle.law_sweep.specs.Laws.{CallLaws, PassingLaws}
use Rattle.law_sweep.proofs.Passing.{beside_back}
use Rattle.law_sweep.proofs.Sweeps.{IsCell, Matches}
use Rattle.law_sweep.proofs.Transposed.{still_support, still_shadowed, still_equal}

module _ (shadowed : Vars) (ds given : List (List ℕ)) where
  -- the tangents that are handed to the unit, in the dual run and in the sweeps
  abbrev pub tangents_in : Words → Words
  tangents_in y k = found_or (beside ds given k.0) (pos 0) (λ a. y (a, k.1))

  abbrev pub shadows_in : Words → Words
  shadows_in z k = if shadowed (plain k.0) then found_or (beside ds given k.0) (pos 0) (λ a. z (a, k.1)) else pos 0

  -- the tangents after the call, where `inner` is what the unit makes of them
  abbrev pub tangents_out : (Words → Words) → Words → Words
  tangents_out inner y k = found_or (beside given ds k.0) (y k) (λ d. inner (tangents_in y) (d, k.1))

  abbrev pub shadows_out : (Words → Words) → Words → Words
  shadows_out inner z k = found_or (beside given ds k.0) (z k) (λ d. if shadowed (plain d) then inner (shadows_in z) (d, k.1) else z k)

-- the laws of a call that is adjointed by its own have those of each call
pub passing_of : {w : Facts} {i : ℕ} {g : CalleeFacts} {given : List (List ℕ)} → CallLaws w i g given → PassingLaws w i g given
passing_of laws = record {
  values = laws.values;
  tangents = laws.tangents;
  needs_uses = laws.needs_uses;
  varies_in = laws.varies_in;
  serves_in = laws.serves_in;
  varies_out = laws.varies_out;
  serves_out = laws.serves_out;
  shadows_actual = laws.shadows_actual;
  shadows_dummy = laws.shadows_dummy;
}

module _ (sh shG : Var → Shape) (w : Facts) (i : ℕ) (g : CalleeFacts) (given : List (List ℕ)) (sizes : (d a : List ℕ) → IsActual g.callee.dummies given d a → size_of (sh (plain a)) ≡ size_of (shG (plain d))) (laws : PassingLaws w i g given) (own : (v : Var) → g.callee.shadowed v ≡ g.facts.marks.shadowed v) (apart : AreApart g.callee.dummies) (apart' : AreApart given) where
  abbrev m : Marks
  m = w.marks

  abbrev n : Marks
  n = g.facts.marks

  abbrev ds : List (List ℕ)
  ds = g.callee.dummies

  abbrev p : ℕ
  p = point_before i

  abbrev r : ℕ
  r = point_after i

  contrary : (a b : Bool) → (a ≡ true → b ≡ true) → b ≡ false → a ≡ false
  contrary true b h e = absurd (let c : true ≡ false = sym (h refl) ∙ e in cc)
  contrary false b h e = refl

  -- where d isn't varied at the entry, its actual isn't varied before the call
  unvaried : (d a : List ℕ) → beside ds given d ≡ Some a → n.varied g.entry (plain d) ≡ false → m.varied p (plain a) ≡ false
  unvaried d a b e = contrary _ _ (laws.varies_in d a b) e

  -- where the actual has a shadow and the dummy has none, the actual isn't varied
  idle : (d a : List ℕ) → beside ds given d ≡ Some a → g.callee.shadowed (plain d) ≡ false → m.shadowed (plain a) ≡ true → m.varied p (plain a) ≡ false
  idle d a b e f = unvaried d a b (contrary _ _ (λ v. laws.shadows_dummy d a b v f) e)

  and_none : (a b : Bool) → a ≡ false → (a && b) ≡ false
  and_none a b e = rw e refl

  and_none_right : (a b : Bool) → b ≡ false → (a && b) ≡ false
  and_none_right true b e = e
  and_none_right false b e = refl

  and_left : (a b : Bool) → b ≡ true → (a && b) ≡ false → a ≡ false
  and_left true b e o = sym e ∙ o
  and_left false b e o = refl

  -- the tangents that are handed in match at the unit's entry
  pub matches_in : ((v : Var) → In v (n.varied g.entry) → In v (n.useful g.entry) → In v n.shadowed) → (y z : Words) → Matches sh m p y z → Matches shG n g.entry (tangents_in g.callee.shadowed ds given y) (shadows_in g.callee.shadowed ds given z)
  matches_in shadows y z h = record {
    support = λ k o e. support k o (beside ds given k.0) refl e;
    shadowed = λ k o e. shadowed k o (g.callee.shadowed (plain k.0)) refl (beside ds given k.0) refl e;
    equal = λ k o a b. equal k o (beside ds given k.0) refl a b;
  }
    where
      -- the cell of the actual
      inner : (k : Key) → IsCell shG k → (a : List ℕ) → beside ds given k.0 ≡ Some a → IsCell sh (a, k.1)
      inner k o a b = subst (λ l. k.1 < l) (sym (sizes k.0 a b)) o

      support : (k : Key) → IsCell shG k → (o : Option (List ℕ)) → beside ds given k.0 ≡ o → n.varied g.entry (plain k.0) ≡ false → found_or o (pos 0) (λ a. y (a, k.1)) ≡ pos 0
      support k c None b e = refl
      support k c (Some a) b e = h.support (a, k.1) (inner k c a b) (unvaried k.0 a b e)

      shadowed : (k : Key) → IsCell shG k → (t : Bool) → g.callee.shadowed (plain k.0) ≡ t → (o : Option (List ℕ)) → beside ds given k.0 ≡ o → (n.varied g.entry (plain k.0) && n.shadowed (plain k.0)) ≡ false → (if t then found_or o (pos 0) (λ a. z (a, k.1)) else pos 0) ≡ pos 0
      shadowed k q false c o b e = refl
      shadowed k q true c None b e = refl
      shadowed k q true c (Some a) b e = h.shadowed (a, k.1) (inner k q a b) (and_none _ _ (unvaried k.0 a b (and_left _ _ (sym (own (plain k.0)) ∙ c) e)))

      equal : (k : Key) → IsCell shG k → (o : Option (List ℕ)) → beside ds given k.0 ≡ o → In (plain k.0) (n.varied g.entry) → In (plain k.0) (n.useful g.entry) → (if g.callee.shadowed (plain k.0) then found_or o (pos 0) (λ a. z (a, k.1)) else pos 0) ≡ found_or o (pos 0) (λ a. y (a, k.1))
      equal k q None b v s = go (g.callee.shadowed (plain k.0))
        where
          go : (t : Bool) → (if t then pos 0 else pos 0) ≡ pos 0
          go true = refl
          go false = refl
      equal k q (Some a) b v s = ap (λ t. if t then z (a, k.1) else pos 0) (own (plain k.0) ∙ shadows (plain k.0) v s) ∙ go (m.varied p (plain a)) refl
        where
          go : (t : Bool) → m.varied p (plain a) ≡ t → z (a, k.1) ≡ y (a, k.1)
          go true e = h.equal (a, k.1) (inner k q a b) e (laws.serves_in k.0 a b s)
          go false e = h.shadowed (a, k.1) (inner k q a b) (and_none _ _ e) ∙ sym (h.support (a, k.1) (inner k q a b) e)

  -- and where they match at the unit's end, so they do after the call
  pub matches_out : ((v : Var) → In v (n.varied g.end) → In v (n.useful g.end) → In v n.shadowed) → (derivative change : Words → Words) (y z : Words) → Matches sh m p y z → Matches shG n g.end (derivative (tangents_in g.callee.shadowed ds given y)) (change (shadows_in g.callee.shadowed ds given z)) → Matches sh m r (tangents_out g.callee.shadowed ds given derivative y) (shadows_out g.callee.shadowed ds given change z)
  matches_out shadows_end derivative change y z h e = record {
    support = λ k c o. support k c (beside given ds k.0) refl o;
    shadowed = λ k c o. shadowed k c (beside given ds k.0) refl o;
    equal = λ k c a b. equal k c (beside given ds k.0) refl a b;
  }
    where
      yi : Words
      yi = tangents_in g.callee.shadowed ds given y

      zi : Words
      zi = shadows_in g.callee.shadowed ds given z

      -- a cell of no actual
      varies : (k : Key) → beside given ds k.0 ≡ None → In (plain k.0) (m.varied p) → In (plain k.0) (m.varied r)
      varies k b v = laws.tangents.varies (plain k.0) (rw (v, b) refl)

      serves : (k : Key) → beside given ds k.0 ≡ None → In (plain k.0) (m.useful r) → In (plain k.0) (m.useful p)
      serves k b v = laws.tangents.serves (plain k.0) (rw (v, b) refl)

      actual : (a d : List ℕ) → beside given ds a ≡ Some d → beside ds given d ≡ Some a
      actual a d b = beside_back given ds apart' apart a d b

      -- the cell of the dummy
      outer : (k : Key) → IsCell sh k → (d : List ℕ) → beside given ds k.0 ≡ Some d → IsCell shG (d, k.1)
      outer k o d b = subst (λ l. k.1 < l) (sizes d k.0 (actual k.0 d b)) o

      -- an actual that isn't varied after the call is that of a dummy that isn't varied at the end
      ended : (a d : List ℕ) → beside given ds a ≡ Some d → m.varied r (plain a) ≡ false → n.varied g.end (plain d) ≡ false
      ended a d b o = contrary _ _ (laws.varies_out d a (actual a d b)) o

      support : (k : Key) → IsCell sh k → (f : Option (List ℕ)) → beside given ds k.0 ≡ f → m.varied r (plain k.0) ≡ false → found_or f (y k) (λ d. derivative yi (d, k.1)) ≡ pos 0
      support k q None b o = still_support sh m p r y z h k q (varies k b) (serves k b) o
      support k q (Some d) b o = e.support (d, k.1) (outer k q d b) (ended k.0 d b o)

      shadowed : (k : Key) → IsCell sh k → (f : Option (List ℕ)) → beside given ds k.0 ≡ f → (m.varied r (plain k.0) && m.shadowed (plain k.0)) ≡ false → found_or f (z k) (λ d. if g.callee.shadowed (plain d) then change zi (d, k.1) else z k) ≡ pos 0
      shadowed k q None b o = still_shadowed sh m p r y z h k q (varies k b) (serves k b) o
      shadowed k q (Some d) b o = go (g.callee.shadowed (plain d)) refl
        where
          go : (t : Bool) → g.callee.shadowed (plain d) ≡ t → (if t then change zi (d, k.1) else z k) ≡ pos 0
          go true c =
              let s : m.shadowed (plain k.0) ≡ true = laws.shadows_actual d k.0 (actual k.0 d b) c in
              e.shadowed (d, k.1) (outer k q d b) (and_none _ _ (ended k.0 d b (and_left _ _ s o)))
          go false c = h.shadowed k q (other (m.shadowed (plain k.0)) refl)
            where
              other : (t : Bool) → m.shadowed (plain k.0) ≡ t → (m.varied p (plain k.0) && t) ≡ false
              other true s = and_none _ _ (idle d k.0 (actual k.0 d b) c s)
              other false s = and_none_right (m.varied p (plain k.0)) false refl

      equal : (k : Key) → IsCell sh k → (f : Option (List ℕ)) → beside given ds k.0 ≡ f → In (plain k.0) (m.varied r) → In (plain k.0) (m.useful r) → found_or f (z k) (λ d. if g.callee.shadowed (plain d) then change zi (d, k.1) else z k) ≡ found_or f (y k) (λ d. derivative yi (d, k.1))
      equal k q None b v s = still_equal sh m p r y z h k q (varies k b) (serves k b) v s
      equal k q (Some d) b v s = go (g.callee.shadowed (plain d)) refl (n.varied g.end (plain d)) refl
        where
          go : (t : Bool) → g.callee.shadowed (plain d) ≡ t → (f : Bool) → n.varied g.end (plain d) ≡ f → (if t then change zi (d, k.1) else z k) ≡ derivative yi (d, k.1)
          go true c true f = e.equal (d, k.1) (outer k q d b) f (laws.serves_out d k.0 (actual k.0 d b) s)
          go true c false f = e.shadowed (d, k.1) (outer k q d b) (and_none _ _ f) ∙ sym (e.support (d, k.1) (outer k q d b) f)
          go false c true f =
              absurd (let n : true ≡ false = sym (shadows_end (plain d) f (laws.serves_out d k.0 (actual k.0 d b) s)) ∙ sym (own (plain d)) ∙ c in cc)
          go false c false f =
              let has : m.shadowed (plain k.0) ≡ true = laws.tangents.shadows (plain k.0) v s in
              h.shadowed k q (and_none _ _ (idle d k.0 (actual k.0 d b) c has)) ∙ sym (e.support (d, k.1) (outer k q d b) f)
