-- The sweeps of a call, with marks that meet its laws.
use Rattle.std.proofs.Common.{◌≡◌, ◌<◌, ℕ, Bool, true, false, List, [], ◌∷◌, ◌++◌, length, map, refl, sym, ap, ◌∙◌, subst, append_assoc, if◌then◌else◌}
use Rattle.std.specs.Prelude.{ℤ, ◌&&◌, ◌||◌, Option, Some, None}
use Rattle.adj_tree.specs.Code.{Role, Var, plain, shadow, helper, name_eq, call, Code}
use Rattle.adj_tree.proofs.Names.{name_same}
use Rattle.adj_word.specs.Pairing.{pairing}
use Rattle.def_meaning.specs.Append.{◌+++◌, one}
use Rattle.def_meaning.specs.Store.{Shape, size_of, Store}
use Rattle.def_meaning.specs.Run.{Calls}
use Rattle.def_names.specs.Numbers.{Vars, everything}
use Rattle.def_sweep.specs.Marks.{Marks}
use Rattle.def_names.specs.Numbering.{point_before, point_after}
use Rattle.def_sweep.specs.Marked.{code_if}
use Rattle.def_sweep.specs.Facts.{In, without, Facts}
use Rattle.def_meaning.specs.Apart.{has_name, AreApart}
use Rattle.law_sweep.specs.Pairs.{Key, Words, shadows, with_tangents, on_words, on_duals}
use Rattle.law_sweep.specs.Scenes.{Course}
use Rattle.def_sweep.specs.Plan.{Callee, Plan, beside, IsActual, actuals_named, names_of, group, save_group, snapshot_group, step_snapshot, found_or, writes_actual}
use Rattle.def_sweep.specs.Rows.{pushes, pops, adjoint_call}
use Rattle.def_sweep.specs.Callees.{nothing, CalleeFacts}
use Rattle.law_sweep.specs.Laws.{CallLaws}
use Rattle.law_sweep.specs.Passing.{plainly}
use Rattle.def_sweep.specs.Reversals.{Reversal, LoopRun, AreReversed, words_taken, ReversedLines}
pub use Rattle.law_sweep.specs.Steps.{ActualsAgree}
use Rattle.law_sweep.specs.Steps.{ActGoes, words_of}
use Rattle.def_sweep.specs.StepUnits.{taken_in}
use Rattle.law_sweep.specs.Runs.{Comes, SameOn, SameOff}
use Rattle.law_sweep.proofs.Entering.{CallPasses}
use Rattle.law_sweep.proofs.Runs.{comes_before, comes_stop, comes_one, comes_append, same_within}
use Rattle.law_sweep.proofs.Sweeps.{Matches, Sweeps}
use Rattle.law_sweep.proofs.Passing.{beside_back, beside_none}
use Rattle.law_sweep.proofs.CallTangents.{tangents_out, shadows_out}
use Rattle.law_sweep.proofs.CallAdjoints.{AdjointCalled}
use Rattle.law_sweep.proofs.Snapshots.{KnowsArrays, Restored}
use Rattle.law_sweep.proofs.Groups.{Pushed, nothing_pushed, group_pushed}

-- ---- what a call does

-- a call of the unit in the forward sweep, from the store f, where the program's takes u to u'
pub record PlainCalled (q : Calls ℤ) (sh : Var → Shape) (level : ℕ) (g : Callee) (given : List (List ℕ)) (name : List ℕ) (line : ℕ) (base : Course) (u u' f : Store ℤ) (t : List ℤ) : Type 0 where
  pub after : Store ℤ
  pub runs : Comes q (on_words sh level) (one line (call name (actuals_named given))) base f after t t []
  -- it is entered with dummies of these shapes, by which a snapshot has as many words as the actuals say
  pub shapes : List Shape
  pub takes : (read : Vars) → words_taken (taken_in g read g.dummies) shapes ≡ words_of sh (step_snapshot g read given)
  pub goes : ActGoes q (on_words sh level) (call name (actuals_named given)) line base f after t t (record { unit = name; height = length t; shapes = shapes } ∷ []) []
  -- where a cell had the value of the program, it has it again
  pub same : (x : List ℕ) (j : ℕ) → f (plain x) j ≡ u (plain x) j → after (plain x) j ≡ u' (plain x) j
  pub off : SameOff (writes_actual g given) f after
  pub shadows : (x : List ℕ) (j : ℕ) → after (shadow x) j ≡ f (shadow x) j
  pub helpers : (r : Role) (k c : ℕ) → after (helper r k) c ≡ f (helper r k) c

-- a call that takes the caller's values u to u': its derivative, that of its adjoint, and what both sweeps need of it
pub record CallTransposed (q : Calls ℤ) (lines : ReversedLines) (qd : Calls (ℤ × ℤ)) (sh : Var → Shape) (level : ℕ) (xs : List Key) (g : CalleeFacts) (given : List (List ℕ)) (name : List ℕ) (line : ℕ) (kept adjointed present : Bool) (u u' : Store ℤ) : Type 0 where
  -- of the unit, over its own cells
  pub derivative : Words → Words
  pub change : Words → Words
  pub shapes : Var → Shape
  pub sizes : (d a : List ℕ) → IsActual g.callee.dummies given d a → size_of (sh (plain a)) ≡ size_of (shapes (plain d))
  pub tangents : (y z : Words) → Matches shapes g.facts.marks g.entry y z → Matches shapes g.facts.marks g.end (derivative y) (change z)
  pub unwritten : (d : List ℕ) → g.callee.written (plain d) ≡ false → (y : Words) (j : ℕ) → (derivative y (d, j) ≡ y (d, j)) × (change y (d, j) ≡ y (d, j))
  pub still : g.plain_unit ≡ true → (y : Words) (k : Key) → change y k ≡ y k
  -- of the call
  -- its runs of loops that are to be reversed; there is none where no statement of the unit is adjointed
  pub loops : List LoopRun
  pub none_reversed : g.plain_unit ≡ true → loops ≡ []
  pub dual : (home : Course) (y : Words) (t : List (ℤ × ℤ)) → CallPasses lines qd (on_duals (plainly sh) level) name (actuals_named given) line home (with_tangents u y) (with_tangents u' (tangents_out nothing g.callee.dummies given derivative y)) t loops (map (λ d. shapes (plain d)) g.callee.dummies)
  pub off : SameOff (writes_actual g.callee given) u u'
  -- in the sweeps of a unit whose adjoint is emitted
  pub again : present ≡ true → kept ≡ true → (base : Course) (f : Store ℤ) (t : List ℤ) → ActualsAgree sh g.callee given g.read u f → PlainCalled q sh level g.callee given name line base u u' f t
  pub back : present ≡ true → adjointed ≡ true → (base : Course) (f : Store ℤ) (t : List ℤ) → ActualsAgree sh g.callee given g.callee.members u f → AdjointCalled q sh level xs g.callee given line base f t (shadows_out g.callee.shadowed g.callee.dummies given change) loops

-- ---- groups

pub names_are : (given : List (List ℕ)) → names_of (actuals_named given) ≡ given
names_are [] = refl
names_are (a ∷ given) = ap (λ l. a ∷ l) (names_are given)

module _ (dummies actuals : Vars) where
  -- what is in a group
  pub group_has : (ds given : List (List ℕ)) (a d : List ℕ) → beside given ds a ≡ Some d → dummies (plain d) ≡ true → actuals (plain a) ≡ true → has_name a (group dummies actuals ds given) ≡ true
  group_has [] [] a d b h o = cc
  group_has [] (g ∷ given) a d b h o = cc
  group_has (e ∷ ds) [] a d b h o = cc
  group_has (e ∷ ds) (g ∷ given) a d b h o = go (name_eq a g) refl b (group_has ds given a d)
    where
      add : (t : Bool) → has_name a (group dummies actuals ds given) ≡ true → has_name a (if t then g ∷ group dummies actuals ds given else group dummies actuals ds given) ≡ true
      add true ih = later (name_eq a g) ih
        where
          later : (n : Bool) → has_name a (group dummies actuals ds given) ≡ true → (n || has_name a (group dummies actuals ds given)) ≡ true
          later true ih = refl
          later false ih = ih
      add false ih = ih

      go : (n : Bool) → name_eq a g ≡ n → (if n then Some e else beside given ds a) ≡ Some d → (beside given ds a ≡ Some d → dummies (plain d) ≡ true → actuals (plain a) ≡ true → has_name a (group dummies actuals ds given) ≡ true) → has_name a (if dummies (plain e) && actuals (plain g) then g ∷ group dummies actuals ds given else group dummies actuals ds given) ≡ true
      go true n b ih =
          let s : e ≡ d = cc in
          let first : dummies (plain e) ≡ true = ap (λ z. dummies (plain z)) s ∙ h in
          let second : actuals (plain g) ≡ true = ap (λ z. actuals (plain z)) (sym (name_same a g n)) ∙ o in
          rw (first, second, n) refl
      go false n b ih = add (dummies (plain e) && actuals (plain g)) (ih b h o)

  -- what isn't: no actual of a dummy in the set
  pub group_out : (ds given : List (List ℕ)) (a : List ℕ) → AreApart given → found_or (beside given ds a) false (λ d. dummies (plain d)) ≡ false → has_name a (group dummies actuals ds given) ≡ false
  group_out [] [] a p h = refl
  group_out [] (g ∷ given) a p h = refl
  group_out (e ∷ ds) [] a p h = refl
  group_out (e ∷ ds) (g ∷ given) a p h = go (name_eq a g) refl h (group_out ds given a p.1)
    where
      go : (n : Bool) → name_eq a g ≡ n → found_or (if n then Some e else beside given ds a) false (λ d. dummies (plain d)) ≡ false → (found_or (beside given ds a) false (λ d. dummies (plain d)) ≡ false → has_name a (group dummies actuals ds given) ≡ false) → has_name a (if dummies (plain e) && actuals (plain g) then g ∷ group dummies actuals ds given else group dummies actuals ds given) ≡ false
      go true n h ih =
          let out : has_name a given ≡ false = ap (λ z. has_name z given) (name_same a g n) ∙ p.0 in
          let none : found_or (beside given ds a) false (λ d. dummies (plain d)) ≡ false = rw (beside_none given ds a out) refl in
          rw h (ih none)
      go false n h ih = put (dummies (plain e) && actuals (plain g)) (ih h)
        where
          put : (t : Bool) → has_name a (group dummies actuals ds given) ≡ false → has_name a (if t then g ∷ group dummies actuals ds given else group dummies actuals ds given) ≡ false
          put true ih = rw n ih
          put false ih = ih

-- ---- the sweeps

-- what is in a set is in it without nothing
pub without_none : (a : Vars) (v : Var) → In v a → In v (without a nothing)
without_none a v h = rw h refl

module _ (q : Calls ℤ) (lines : ReversedLines) (qd : Calls (ℤ × ℤ)) (sh : Var → Shape) (level : ℕ) (xs : List Key) (d : ℕ) (p : Plan) (known : KnowsArrays p sh) (w : Facts) (i : ℕ) (g : CalleeFacts) (given : List (List ℕ)) (apart : AreApart g.callee.dummies) (apart' : AreApart given) (laws : CallLaws w i g given) (name : List ℕ) (line : ℕ) (u u' : Store ℤ) (one_call : CallTransposed q lines qd sh level xs g given name line (w.marks.kept i) (w.marks.adjointed i) true u u') where
  abbrev m : Marks
  m = w.marks

  abbrev ds : List (List ℕ)
  ds = g.callee.dummies

  abbrev needed : Vars
  needed = w.needed (point_before i)

  abbrev needed_after : Vars
  needed_after = w.needed (point_after i)

  abbrev held : Vars
  held = w.held (point_before i)

  abbrev held_after : Vars
  held_after = w.held (point_after i)

  abbrev wrote : Vars
  wrote = writes_actual g.callee given

  abbrev saves : List (List ℕ)
  saves = save_group m i g.callee given

  abbrev snapshot : List (List ℕ)
  snapshot = snapshot_group g.callee given

  abbrev call_again : Code
  call_again = one line (call name (actuals_named given))

  -- what the call makes of tangents in the sweeps
  abbrev pub call_change : Bool → Words → Words
  call_change true = shadows_out g.callee.shadowed ds given one_call.change
  call_change false = λ z. z

  -- the loops that are reversed in it
  abbrev pub call_loops : Bool → List LoopRun
  call_loops true = one_call.loops
  call_loops false = []

  needs_later : (v : Var) → In v needed_after → In v needed
  needs_later v h = laws.values.needs v (without_none needed_after v h)

  holds_later : (v : Var) → In v held → In v held_after
  holds_later v h = laws.values.holds v (without_none held v h)

  -- what a variable that the call writes is the actual of
  record Written (x : List ℕ) : Type 0 where
    dummy : List ℕ
    is : beside given ds x ≡ Some dummy
    back : beside ds given dummy ≡ Some x
    has : g.callee.written (plain dummy) ≡ true

  written_by : (x : List ℕ) → wrote (plain x) ≡ true → Written x
  written_by x h = go (beside given ds x) refl h
    where
      go : (o : Option (List ℕ)) → beside given ds x ≡ o → found_or o false (λ d. g.callee.written (plain d)) ≡ true → Written x
      go None b h = cc
      go (Some d) b h = record { dummy = d; is = b; back = beside_back given ds apart' apart x d b; has = h }

  -- ---- forward

  record Mid (k : Bool) (base : Course) (f : Store ℤ) (t : List ℤ) : Type 0 where
    to : Store ℤ
    runs : Comes q (on_words sh level) (code_if k call_again) base f to t t []
    same : SameOn sh needed_after u' to
    off : SameOff wrote f to
    shadows : (x : List ℕ) (j : ℕ) → to (shadow x) j ≡ f (shadow x) j
    helpers : (r : Role) (k c : ℕ) → to (helper r k) c ≡ f (helper r k) c

  mid : (k : Bool) → m.kept i ≡ k → (base : Course) (f : Store ℤ) (t : List ℤ) → SameOn sh needed u f → Mid k base f t
  mid false e base f t s = record {
    to = f;
    runs = comes_stop q (on_words sh level) base f t;
    same = record { at = λ x j l h. s.at x j l (needs_later (plain x) h) ∙ sym (one_call.off.at x j (idle x h (wrote (plain x)) refl)) };
    off = record { at = λ x j h. refl };
    shadows = λ x j. refl;
    helpers = λ r k c. refl;
  }
    where
      -- a call that isn't kept writes nothing that is needed
      idle : (x : List ℕ) → In (plain x) needed_after → (b : Bool) → wrote (plain x) ≡ b → b ≡ false
      idle x h true n = let r = written_by x n in absurd (let c : true ≡ false = sym (laws.keeps r.dummy x r.back r.has h) ∙ e in cc)
      idle x h false n = refl
  mid true e base f t s =
      let c = one_call.again refl e base f t (record { at = λ d a b h j l. s.at a j l (laws.needs_uses e d a b h) }) in
      record {
        to = c.after;
        runs = c.runs;
        same = record { at = λ x j l h. c.same x j (s.at x j l (needs_later (plain x) h)) };
        off = c.off;
        shadows = c.shadows;
        helpers = c.helpers;
      }

  -- ---- backward

  -- what the call doesn't write is in no group
  out_of_saves : (x : List ℕ) → wrote (plain x) ≡ false → has_name x saves ≡ false
  out_of_saves x h = group_out g.callee.written (m.saved i) ds given x apart' h

  both_out : (x : List ℕ) → wrote (plain x) ≡ false → found_or (beside given ds x) false (λ d. g.callee.written (plain d) && g.callee.members (plain d)) ≡ false
  both_out x h = go (beside given ds x) h
    where
      go : (o : Option (List ℕ)) → found_or o false (λ d. g.callee.written (plain d)) ≡ false → found_or o false (λ d. g.callee.written (plain d) && g.callee.members (plain d)) ≡ false
      go None h = refl
      go (Some d) h = rw h refl

  out_of_snapshot : (x : List ℕ) → wrote (plain x) ≡ false → has_name x snapshot ≡ false
  out_of_snapshot x h = group_out (λ d. g.callee.written d && g.callee.members d) everything ds given x apart' (both_out x h)

  -- the adjoint, where there is one; `over` is what stands above the tape
  record Done' (a : Bool) (base : Course) (g0 : Store ℤ) (l t : List ℤ) : Type 0 where
    after : Store ℤ
    reversals : List Reversal
    reversed : AreReversed (call_loops a) reversals
    runs : Comes q (on_words sh level) (code_if a (pops p line snapshot +++ one line (adjoint_call g.callee given))) base g0 after l t reversals
    off : SameOff wrote g0 after
    helpers : (r : Role) (k c : ℕ) → after (helper r k) c ≡ g0 (helper r k) c
    pairs : (y : Words) → pairing xs (shadows after) y ≡ pairing xs (shadows g0) (call_change a y)

  -- the actuals of members are as the program had them, when the snapshot is popped
  agree : m.adjointed i ≡ true → (f to g0 g1 : Store ℤ) → SameOn sh needed u f → SameOff wrote f to → SameOn sh held_after to g0 → Restored sh snapshot f g0 g1 → ActualsAgree sh g.callee given g.callee.members u g1
  agree adj f to g0 g1 s off h r = record { at = λ d a b n j l. go d a b n j l (g.callee.written (plain d)) refl ∙ s.at a j l (laws.needs_members adj d a b n) }
    where
      go : (d a : List ℕ) → IsActual ds given d a → In (plain d) g.callee.members → (j : ℕ) → j < size_of (sh (plain a)) → (v : Bool) → g.callee.written (plain d) ≡ v → g1 (plain a) j ≡ f (plain a) j
      go d a b n j l true v =
          let back : beside given ds a ≡ Some d = beside_back ds given apart apart' d a b in
          r.here a j (group_has (λ d. g.callee.written d && g.callee.members d) everything ds given a d back (rw (v, n) refl) refl) l
      go d a b n j l false v =
          let back : beside given ds a ≡ Some d = beside_back ds given apart apart' d a b in
          let left : wrote (plain a) ≡ false = rw (back, v) refl in
          r.there (plain a) j (out_of_snapshot a left) ∙ h.at a j l (laws.holds_reads adj d a b n v) ∙ off.at a j left

  adjoint_done : (f to : Store ℤ) → SameOn sh needed u f → SameOff wrote f to → (a : Bool) → m.adjointed i ≡ a → (pushed : Pushed q sh level p line (if a then snapshot else []) (code_if a (pushes p line snapshot)) (code_if a (pops p line snapshot)) f) → (base : Course) (g0 : Store ℤ) (t : List ℤ) → SameOn sh held_after to g0 → Done' a base g0 (pushed.trail ++ t) t
  adjoint_done f to s off true e pushed base g0 t h =
      let c = pushed.popped base g0 t in
      let k = one_call.back refl e c.runs.later c.after t (agree e f to g0 c.after s off h c.restored) in
      record {
        after = k.after;
        reversals = k.reversals;
        reversed = k.reversed;
        runs = comes_append q (on_words sh level) (pops p line snapshot) (one line (adjoint_call g.callee given)) base g0 c.after k.after (pushed.trail ++ t) t t c.runs
            (comes_one q (on_words sh level) line (adjoint_call g.callee given) c.runs.later c.after k.after t t k.runs);
        off = record { at = λ x j n. k.off.at x j n ∙ c.restored.there (plain x) j (out_of_snapshot x n) };
        helpers = λ r o n. k.helpers r o n ∙ c.restored.there (helper r o) n refl;
        pairs = λ y. k.pairs y ∙ ap (λ z. pairing xs z (call_change true y)) (λ i x. c.restored.there (shadow x.0) x.1 refl i);
      }
  adjoint_done f to s off false e pushed base g0 t h =
      let c = pushed.popped base g0 t in
      record {
        after = c.after;
        reversals = [];
        reversed = tt;
        runs = c.runs;
        off = record { at = λ x j n. c.restored.there (plain x) j refl };
        helpers = λ r o n. c.restored.there (helper r o) n refl;
        pairs = λ y. ap (λ z. pairing xs z y) (λ i x. c.restored.there (shadow x.0) x.1 refl i);
      }

  -- the values that are held before the call are there again when the saved ones are popped
  held_again : (m.kept i || m.adjointed i) ≡ true → (f to g0 g1 g2 : Store ℤ) → SameOff wrote f to → SameOn sh held_after to g0 → SameOff wrote g0 g1 → Restored sh saves f g1 g2 → SameOn sh held f g2
  held_again e f to g0 g1 g2 off h off1 r = record { at = λ x j l n. go x j l n (wrote (plain x)) refl }
    where
      go : (x : List ℕ) (j : ℕ) → j < size_of (sh (plain x)) → In (plain x) held → (b : Bool) → wrote (plain x) ≡ b → g2 (plain x) j ≡ f (plain x) j
      go x j l n true v =
          let s = written_by x v in
          r.here x j (group_has g.callee.written (m.saved i) ds given x s.dummy s.is s.has (laws.saves e s.dummy x s.back s.has n)) l
      go x j l n false v = r.there (plain x) j (out_of_saves x v) ∙ off1.at x j v ∙ h.at x j l (holds_later (plain x) n) ∙ off.at x j v

  -- ---- both

  abbrev forth_of : Bool → Bool → Code
  forth_of k a = code_if (k || a) (pushes p line saves +++ (code_if a (pushes p line snapshot) +++ code_if k call_again))

  abbrev back_of : Bool → Bool → Code
  back_of k a = code_if (k || a) (code_if a (pops p line snapshot +++ one line (adjoint_call g.callee given)) +++ pops p line saves)

  sweeps_emitted : (k a : Bool) → m.kept i ≡ k → m.adjointed i ≡ a → (k || a) ≡ true → (snapshot_pushed : (f : Store ℤ) → Pushed q sh level p line (if a then snapshot else []) (code_if a (pushes p line snapshot)) (code_if a (pops p line snapshot)) f) →
      Sweeps q sh level xs d (pushes p line saves +++ (code_if a (pushes p line snapshot) +++ code_if k call_again)) (code_if a (pops p line snapshot +++ one line (adjoint_call g.callee given)) +++ pops p line saves) needed needed_after held held_after wrote u u' (call_change a) (call_loops a)
  sweeps_emitted k a ek ea e snapshot_pushed = record {
    way = λ b f t s.
        let n = on_words sh level in
        let first = group_pushed q sh level p line known saves f in
        let second = snapshot_pushed f in
        let t1 = first.trail ++ t in
        let t2 = second.trail ++ t1 in
        let c1 = first.pushed b t in
        let c2 = second.pushed c1.later t1 in
        let c3 = mid k ek c2.later f t2 s in
        let join : second.trail ++ (first.trail ++ t) ≡ (second.trail ++ first.trail) ++ t = sym (append_assoc second.trail first.trail t) in
        record {
          to = c3.to;
          trail = second.trail ++ first.trail;
          runs = subst (λ (l : List ℤ). Comes q n (pushes p line saves +++ (code_if a (pushes p line snapshot) +++ code_if k call_again)) b f c3.to t l []) join
              (comes_append q n (pushes p line saves) (code_if a (pushes p line snapshot) +++ code_if k call_again) b f f c3.to t t1 t2 c1
              (comes_append q n (code_if a (pushes p line snapshot)) (code_if k call_again) c1.later f f c3.to t1 t2 t2 c2 c3.runs));
          same = c3.same;
          off = c3.off;
          shadows = c3.shadows;
          depth = record { at = λ r o c lt le. c3.helpers r o c };
          returns = λ b1 g0 h.
              let r1 = adjoint_done f c3.to s c3.off a ea second b1 g0 t1 h in
              let r2 = first.popped r1.runs.later r1.after t in
              record {
                after = r2.after;
                reversals = r1.reversals;
                reversed = r1.reversed;
                runs = subst (λ (l : List ℤ). Comes q n (code_if a (pops p line snapshot +++ one line (adjoint_call g.callee given)) +++ pops p line saves) b1 g0 r2.after l t r1.reversals) join
                    (comes_before q n (code_if a (pops p line snapshot +++ one line (adjoint_call g.callee given))) (pops p line saves) b1 g0 r1.after r2.after t2 t1 t r1.runs r2.runs);
                same = held_again (ap (λ z. z || m.adjointed i) ek ∙ ap (λ z. k || z) ea ∙ e) f c3.to g0 r1.after r2.after c3.off h r1.off r2.restored;
                off = record { at = λ x j o. r2.restored.there (plain x) j (out_of_saves x o) ∙ r1.off.at x j o };
                pairs = λ y. ap (λ z. pairing xs z y) (λ i x. r2.restored.there (shadow x.0) x.1 refl i) ∙ r1.pairs y;
                depth = record { at = λ r o c lt le. r2.restored.there (helper r o) c refl ∙ r1.helpers r o c };
              };
        };
  }

  -- the sweeps of the call
  pub sweeps_call : (k a : Bool) → m.kept i ≡ k → m.adjointed i ≡ a → Sweeps q sh level xs d (forth_of k a) (back_of k a) needed needed_after held held_after wrote u u' (call_change a) (call_loops a)
  unfolding mid
  sweeps_call true true ek ea = sweeps_emitted true true ek ea refl (λ f. group_pushed q sh level p line known snapshot f)
  sweeps_call false true ek ea = sweeps_emitted false true ek ea refl (λ f. group_pushed q sh level p line known snapshot f)
  sweeps_call true false ek ea = sweeps_emitted true false ek ea refl (λ f. nothing_pushed q sh level p line f)
  sweeps_call false false ek ea = record {
    way = λ b f t s.
        let c = mid false ek b f t s in
        record {
          to = c.to;
          trail = [];
          runs = c.runs;
          same = c.same;
          off = c.off;
          shadows = c.shadows;
          depth = record { at = λ r o n lt le. refl };
          returns = λ b1 g0 h. record {
            after = g0;
            reversals = [];
            reversed = tt;
            runs = comes_stop q (on_words sh level) b1 g0 t;
            same = same_within sh held_after held f g0 holds_later h;
            off = record { at = λ x j o. refl };
            pairs = λ y. refl;
            depth = record { at = λ r o n lt le. refl };
          };
        };
  }
