-- What both sweeps take of a call, where that of the unit again and that of its adjoint take so much.
use Rattle.std.proofs.Common.{◌≡◌, ◌<◌, ◌≤◌, ℕ, ◌+◌, Bool, true, false, List, [], ◌∷◌, ◌++◌, refl, sym, ap, ◌∙◌, arith}
use Rattle.std.specs.Prelude.{ℤ, ◌&&◌, ◌||◌, Option, Some, None, if◌then◌else◌}
use Rattle.adj_tree.specs.Code.{Var, plain, call, push_word, pop_word, push_array, pop_array, none, runtime, Code, stop, Procedure}
use Rattle.def_meaning.specs.Append.{◌+++◌, one}
use Rattle.def_meaning.specs.Store.{Shape, size_of, Store}
use Rattle.def_meaning.specs.Value.{Setting}
use Rattle.def_meaning.specs.Scene.{Scene, Done}
use Rattle.def_meaning.specs.Run.{Calls, act, run}
use Rattle.def_meaning.specs.Units.{calls_of}
use Rattle.law_meaning.proofs.Inversions.{done_same}
use Rattle.def_names.specs.Numbers.{Vars, everything}
use Rattle.def_sweep.specs.Marks.{Marks}
use Rattle.def_names.specs.Numbering.{point_before, point_after}
use Rattle.def_sweep.specs.Marked.{code_if}
use Rattle.def_sweep.specs.Facts.{In, Facts}
use Rattle.def_meaning.specs.Apart.{AreApart, has_name}
use Rattle.law_sweep.specs.Pairs.{Key, on_words}
use Rattle.law_sweep.specs.Scenes.{Course, scene}
use Rattle.def_sweep.specs.Plan.{Plan, beside, IsActual, actuals_named, save_group, snapshot_group, writes_actual, found_or}
use Rattle.def_sweep.specs.Rows.{push, pop, pushes, pops, adjoint_call}
use Rattle.def_sweep.specs.Callees.{CalleeFacts}
use Rattle.law_sweep.specs.Laws.{CallLaws}
use Rattle.law_sweep.specs.Steps.{ActualsAgree}
use Rattle.law_sweep.specs.Runs.{SameOn, SameOff}
use Rattle.law_sweep.proofs.Passing.{beside_back}
use Rattle.law_sweep.proofs.Snapshots.{KnowsArrays, Restored}
use Rattle.law_sweep.proofs.Groups.{Pushed, nothing_pushed, group_pushed}
use Rattle.law_sweep.proofs.CallSweeps.{CallTransposed, group_has, group_out}
use Rattle.law_cost.specs.Sweeps.{statements_of}
use Rattle.law_cost.specs.Along.{BothCost}
use Rattle.law_cost.proofs.Counting.{append_count}
use Rattle.law_cost.proofs.Runs.{one_end, left_same, append_done, one_done, IsStraight, straight_append, straight_if, straight_cost}
use Rattle.law_cost.proofs.Along.{cost_stop, cost_more}
use Rattle.def_sweep.specs.Reversals.{ReversedLines}

-- groups are straight code
module _ (p : Plan) (line : ℕ) where
  straight_push : (x : List ℕ) → IsStraight (push p line x)
  straight_push x = go (p.arrays (plain x))
    where
      go : (b : Bool) → IsStraight (one line (runtime (if b then push_array (plain x) else push_word (plain x) none)))
      go true = (tt, tt)
      go false = (tt, tt)

  straight_pop : (x : List ℕ) → IsStraight (pop p line x)
  straight_pop x = go (p.arrays (plain x))
    where
      go : (b : Bool) → IsStraight (one line (runtime (if b then pop_array (plain x) else pop_word (plain x) none)))
      go true = (tt, tt)
      go false = (tt, tt)

  pub straight_pushes : (xs : List (List ℕ)) → IsStraight (pushes p line xs)
  straight_pushes [] = tt
  straight_pushes (x ∷ xs) = straight_append (push p line x) (pushes p line xs) (straight_push x) (straight_pushes xs)

  pub straight_pops : (xs : List (List ℕ)) → IsStraight (pops p line xs)
  straight_pops [] = tt
  straight_pops (x ∷ xs) = straight_append (pops p line xs) (pop p line x) (straight_pops xs) (straight_pop x)

module _ (qs : List Procedure) (depth : ℕ) (lines : ReversedLines) (qd : Calls (ℤ × ℤ)) (sh : Var → Shape) (level : ℕ) (xs : List Key) (p : Plan) (known : KnowsArrays p sh) (w : Facts) (i : ℕ) (g : CalleeFacts) (given : List (List ℕ)) (apart : AreApart g.callee.dummies) (apart' : AreApart given) (laws : CallLaws w i g given) (name : List ℕ) (line : ℕ) (u u' : Store ℤ)
    (one_call : CallTransposed (calls_of qs depth) lines qd sh level xs g given name line (w.marks.kept i) (w.marks.adjointed i) true u u')
    (P A : ℕ)
    (plain_cost : w.marks.kept i ≡ true → (base : Course) (f : Store ℤ) (t : List ℤ) → ActualsAgree sh g.callee given g.read u f → (s : Scene ℤ) (k left : ℕ) → act (calls_of qs depth) (on_words sh level) (call name (actuals_named given)) line (scene base f t) k ≡ Done s left → k ≤ left + P)
    (adjoint_cost : w.marks.adjointed i ≡ true → (base : Course) (f : Store ℤ) (t : List ℤ) → ActualsAgree sh g.callee given g.callee.members u f → (s : Scene ℤ) (k left : ℕ) → act (calls_of qs depth) (on_words sh level) (adjoint_call g.callee given) line (scene base f t) k ≡ Done s left → k ≤ left + A) where
  abbrev q : Calls ℤ
  q = calls_of qs depth

  abbrev nw : Setting ℤ
  nw = on_words sh level

  abbrev m : Marks
  m = w.marks

  abbrev ds : List (List ℕ)
  ds = g.callee.dummies

  abbrev needed : Vars
  needed = w.needed (point_before i)

  abbrev held_after : Vars
  held_after = w.held (point_after i)

  abbrev wrote : Vars
  wrote = writes_actual g.callee given

  abbrev saves : List (List ℕ)
  saves = save_group m i g.callee given

  abbrev snapshot : List (List ℕ)
  snapshot = snapshot_group g.callee given

  abbrev again : Code
  again = one line (call name (actuals_named given))

  abbrev turned : Code
  turned = one line (adjoint_call g.callee given)

  -- what the call doesn't write isn't in the snapshot
  out_of_snapshot : (x : List ℕ) → wrote (plain x) ≡ false → has_name x snapshot ≡ false
  out_of_snapshot x h = group_out (λ d. g.callee.written d && g.callee.members d) everything ds given x apart' (go (beside given ds x) h)
    where
      go : (o : Option (List ℕ)) → found_or o false (λ d. g.callee.written (plain d)) ≡ false → found_or o false (λ d. g.callee.written (plain d) && g.callee.members (plain d)) ≡ false
      go None h = refl
      go (Some d) h = rw h refl

  -- the actuals of members are as the program had them, when the snapshot is popped
  agree : m.adjointed i ≡ true → (f to g0 g1 : Store ℤ) → SameOn sh needed u f → SameOff wrote f to → SameOn sh held_after to g0 → Restored sh snapshot f g0 g1 → ActualsAgree sh g.callee given g.callee.members u g1
  agree adj f to g0 g1 s off h r = record { at = λ d a b n j l. go d a b n j l (g.callee.written (plain d)) refl ∙ s.at a j l (laws.needs_members adj d a b n) }
    where
      go : (d a : List ℕ) → IsActual ds given d a → In (plain d) g.callee.members → (j : ℕ) → j < size_of (sh (plain a)) → (v : Bool) → g.callee.written (plain d) ≡ v → g1 (plain a) j ≡ f (plain a) j
      go d a b n j l true v =
          let back : beside given ds a ≡ Some d = beside_back ds given apart apart' d a b in
          r.here a j (group_has (λ d. g.callee.written d && g.callee.members d) everything ds given a d back (rw (v, n) refl) refl) l
      go d a b n j l false v =
          let back : beside given ds a ≡ Some d = beside_back ds given apart apart' d a b in
          let left : wrote (plain a) ≡ false = rw (back, v) refl in
          r.there (plain a) j (out_of_snapshot a left) ∙ h.at a j l (laws.holds_reads adj d a b n v) ∙ off.at a j left

  -- the call again, where it is kept
  record Again (f : Store ℤ) (t : List ℤ) (n : ℕ) (s : Scene ℤ) (k left : ℕ) : Type 0 where
    off : SameOff wrote f s.store
    tape : s.tape ≡ t
    few : k ≤ left + n + P

  again_done : (k : Bool) → m.kept i ≡ k → (base : Course) (f : Store ℤ) (t : List ℤ) → SameOn sh needed u f → (s : Scene ℤ) (j left : ℕ) → run q nw (code_if k again) (scene base f t) j ≡ Done s left → Again f t (statements_of (code_if k again)) s j left
  again_done false e base f t same s j left r =
      let is = done_same (scene base f t) s j left r in
      let l = left_same (scene base f t) s j left r in
      record { off = record { at = λ x c h. ap (λ (z : Scene ℤ). z.store (plain x) c) (sym is) }; tape = ap (λ (z : Scene ℤ). z.tape) (sym is); few = omega (arith, l) }
  again_done true e base f t same s j left r =
      let agrees : ActualsAgree sh g.callee given g.read u f = record { at = λ d a b h c l. same.at a c l (laws.needs_uses e d a b h) } in
      let c = one_call.again refl e base f t agrees in
      let is = one_end qs depth nw again (scene base f t) (scene c.runs.later c.after t) s j left c.runs.runs r in
      let o = one_done q nw line (call name (actuals_named given)) (scene base f t) s j left r in
      let l = plain_cost e base f t agrees s o.before left o.done in
      let before = o.is in
      record { off = record { at = λ x n h. ap (λ (z : Scene ℤ). z.store (plain x) n) is ∙ c.off.at x n h }; tape = ap (λ (z : Scene ℤ). z.tape) is; few = omega (arith, before, l) }

  -- the adjoint, where it is called
  adjoint_done : (f to : Store ℤ) → SameOn sh needed u f → SameOff wrote f to → (a : Bool) → m.adjointed i ≡ a → (pushed : Pushed q sh level p line (if a then snapshot else []) (code_if a (pushes p line snapshot)) (code_if a (pops p line snapshot)) f) →
      (base : Course) (g0 : Store ℤ) (t : List ℤ) → SameOn sh held_after to g0 → (e : Scene ℤ) (k left : ℕ) → run q nw (code_if a (pops p line snapshot +++ turned)) (scene base g0 (pushed.trail ++ t)) k ≡ Done e left → k ≤ left + statements_of (code_if a (pops p line snapshot +++ turned)) + A
  adjoint_done f to s off true ea pushed base g0 t h e k left r =
      let o = append_done q nw (pops p line snapshot) turned (scene base g0 (pushed.trail ++ t)) e k left r in
      let c = pushed.popped base g0 t in
      let is = one_end qs depth nw (pops p line snapshot) (scene base g0 (pushed.trail ++ t)) (scene c.runs.later c.after t) o.scene k o.left c.runs.runs o.first in
      let first = straight_cost q nw (pops p line snapshot) (straight_pops p line snapshot) (scene base g0 (pushed.trail ++ t)) o.scene k o.left o.first in
      let there : run q nw turned (scene c.runs.later c.after t) o.left ≡ Done e left = ap (λ z. run q nw turned z o.left) (sym is) ∙ o.second in
      let d = one_done q nw line (adjoint_call g.callee given) (scene c.runs.later c.after t) e o.left left there in
      let l = adjoint_cost ea c.runs.later c.after t (agree ea f to g0 c.after s off h c.restored) e d.before left d.done in
      let before = d.is in
      omega (arith, first, before, l, append_count (pops p line snapshot) turned)
  adjoint_done f to s off false ea pushed base g0 t h e k left r = let l = left_same (scene base g0 (pushed.trail ++ t)) e k left r in omega (arith, l)

  abbrev pub forth_of : Bool → Bool → Code
  forth_of k a = code_if (k || a) (pushes p line saves +++ (code_if a (pushes p line snapshot) +++ code_if k again))

  abbrev pub back_of : Bool → Bool → Code
  back_of k a = code_if (k || a) (code_if a (pops p line snapshot +++ turned) +++ pops p line saves)

  emitted : (k a : Bool) → m.kept i ≡ k → m.adjointed i ≡ a → (snapshot_pushed : (f : Store ℤ) → Pushed q sh level p line (if a then snapshot else []) (code_if a (pushes p line snapshot)) (code_if a (pops p line snapshot)) f) →
      BothCost q sh level (pushes p line saves +++ (code_if a (pushes p line snapshot) +++ code_if k again)) (code_if a (pops p line snapshot +++ turned) +++ pops p line saves) needed held_after u
      (statements_of (pushes p line saves +++ (code_if a (pushes p line snapshot) +++ code_if k again)) + statements_of (code_if a (pops p line snapshot +++ turned) +++ pops p line saves) + (P + A))
  emitted k a ek ea snapshot_pushed = record {
    at = λ base f t same s j left r later g0 h e j1 left1 r1.
        let push1 = pushes p line saves in
        let push2 = code_if a (pushes p line snapshot) in
        let third = code_if k again in
        let back1 = code_if a (pops p line snapshot +++ turned) in
        let pop1 = pops p line saves in
        let o1 = append_done q nw push1 (push2 +++ third) (scene base f t) s j left r in
        let first = group_pushed q sh level p line known saves f in
        let second = snapshot_pushed f in
        let c1 = first.pushed base t in
        let t1 = first.trail ++ t in
        let is1 = one_end qs depth nw push1 (scene base f t) (scene c1.later f t1) o1.scene j o1.left c1.runs o1.first in
        let n1 = straight_cost q nw push1 (straight_pushes p line saves) (scene base f t) o1.scene j o1.left o1.first in
        let r2 : run q nw (push2 +++ third) (scene c1.later f t1) o1.left ≡ Done s left = ap (λ z. run q nw (push2 +++ third) z o1.left) (sym is1) ∙ o1.second in
        let o2 = append_done q nw push2 third (scene c1.later f t1) s o1.left left r2 in
        let c2 = second.pushed c1.later t1 in
        let t2 = second.trail ++ t1 in
        let is2 = one_end qs depth nw push2 (scene c1.later f t1) (scene c2.later f t2) o2.scene o1.left o2.left c2.runs o2.first in
        let n2 = straight_cost q nw push2 (straight_if a (pushes p line snapshot) (straight_pushes p line snapshot)) (scene c1.later f t1) o2.scene o1.left o2.left o2.first in
        let r3 : run q nw third (scene c2.later f t2) o2.left ≡ Done s left = ap (λ z. run q nw third z o2.left) (sym is2) ∙ o2.second in
        let c3 = again_done k ek c2.later f t2 same s o2.left left r3 in
        let r4 : run q nw (back1 +++ pop1) (scene later g0 t2) j1 ≡ Done e left1 = ap (λ (z : List ℤ). run q nw (back1 +++ pop1) (scene later g0 z) j1) (sym c3.tape) ∙ r1 in
        let o4 = append_done q nw back1 pop1 (scene later g0 t2) e j1 left1 r4 in
        let n4 = adjoint_done f s.store same c3.off a ea second later g0 t1 h o4.scene j1 o4.left o4.first in
        let n5 = straight_cost q nw pop1 (straight_pops p line saves) o4.scene e o4.left left1 o4.second in
        let n3 = c3.few in
        omega (arith, n1, n2, n3, n4, n5, append_count push1 (push2 +++ third), append_count push2 third, append_count back1 pop1);
  }

  -- both sweeps of the call
  pub cost_call : (k a : Bool) → m.kept i ≡ k → m.adjointed i ≡ a → BothCost q sh level (forth_of k a) (back_of k a) needed held_after u (statements_of (forth_of k a) + statements_of (back_of k a) + (P + A))
  cost_call true true ek ea = emitted true true ek ea (λ f. group_pushed q sh level p line known snapshot f)
  cost_call false true ek ea = emitted false true ek ea (λ f. group_pushed q sh level p line known snapshot f)
  cost_call true false ek ea = emitted true false ek ea (λ f. nothing_pushed q sh level p line f)
  cost_call false false ek ea = cost_more qs depth sh level stop stop needed needed held_after held_after u 0 (statements_of (forth_of false false) + statements_of (back_of false false) + (P + A)) (λ v z. z) (λ v z. z) (omega arith) (cost_stop qs depth sh level needed held_after u)
