-- What the row of a reversed loop takes in the backward sweep.
use Rattle.std.proofs.Common.{◌≡◌, ◌≤◌, ◌<◌, ◌^◌, ℕ, suc, ◌+◌, ◌*◌, false, List, ◌∷◌, ◌++◌, length, refl, sym, ap, ◌∙◌, subst, arith}
use Rattle.std.specs.Prelude.{ℤ, pos, Ok, ◌&&◌, Some}
use Rattle.adj_tree.specs.Code.{Var, plain, helper, first, stride, count, slots, name_eq, none, Mark, Term, call, runtime, pop_word, Code}
use Rattle.adj_tree.proofs.Names.{nat_refl}
use Rattle.adj_revolve.specs.Binomial.{beta}
use Rattle.adj_revolve.specs.Schedule.{schedule_of}
use Rattle.def_meaning.specs.Append.{◌+++◌, one}
use Rattle.def_meaning.specs.Store.{Shape, size_of, Store, set}
use Rattle.def_meaning.specs.Value.{Setting}
use Rattle.def_meaning.specs.Run.{Calls, in_force}
use Rattle.def_meaning.specs.Runtime.{steps_of, snapshots_of}
use Rattle.law_meaning.proofs.Leadings.{leads_step}
use Rattle.def_names.specs.Numbers.{Vars, everything}
use Rattle.def_names.specs.Numbering.{point_before, point_after}
use Rattle.def_sweep.specs.Facts.{joined, Facts}
use Rattle.def_meaning.specs.Apart.{AreApart}
use Rattle.law_sweep.specs.Pairs.{Key, Words, on_words}
use Rattle.law_sweep.specs.Scenes.{Course, scene}
use Rattle.def_sweep.specs.Plan.{Plan, actuals_named, group, save_group, writes_actual}
use Rattle.def_sweep.specs.Rows.{pushes, pops, pop_own, adjoint_call}
use Rattle.def_sweep.specs.ReversalCode.{slots_of, pop_slots, reversal, reversed_backward}
use Rattle.law_sweep.specs.Laws.{just, ReversedLaws}
use Rattle.def_sweep.specs.Callees.{CalleeFacts}
use Rattle.law_sweep.specs.Kernel.{HasSlots}
use Rattle.law_sweep.specs.Passing.{plainly}
use Rattle.law_sweep.specs.Runs.{SameOn, SameOff}
use Rattle.def_sweep.specs.Reversals.{LoopRun}
use Rattle.law_sweep.specs.Steps.{Steps}
use Rattle.law_sweep.proofs.Snapshots.{KnowsArrays, group_pushed}
use Rattle.law_sweep.proofs.Slots.{slots_trail, with_slots, slots_same, slots_are, slots_popped}
use Rattle.law_sweep.proofs.StepUnits.{Loose, popped_stands}
use Rattle.law_sweep.proofs.ReversedRows.{stood, left_standing}
use Rattle.law_cost.specs.Sweeps.{statements_of}
use Rattle.law_cost.proofs.AlongCalls.{straight_pops}
use Rattle.law_cost.proofs.Runs.{IsStraight}
use Rattle.law_cost.specs.Sums.{sum_of}
use Rattle.law_cost.specs.Rows.{StepsTake}
use Rattle.law_cost.proofs.Takes.{Takes, takes_more, takes_append, takes_straight}
use Rattle.law_cost.proofs.Groups.{pushes_count, pops_count, group_few, pop_slots_straight, pop_slots_few, pop_slots_append}
use Rattle.law_cost.proofs.Reversing.{reversing}
use Rattle.law_cost.proofs.StepUnits.{stepping, StandingIn, LooseIn, SnapIn}

module _ (q : Calls ℤ) (sh : Var → Shape) (level : ℕ) (cells : List Key) (d line : ℕ) (p : Plan) (known : KnowsArrays p sh) (x : List ℕ) (one_cell : size_of (sh (plain x)) ≡ 1) (l m : ℕ) (mark : Mark) (a0 c0 : ℤ) (g : CalleeFacts) (given : List (List ℕ)) (apart : AreApart g.callee.dummies) (apart' : AreApart given) (name : List ℕ) (change : ℕ → Words → Words) (loops : ℕ → List LoopRun) (U U' : ℕ → Store ℤ)
    (w : Facts) (i : ℕ) (ea eb ec : Term) (laws : ReversedLaws w i x ea eb ec mark g given)
    (slot : 0 < m) (steps_fit : steps_of (pos l) ≡ Ok l) (snapshots_fit : snapshots_of (pos m) ≡ Ok m) (few : suc (suc (length (schedule_of 0 l m))) < 2 ^ 63) (small : suc l < 2 ^ 63)
    (has : HasSlots mark) (u : Store ℤ) (force_is : in_force (on_words (plainly sh) level) mark u ≡ Some m) (starts : (y : List ℕ) (j : ℕ) → name_eq y x ≡ false → U 0 (plain y) j ≡ u (plain y) j) (s : Steps q sh level cells line x g given name l a0 c0 change loops U U')
    (x_free : writes_actual g.callee given (plain x) ≡ false) (P A : ℕ → ℕ) (steps : StepsTake q sh level line g given name l U P A) (r : ℕ) (enough : l ≤ beta m r) where
  abbrev nw : Setting ℤ
  nw = on_words sh level

  abbrev ds : List (List ℕ)
  ds = g.callee.dummies

  abbrev reached : Vars
  reached = joined g.callee.members g.read

  abbrev wr : Vars
  wr = writes_actual g.callee given

  abbrev snap : List (List ℕ)
  snap = group (λ v. g.callee.written v && reached v) everything ds given

  abbrev saves : List (List ℕ)
  saves = save_group w.marks i g.callee given

  abbrev W : ℕ
  W = length given

  abbrev turning : Code
  turning = reversal line (suc d) (plain x) (slots_of (suc d) mark) (pushes p line snap) (pops p line snap) (one line (call name (actuals_named given))) (one line (adjoint_call g.callee given))

  abbrev pub back_code : Code
  back_code = reversed_backward (suc d) line (plain x) mark (pushes p line snap) (pops p line snap) (pops p line saves) (one line (call name (actuals_named given))) (one line (adjoint_call g.callee given))

  -- what stands after the number of snapshots is popped, and all before the reversal
  abbrev inner_front : Code
  inner_front = pop_own line (helper stride (suc d)) (pop_own line (helper first (suc d)) (pops p line snap))

  abbrev front : Code
  front = pop_own line (helper count (suc d)) (pop_slots line (suc d) mark inner_front)

  code_is : back_code ≡ front +++ (turning +++ pops p line saves)
  code_is = ap (pop_own line (helper count (suc d))) (pop_slots_append line (suc d) mark inner_front (turning +++ pops p line saves))

  front_straight : IsStraight front
  front_straight = (tt, pop_slots_straight line (suc d) mark inner_front (tt, (tt, straight_pops p line snap)))

  front_few : statements_of front ≤ 4 + W
  front_few =
      let a = pop_slots_few line (suc d) mark inner_front in
      let b = pops_count p line snap in
      let c = group_few (λ v. g.callee.written v && reached v) everything ds given in
      omega (arith, a, b, c)

  -- the actions of the reversal
  abbrev pub actions : ℕ
  actions = (30 + 2 * W) * l + r * sum_of (λ z. 1 + P z + 2) 0 l + sum_of (λ z. 1 + A z) 0 l

  module _ (f to : Store ℤ) (same : SameOn sh (w.needed (point_before i)) u f) (off : SameOff (joined (just (plain x)) wr) f to) where
    pub record BackTakes (base : Course) (h : Store ℤ) (t t' : List ℤ) : Type 0 where
      pub after : Store ℤ
      pub later : Course
      pub takes : Takes q nw back_code (scene base h t) (scene later after t') (8 + 2 * W + actions)

    pub back_takes : (base : Course) (h : Store ℤ) (t : List ℤ) → SameOn sh (w.held (point_after i)) to h →
        let saved = group_pushed q sh level p line known saves f in
        let taken = group_pushed q sh level p line known snap f in
        BackTakes base h (pos l ∷ (slots_trail mark m ++ (c0 ∷ (a0 ∷ (taken.trail ++ (saved.trail ++ t)))))) t
    back_takes base h t held =
        let saved = group_pushed q sh level p line known saves f in
        let taken = group_pushed q sh level p line known snap f in
        let t1 = saved.trail ++ t in
        let t2 = taken.trail ++ t1 in
        let full = pos l ∷ (slots_trail mark m ++ (c0 ∷ (a0 ∷ t2))) in
        let h1 = set h (helper count (suc d)) 0 (pos l) in
        let hm = with_slots (suc d) mark m h1 in
        let h2 = set hm (helper stride (suc d)) 0 c0 in
        let h3 = set h2 (helper first (suc d)) 0 a0 in
        let k = taken.popped h3 in
        let h4 = k.after in
        let loose3 : Loose q sh level cells d line p known x one_cell l m mark a0 c0 g given apart apart' name change loops U U' h3 h3 = record {
          at = λ e a b n v o j lt. held.at a j lt (laws.holds_reads e a b n v o) ∙ left_standing sh x mark g given apart apart' U w i ea eb ec laws u starts f to same off e a b n v o j lt;
          framed = record { off = record { at = λ y j o. refl }; depth = record { at = λ r n c lt le. refl } };
        } in
        let stands4 = popped_stands q sh level cells d line p known x one_cell l m mark a0 c0 g given apart apart' name change loops U U' h3 s x_free 0 f h3 h4 (omega arith) (stood sh x mark g given apart apart' U w i ea eb ec laws u starts f to same off) loose3 k.restored in
        let gc = group_few (λ v. g.callee.written v && reached v) everything ds given in
        let push_few : statements_of (pushes p line snap) ≤ W = let b = pushes_count p line snap in omega (arith, b, gc) in
        let pop_few : statements_of (pops p line snap) ≤ W = let b = pops_count p line snap in omega (arith, b, gc) in
        let st = stepping q sh level cells d line p known x one_cell l m mark a0 c0 g given apart apart' name change loops U U' h3 s x_free W P A push_few pop_few (λ i b f t. steps.plain_calls i b f t) (λ i b f t. steps.adjoint_calls i b f t) in
        let v = reversing q sh level (suc d) line x l m mark a0 c0 (pushes p line snap) (pops p line snap) (one line (call name (actuals_named given))) (one line (adjoint_call g.callee given))
        (StandingIn q sh level cells d line p known x one_cell l m mark a0 c0 g given apart apart' name change loops U U' h3 s x_free)
        (LooseIn q sh level cells d line p known x one_cell l m mark a0 c0 g given apart apart' name change loops U U' h3 s x_free)
        (SnapIn q sh level cells d line p known x one_cell l m mark a0 c0 g given apart apart' name change loops U U' h3 s x_free)
        W (λ z. 1 + P z) (λ z. 1 + A z) slot steps_fit snapshots_fit few small st r enough base h4 t1
        (k.restored.there (helper count (suc d)) 0 refl ∙ rw (nat_refl (suc d)) refl) (k.restored.there (helper first (suc d)) 0 refl ∙ rw (nat_refl (suc d)) refl) (k.restored.there (helper stride (suc d)) 0 refl ∙ rw (nat_refl (suc d)) refl)
        (slots_same sh level (suc d) mark hm h4 (k.restored.there (helper slots (suc d)) 0 refl) ∙ slots_are sh level (suc d) (on_words (plainly sh) level) mark m u h1 has force_is)
        (omega arith, stands4) in
        let z = saved.popped v.after in
        let leads =
        leads_step q nw line (runtime (pop_word (helper count (suc d)) none)) (pop_slots line (suc d) mark inner_front) (scene base h full) (scene base h1 (slots_trail mark m ++ (c0 ∷ (a0 ∷ t2)))) (scene base h4 t1) (λ k. refl)
        (slots_popped sh level (suc d) q line mark m inner_front base h1 (c0 ∷ (a0 ∷ t2)) (scene base h4 t1)
        (leads_step q nw line (runtime (pop_word (helper stride (suc d)) none)) (pop_own line (helper first (suc d)) (pops p line snap)) (scene base hm (c0 ∷ (a0 ∷ t2))) (scene base h2 (a0 ∷ t2)) (scene base h4 t1) (λ k. refl)
        (leads_step q nw line (runtime (pop_word (helper first (suc d)) none)) (pops p line snap) (scene base h2 (a0 ∷ t2)) (scene base h3 t2) (scene base h4 t1) (λ k. refl) (k.runs base t1)))) in
        let start = takes_straight q nw front front_straight (scene base h full) (scene base h4 t1) leads in
        let last = takes_straight q nw (pops p line saves) (straight_pops p line saves) (scene v.later v.after t1) (scene v.later z.after t) (z.runs v.later t) in
        let both = takes_append q nw turning (pops p line saves) (scene base h4 t1) (scene v.later v.after t1) (scene v.later z.after t) (4 + actions) (statements_of (pops p line saves)) v.takes last in
        let whole = takes_append q nw front (turning +++ pops p line saves) (scene base h full) (scene base h4 t1) (scene v.later z.after t) (statements_of front) (4 + actions + statements_of (pops p line saves)) start both in
        let sc = pops_count p line saves in
        let sg = group_few g.callee.written (w.marks.saved i) ds given in
        record {
          after = z.after;
          later = v.later;
          takes = subst (λ c. Takes q nw c (scene base h full) (scene v.later z.after t) (8 + 2 * W + actions)) (sym code_is)
              (takes_more q nw (front +++ (turning +++ pops p line saves)) (scene base h full) (scene v.later z.after t) (statements_of front + (4 + actions + statements_of (pops p line saves))) (8 + 2 * W + actions) (omega (arith, front_few, sc, sg)) whole);
        }
