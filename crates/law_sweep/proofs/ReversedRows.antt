-- The row of a reversed loop in the backward sweep: with the laws of such a loop, it gives back what is held before the loop, and
-- reverses the loop.
use Rattle.std.proofs.Common.{◌≡◌, ◌<◌, ◌^◌, ℕ, suc, Bool, true, false, List, ◌∷◌, ◌++◌, length, refl, sym, ap, ◌∙◌, arith}
use Rattle.std.specs.Prelude.{ℤ, pos, Ok, ◌&&◌, ◌||◌, Option, Some, None}
use Rattle.adj_tree.specs.Code.{role_code, Var, plain, shadow, helper, first, stride, count, slots, name_eq, none, Mark, Term, call, runtime, pop_word, Code}
use Rattle.adj_tree.proofs.Names.{nat_refl}
use Rattle.adj_word.specs.Pairing.{pairing}
use Rattle.adj_revolve.specs.Schedule.{schedule_of}
use Rattle.def_meaning.specs.Append.{◌+++◌, one}
use Rattle.def_meaning.specs.Store.{Shape, size_of, Store, set}
use Rattle.def_meaning.specs.Value.{Setting}
use Rattle.def_meaning.specs.Run.{Calls, in_force}
use Rattle.def_meaning.specs.Runtime.{steps_of, snapshots_of}
use Rattle.law_meaning.proofs.Leadings.{leads_append, leads_step}
use Rattle.def_names.specs.Numbers.{Vars, everything}
use Rattle.def_names.specs.Numbering.{point_before, point_after}
use Rattle.def_sweep.specs.Facts.{In, joined, Facts}
use Rattle.def_meaning.specs.Apart.{has_name, AreApart}
use Rattle.law_sweep.specs.Pairs.{Key, Words, on_words}
use Rattle.law_sweep.specs.Scenes.{Course, scene}
use Rattle.def_names.proofs.Variables.{or_false}
use Rattle.def_sweep.specs.Plan.{Plan, beside, IsActual, actuals_named, group, save_group, writes_actual}
use Rattle.def_sweep.specs.Rows.{pushes, pops, pop_own, adjoint_call}
use Rattle.def_sweep.specs.ReversalCode.{slots_of, reversal, reversed_backward}
use Rattle.law_sweep.specs.Laws.{just, ReversedLaws}
use Rattle.def_sweep.specs.Callees.{CalleeFacts}
use Rattle.law_sweep.specs.Kernel.{HasSlots}
use Rattle.law_sweep.specs.Passing.{plainly}
use Rattle.law_sweep.specs.Runs.{SameOn, SameOff}
use Rattle.def_sweep.specs.Reversals.{LoopRun}
use Rattle.law_sweep.specs.ReversedRow.{ReversedBack}
use Rattle.law_sweep.proofs.Passing.{beside_back}
use Rattle.law_sweep.proofs.CallSweeps.{group_has, group_out}
use Rattle.law_sweep.proofs.Snapshots.{KnowsArrays, Restored, group_pushed}
use Rattle.law_sweep.specs.Steps.{words_of, changes, loops_of, Steps}
use Rattle.law_sweep.proofs.LoopSweeps.{other_depth}
use Rattle.law_sweep.proofs.Slots.{slots_trail, with_slots, slots_same, slots_are, slots_popped}
use Rattle.law_sweep.proofs.Reversing.{reversing}
use Rattle.law_sweep.proofs.StepUnits.{Loose, popped_stands, stepping, SnapIn, StandingIn}
use Rattle.def_sweep.specs.StepUnits.{step_units}

-- what the step call reaches, before and after a reversed loop that comes from f to another store
module _ (sh : Var → Shape) (x : List ℕ) (mark : Mark) (g : CalleeFacts) (given : List (List ℕ)) (apart : AreApart g.callee.dummies) (apart' : AreApart given) (U : ℕ → Store ℤ) (w : Facts) (i : ℕ) (ea eb ec : Term) (laws : ReversedLaws w i x ea eb ec mark g given) (u : Store ℤ) (starts : (y : List ℕ) (j : ℕ) → name_eq y x ≡ false → U 0 (plain y) j ≡ u (plain y) j)
    (f to : Store ℤ) (same : SameOn sh (w.needed (point_before i)) u f) (off : SameOff (joined (just (plain x)) (writes_actual g.callee given)) f to) where
  -- it was before the loop as in the program
  pub stood : (e a : List ℕ) → IsActual g.callee.dummies given e a → In (plain e) (joined g.callee.members g.read) → name_eq a x ≡ false → (j : ℕ) → j < size_of (sh (plain a)) → f (plain a) j ≡ U 0 (plain a) j
  stood e a b n o j lt = same.at a j lt (laws.needs_members e a b n o) ∙ sym (starts a j o)

  -- and where the call doesn't write it, it is after the loop
  pub left_standing : (e a : List ℕ) → IsActual g.callee.dummies given e a → In (plain e) (joined g.callee.members g.read) → g.callee.written (plain e) ≡ false → name_eq a x ≡ false → (j : ℕ) → j < size_of (sh (plain a)) → to (plain a) j ≡ U 0 (plain a) j
  left_standing e a b n v o j lt =
      let back : beside given g.callee.dummies a ≡ Some e = beside_back g.callee.dummies given apart apart' e a b in
      let free : writes_actual g.callee given (plain a) ≡ false = rw (back, v) refl in
      let kept_off : (name_eq a x || writes_actual g.callee given (plain a)) ≡ false = rw (o, free) refl in
      off.at a j kept_off ∙ stood e a b n o j lt

module _ (q : Calls ℤ) (sh : Var → Shape) (level : ℕ) (cells : List Key) (d line : ℕ) (p : Plan) (known : KnowsArrays p sh) (x : List ℕ) (one_cell : size_of (sh (plain x)) ≡ 1) (l m : ℕ) (mark : Mark) (a0 c0 : ℤ) (g : CalleeFacts) (given : List (List ℕ)) (apart : AreApart g.callee.dummies) (apart' : AreApart given) (name : List ℕ) (change : ℕ → Words → Words) (loops : ℕ → List LoopRun) (U U' : ℕ → Store ℤ)
    (w : Facts) (i : ℕ) (ea eb ec : Term) (laws : ReversedLaws w i x ea eb ec mark g given)
    (slot : 0 < m) (steps_fit : steps_of (pos l) ≡ Ok l) (snapshots_fit : snapshots_of (pos m) ≡ Ok m) (few : suc (suc (length (schedule_of 0 l m))) < 2 ^ 63) (small : suc l < 2 ^ 63) (differ : name_eq name g.callee.adjoint ≡ false) (differ' : name_eq g.callee.adjoint name ≡ false)
    (has : HasSlots mark) (u : Store ℤ) (force_is : in_force (on_words (plainly sh) level) mark u ≡ Some m) (starts : (y : List ℕ) (j : ℕ) → name_eq y x ≡ false → U 0 (plain y) j ≡ u (plain y) j) (s : Steps q sh level cells line x g given name l a0 c0 change loops U U') where
  abbrev nw : Setting ℤ
  nw = on_words sh level

  abbrev ds : List (List ℕ)
  ds = g.callee.dummies

  abbrev reached : Vars
  reached = joined g.callee.members g.read

  abbrev pub wr : Vars
  wr = writes_actual g.callee given

  abbrev pub snap : List (List ℕ)
  snap = group (λ v. g.callee.written v && reached v) everything ds given

  abbrev pub saves : List (List ℕ)
  saves = save_group w.marks i g.callee given

  abbrev back_code : Code
  back_code = reversed_backward (suc d) line (plain x) mark (pushes p line snap) (pops p line snap) (pops p line saves) (one line (call name (actuals_named given))) (one line (adjoint_call g.callee given))

  abbrev turning : Code
  turning = reversal line (suc d) (plain x) (slots_of (suc d) mark) (pushes p line snap) (pops p line snap) (one line (call name (actuals_named given))) (one line (adjoint_call g.callee given))

  -- what stands after the number of snapshots is popped
  abbrev behind_slots : Code
  behind_slots = pop_own line (helper stride (suc d)) (pop_own line (helper first (suc d)) (pops p line snap +++ (turning +++ pops p line saves)))

  -- the run of the loop whose DO stands at a line
  abbrev pub own_run : ℕ → LoopRun
  own_run at = record { mark = record { line = at; turns = l; snapshots = m }; step = step_units name g.callee g.read }

  module _ (x_free : wr (plain x) ≡ false) (f to : Store ℤ) (same : SameOn sh (w.needed (point_before i)) u f) (off : SameOff (joined (just (plain x)) wr) f to) where
    pub reversed_back : (at : ℕ) (base : Course) (h : Store ℤ) (t : List ℤ) → SameOn sh (w.held (point_after i)) to h →
        let saved = group_pushed q sh level p line known saves f in
        let taken = group_pushed q sh level p line known snap f in
        ReversedBack q sh level cells d x (joined (just (plain x)) wr) (w.held (point_before i)) back_code base f h (pos l ∷ (slots_trail mark m ++ (c0 ∷ (a0 ∷ (taken.trail ++ (saved.trail ++ t)))))) t (changes change 0 l) (own_run at ∷ loops_of loops 0 l)
    reversed_back at base h t held =
        let saved = group_pushed q sh level p line known saves f in
        let taken = group_pushed q sh level p line known snap f in
        let t1 = saved.trail ++ t in
        let t2 = taken.trail ++ t1 in
        let h1 = set h (helper count (suc d)) 0 (pos l) in
        let hm = with_slots (suc d) mark m h1 in
        let h2 = set hm (helper stride (suc d)) 0 c0 in
        let h3 = set h2 (helper first (suc d)) 0 a0 in
        let k = taken.popped h3 in
        let h4 = k.after in
        let loose3 : Loose q sh level cells d line p known x one_cell l m mark a0 c0 g given apart apart' name change loops U U' h3 h3 = record {
          at = λ e a b n v o j lt. held.at a j lt (laws.holds_reads e a b n v o) ∙ left_standing sh x mark g given apart apart' U w i ea eb ec laws u starts f to same off e a b n v o j lt;
          framed = record { off = record { at = λ y j o. refl }; depth = record { at = λ r n c lt le. refl } };
        } in
        let stands4 = popped_stands q sh level cells d line p known x one_cell l m mark a0 c0 g given apart apart' name change loops U U' h3 s x_free 0 f h3 h4 (omega arith) (stood sh x mark g given apart apart' U w i ea eb ec laws u starts f to same off) loose3 k.restored in
        let st = stepping q sh level cells d line p known x one_cell l m mark a0 c0 g given apart apart' name change loops U U' h3 s x_free in
        let r = reversing q sh level cells (suc d) line x l m mark a0 c0 (step_units name g.callee g.read) (words_of sh snap) (pushes p line snap) (pops p line snap) (one line (call name (actuals_named given))) (one line (adjoint_call g.callee given))
        (StandingIn q sh level cells d line p known x one_cell l m mark a0 c0 g given apart apart' name change loops U U' h3 s x_free)
        (Loose q sh level cells d line p known x one_cell l m mark a0 c0 g given apart apart' name change loops U U' h3)
        (SnapIn q sh level cells d line p known x one_cell l m mark a0 c0 g given apart apart' name change loops U U' h3 s x_free)
        change loops slot steps_fit snapshots_fit few small differ differ' st at base h4 t1
        (k.restored.there (helper count (suc d)) 0 refl ∙ rw (nat_refl (suc d)) refl) (k.restored.there (helper first (suc d)) 0 refl ∙ rw (nat_refl (suc d)) refl) (k.restored.there (helper stride (suc d)) 0 refl ∙ rw (nat_refl (suc d)) refl)
        (slots_same sh level (suc d) mark hm h4 (k.restored.there (helper slots (suc d)) 0 refl) ∙ slots_are sh level (suc d) (on_words (plainly sh) level) mark m u h1 has force_is)
        (omega arith, stands4) in
        let z = saved.popped r.after in
        let rest = leads_append q nw turning (pops p line saves) (scene base h4 t1) (scene r.later r.after t1) (scene r.later z.after t) r.runs (z.runs r.later t) in
        record {
          after = z.after;
          reversals = r.own ∷ r.inner;
          reversed = (r.reverses, r.reversed);
          runs = record {
            later = r.later;
            tells = r.tells;
            runs =
                leads_step q nw line (runtime (pop_word (helper count (suc d)) none)) _ (scene base h (pos l ∷ (slots_trail mark m ++ (c0 ∷ (a0 ∷ t2))))) (scene base h1 (slots_trail mark m ++ (c0 ∷ (a0 ∷ t2)))) (scene r.later z.after t) (λ k. refl)
                (slots_popped sh level (suc d) q line mark m behind_slots base h1 (c0 ∷ (a0 ∷ t2)) (scene r.later z.after t)
                (leads_step q nw line (runtime (pop_word (helper stride (suc d)) none)) _ (scene base hm (c0 ∷ (a0 ∷ t2))) (scene base h2 (a0 ∷ t2)) (scene r.later z.after t) (λ k. refl)
                (leads_step q nw line (runtime (pop_word (helper first (suc d)) none)) _ (scene base h2 (a0 ∷ t2)) (scene base h3 t2) (scene r.later z.after t) (λ k. refl)
                (leads_append q nw (pops p line snap) (turning +++ pops p line saves) (scene base h3 t2) (scene base h4 t1) (scene r.later z.after t) (k.runs base t1) rest))));
          };
          stays = λ y j lt o n. held_again y j lt o n h r.after z.after held r.loose.framed.off z.restored;
          off = record { at = λ y j o. let b = or_false (name_eq y x) (wr (plain y)) o in z.restored.there (plain y) j (out_of_saves y b.1) ∙ r.loose.framed.off.at y j o };
          pairs = λ y. ap (λ v. pairing cells v y) (λ n c. z.restored.there (shadow c.0) c.1 refl n) ∙ r.pairs y ∙ ap (λ v. pairing cells v (changes change 0 l y)) (λ n c. k.restored.there (shadow c.0) c.1 refl n);
          depth = λ o n c lt le. z.restored.there (helper o n) c refl ∙ r.loose.framed.depth.at o n c lt le ∙ rw (other_depth d (role_code o) 3 n le, other_depth d (role_code o) 4 n le, other_depth d (role_code o) 12 n le, other_depth d (role_code o) 5 n le) refl;
        }
      where
        out_of_saves : (y : List ℕ) → wr (plain y) ≡ false → has_name y saves ≡ false
        out_of_saves y n = group_out g.callee.written (w.marks.saved i) ds given y apart' n

        held_again : (y : List ℕ) (j : ℕ) → j < size_of (sh (plain y)) → name_eq y x ≡ false → In (plain y) (w.held (point_before i)) → (h h5 h6 : Store ℤ) → SameOn sh (w.held (point_after i)) to h → SameOff (joined (just (plain x)) wr) (set (set (with_slots (suc d) mark m (set h (helper count (suc d)) 0 (pos l))) (helper stride (suc d)) 0 c0) (helper first (suc d)) 0 a0) h5 → Restored sh saves f h5 h6 → h6 (plain y) j ≡ f (plain y) j
        held_again y j lt o n h h5 h6 held moved back = go (beside given ds y) refl
          where
            later : In (plain y) (w.held (point_after i))
            later = laws.exit.values.holds (plain y) (rw (laws.entry_values.holds (plain y) (rw (n, o) refl)) refl)

            go : (e : Option (List ℕ)) → beside given ds y ≡ e → h6 (plain y) j ≡ f (plain y) j
            go None b =
                let z : wr (plain y) ≡ false = rw b refl in
                let both : (name_eq y x || wr (plain y)) ≡ false = rw (o, z) refl in
                back.there (plain y) j (out_of_saves y z) ∙ moved.at y j both ∙ held.at y j lt later ∙ off.at y j both
            go (Some e) b = here (g.callee.written (plain e)) refl
              where
                here : (v : Bool) → g.callee.written (plain e) ≡ v → h6 (plain y) j ≡ f (plain y) j
                here true v =
                    let actual : beside ds given e ≡ Some y = beside_back given ds apart' apart y e b in
                    back.here y j (group_has g.callee.written (w.marks.saved i) ds given y e b v (laws.saves e y actual v n)) lt
                here false v =
                    let z : wr (plain y) ≡ false = rw (b, v) refl in
                    let both : (name_eq y x || wr (plain y)) ≡ false = rw (o, z) refl in
                    back.there (plain y) j (out_of_saves y z) ∙ moved.at y j both ∙ held.at y j lt later ∙ off.at y j both
