-- What both sweeps of a reversed loop take.
use Rattle.std.proofs.Common.{◌≡◌, ◌≤◌, ◌<◌, ℕ, suc, ◌+◌, ◌*◌, false, List, ◌∷◌, ◌++◌, length, refl, sym, ap, ◌∙◌, subst, arith}
use Rattle.std.specs.Prelude.{ℤ, pos, Ok, ◌&&◌, Some}
use Rattle.adj_tree.specs.Code.{Var, plain, helper, first, stride, count, name_eq, plus, var, bin, none, Mark, assign, unmarked, Act, loop, runtime, push_word, Term, call, Code, stop, step, Procedure}
use Rattle.adj_tree.proofs.Names.{nat_refl, name_refl}
use Rattle.adj_word.specs.Word.{wrap, add}
use Rattle.adj_revolve.specs.Binomial.{beta}
use Rattle.def_meaning.specs.Append.{◌+++◌, one}
use Rattle.def_meaning.specs.Store.{Shape, size_of, Store, set}
use Rattle.def_meaning.specs.Value.{Setting, value}
use Rattle.def_meaning.specs.Scene.{Scene, Done}
use Rattle.def_meaning.specs.Run.{Calls, run, trips, in_force}
use Rattle.def_meaning.specs.Units.{calls_of}
use Rattle.def_meaning.specs.Read.{reads_term}
use Rattle.law_meaning.specs.Leads.{Leads}
use Rattle.def_meaning.proofs.Appends.{append_assoc}
use Rattle.law_meaning.proofs.Leadings.{leads_stop, leads_append, leads_step}
use Rattle.def_names.specs.Numbers.{Vars, everything}
use Rattle.def_names.specs.Numbering.{point_before, point_after}
use Rattle.def_sweep.specs.Marked.{code_if}
use Rattle.def_sweep.specs.Facts.{joined, Facts}
use Rattle.def_meaning.specs.Apart.{AreApart}
use Rattle.law_sweep.specs.Pairs.{Key, Words, on_words}
use Rattle.law_sweep.specs.Scenes.{Course, scene}
use Rattle.def_sweep.specs.Plan.{Plan, actuals_named, group, save_group, writes_actual}
use Rattle.def_sweep.specs.Rows.{literal, pushes, pops, set_own, push_own, adjoint_call}
use Rattle.def_sweep.specs.ReversalCode.{slots_of, set_slots, push_slots, reversed_forward, reversed_backward}
use Rattle.law_sweep.specs.Laws.{just, ReversedLaws}
use Rattle.def_sweep.specs.Callees.{CalleeFacts}
use Rattle.law_sweep.specs.Kernel.{HasSlots, AllText}
use Rattle.law_sweep.specs.Passing.{plainly}
use Rattle.law_sweep.specs.Runs.{SameOn, SameOff}
use Rattle.def_sweep.specs.Reversals.{LoopRun}
use Rattle.law_sweep.specs.Steps.{Steps}
use Rattle.law_sweep.specs.Theorem.{plan_of}
use Rattle.law_sweep.proofs.Evaluations.{value_again}
use Rattle.law_sweep.proofs.Snapshots.{KnowsArrays, group_pushed}
use Rattle.law_sweep.proofs.LoopSweeps.{same_set, set_off}
use Rattle.law_sweep.proofs.Slots.{few_slots, force_again, slots_trail, with_slots, slots_same, slots_are, slots_set, slots_pushed}
use Rattle.law_sweep.proofs.ForthStores.{needed_through, enters, uses_first, uses_last, uses_step}
use Rattle.law_sweep.proofs.StepRuns.{NumbersFit, numbers_few}
use Rattle.law_cost.specs.Sweeps.{statements_of}
use Rattle.law_cost.specs.Along.{BothCost}
use Rattle.law_cost.proofs.AlongCalls.{straight_pushes}
use Rattle.law_cost.proofs.Counting.{append_count}
use Rattle.law_cost.proofs.Runs.{one_end, IsStraight, straight_append}
use Rattle.law_cost.specs.Sums.{sum_of}
use Rattle.law_cost.specs.Rows.{StepsTake, row_takes, ReversedRowsCost}
use Rattle.law_cost.proofs.Takes.{Takes, takes_more, takes_append, takes_act, takes_straight, loop_takes, takes_at_most}
use Rattle.law_cost.proofs.Groups.{pushes_count, group_few, set_slots_straight, push_slots_straight, set_slots_few, push_slots_few, set_slots_append}
use Rattle.law_cost.proofs.Forth.{turns_forth}
use Rattle.law_cost.proofs.Back.{actions, back_takes}

module _ (qs : List Procedure) (depth : ℕ) (sh : Var → Shape) (level : ℕ) (cells : List Key) (d line : ℕ) (p : Plan) (known : KnowsArrays p sh) (x : List ℕ) (one_cell : size_of (sh (plain x)) ≡ 1) (l m : ℕ) (mark : Mark) (a0 b0 c0 : ℤ) (g : CalleeFacts) (given : List (List ℕ)) (apart : AreApart g.callee.dummies) (apart' : AreApart given) (name : List ℕ) (change : ℕ → Words → Words) (loops : ℕ → List LoopRun) (U U' : ℕ → Store ℤ)
    (w : Facts) (i : ℕ) (ea eb ec : Term) (laws : ReversedLaws w i x ea eb ec mark g given) (text_a : AllText (λ v. reads_term v ea)) (text_b : AllText (λ v. reads_term v eb)) (text_c : AllText (λ v. reads_term v ec))
    (numbers : NumbersFit l m) (has : HasSlots mark) (u : Store ℤ)
    (is_a : value (on_words (plainly sh) level) ea u ≡ Ok a0) (is_b : value (on_words (plainly sh) level) eb u ≡ Ok b0) (is_c : value (on_words (plainly sh) level) ec u ≡ Ok c0) (turns_is : trips unmarked a0 b0 c0 ≡ Ok l) (force_is : in_force (on_words (plainly sh) level) mark u ≡ Some m)
    (starts : U 0 ≡ set u (plain x) 0 (wrap a0)) (nexts : (j : ℕ) → j < l → U (suc j) ≡ set (U' j) (plain x) 0 (add (U' j (plain x) 0) c0))
    (s : Steps (calls_of qs depth) sh level cells line x g given name l a0 c0 change loops U U') (x_free : writes_actual g.callee given (plain x) ≡ false)
    (P A : ℕ → ℕ) (steps : StepsTake (calls_of qs depth) sh level line g given name l U P A) (r : ℕ) (enough : l ≤ beta m r) where
  abbrev q : Calls ℤ
  q = calls_of qs depth

  abbrev nw : Setting ℤ
  nw = on_words sh level

  abbrev needed : Vars
  needed = w.needed (point_before i)

  starts_off : (y : List ℕ) (j : ℕ) → name_eq y x ≡ false → U 0 (plain y) j ≡ u (plain y) j
  starts_off y j n = ap (λ (z : Store ℤ). z (plain y) j) starts ∙ rw n refl

  abbrev wrote : Vars
  wrote = writes_actual g.callee given

  abbrev snapshot : List (List ℕ)
  snapshot = group (λ v. g.callee.written v && joined g.callee.members g.read v) everything g.callee.dummies given

  abbrev saved_names : List (List ℕ)
  saved_names = save_group w.marks i g.callee given

  abbrev plain_call : Code
  plain_call = one line (call name (actuals_named given))

  abbrev kept_call : Code
  kept_call = code_if (w.marks.kept (suc i)) plain_call

  abbrev forth : Code
  forth = reversed_forward (suc d) line (plain x) ea eb ec mark (pushes p line saved_names) (pushes p line snapshot) kept_call

  abbrev turn_code : Code
  turn_code = kept_call +++ one line (assign (helper count (suc d)) none (bin plus (var (helper count (suc d))) (literal 1)))

  abbrev turns_code : Act
  turns_code = loop (plain x) (var (helper first (suc d))) eb (var (helper stride (suc d))) turn_code unmarked

  -- before the loop, and behind it
  abbrev groups : Code
  groups = pushes p line saved_names +++ pushes p line snapshot

  abbrev inner_front : Code
  inner_front = set_own line (helper count (suc d)) (literal 0) groups

  abbrev front : Code
  front = set_own line (helper first (suc d)) ea (set_own line (helper stride (suc d)) ec (set_slots line (suc d) mark inner_front))

  abbrev behind_pushed : Code
  behind_pushed = push_own line (helper count (suc d)) stop

  abbrev tail : Code
  tail = push_own line (helper first (suc d)) (push_own line (helper stride (suc d)) (push_slots line (suc d) mark behind_pushed))

  code_is : forth ≡ front +++ step line turns_code tail
  code_is =
      let e = sym (append_assoc (pushes p line saved_names) (pushes p line snapshot) (step line turns_code tail)) in
      ap (λ c. set_own line (helper first (suc d)) ea (set_own line (helper stride (suc d)) ec (set_slots line (suc d) mark (set_own line (helper count (suc d)) (literal 0) c)))) e
      ∙ ap (λ c. set_own line (helper first (suc d)) ea (set_own line (helper stride (suc d)) ec c)) (set_slots_append line (suc d) mark inner_front (step line turns_code tail))

  front_straight : IsStraight front
  front_straight = set_slots_straight line (suc d) mark inner_front (straight_append (pushes p line saved_names) (pushes p line snapshot) (straight_pushes p line saved_names) (straight_pushes p line snapshot))

  tail_straight : IsStraight tail
  tail_straight = (tt, (tt, push_slots_straight line (suc d) mark behind_pushed (tt, tt)))

  saved_few : length saved_names ≤ length given
  saved_few = group_few g.callee.written (w.marks.saved i) g.callee.dummies given

  snapshot_few : length snapshot ≤ length given
  snapshot_few = group_few (λ v. g.callee.written v && joined g.callee.members g.read v) everything g.callee.dummies given

  front_few : statements_of front ≤ 4 + 2 * length given
  front_few =
      let a = set_slots_few line (suc d) mark inner_front in
      let b = append_count (pushes p line saved_names) (pushes p line snapshot) in
      let c = pushes_count p line saved_names in
      let e = pushes_count p line snapshot in
      omega (arith, a, b, c, e, saved_few, snapshot_few)

  tail_few : statements_of tail ≤ 4
  tail_few = let a = push_slots_few line (suc d) mark behind_pushed in omega (arith, a)

  abbrev back : Code
  back = reversed_backward (suc d) line (plain x) mark (pushes p line snapshot) (pops p line snapshot) (pops p line saved_names) plain_call (one line (adjoint_call g.callee given))

  -- the turns of the forward sweep
  abbrev turns_sum : ℕ
  turns_sum = sum_of (λ z. P z + 3) 0 l

  abbrev forth_most : ℕ
  forth_most = 9 + 2 * length given + turns_sum

  abbrev back_most : ℕ
  back_most = 8 + 2 * length given + actions q sh level cells d line p known x one_cell l m mark a0 c0 g given apart apart' name change loops U U' w i ea eb ec laws numbers.slot numbers.steps_fit numbers.snapshots_fit numbers.few numbers.small has u force_is starts_off s x_free P A steps r enough

  -- one run of both sweeps
  record RowTakes (b : Course) (f : Store ℤ) (t : List ℤ) : Type 0 where
    to : Store ℤ
    later : Course
    full : List ℤ
    takes : Takes q nw forth (scene b f t) (scene later to full) forth_most
    returns : (b1 : Course) (h : Store ℤ) → SameOn sh (w.held (point_after i)) to h → (e : Scene ℤ) (k left : ℕ) → run q nw back (scene b1 h full) k ≡ Done e left → k ≤ left + back_most

  row : (b : Course) (f : Store ℤ) (t : List ℤ) → SameOn sh needed u f → RowTakes b f t
  row b f t same =
      let f1 = set f (helper first (suc d)) 0 a0 in
      let f2 = set f1 (helper stride (suc d)) 0 c0 in
      let fm = with_slots (suc d) mark m f2 in
      let f3 = set fm (helper count (suc d)) 0 (pos 0) in
      let f4 = set f3 (plain x) 0 (wrap a0) in
      let same1 : SameOn sh needed u f1 = record { at = λ y j lt h. same.at y j lt h } in
      let same2 : SameOn sh needed u f2 = record { at = λ y j lt h. same.at y j lt h } in
      let same3 : SameOn sh needed u f3 = record { at = λ y j lt h. same.at y j lt h } in
      let first_is : f3 (helper first (suc d)) 0 ≡ a0 = rw (nat_refl (suc d)) refl in
      let stride_is : f3 (helper stride (suc d)) 0 ≡ c0 = rw (nat_refl (suc d)) refl in
      let slots_is : value nw (slots_of (suc d) mark) f3 ≡ Ok (pos m) = slots_same sh level (suc d) mark fm f3 refl ∙ slots_are sh level (suc d) (on_words (plainly sh) level) mark m u f2 has force_is in
      let count_is : f4 (helper count (suc d)) 0 ≡ pos 0 = rw (nat_refl (suc d)) refl in
      let saved = group_pushed q sh level p line known saved_names f3 in
      let taken = group_pushed q sh level p line known snapshot f3 in
      let t1 = saved.trail ++ t in
      let t2 = taken.trail ++ t1 in
      let through = needed_through w i (w.marks.kept (suc i)) in
      let same4 : SameOn sh through (U 0) f4 =
      subst (λ (z : Store ℤ). SameOn sh through z f4) (sym starts) (same_set sh x one_cell needed through u f3 (wrap a0) (wrap a0) refl (λ y n h. enters x mark g given w i ea eb ec laws (w.marks.kept (suc i)) y n h) same3) in
      let value4 : f4 (plain x) 0 ≡ U 0 (plain x) 0 = rw (name_refl x) (sym (ap (λ (z : Store ℤ). z (plain x) 0) starts ∙ rw (name_refl x) refl)) in
      let v = turns_forth q sh level cells d line p known x one_cell l m mark a0 c0 g given apart apart' name change loops U U' w i ea eb ec laws numbers.small s nexts P (λ i b f t. steps.plain_calls i b f t) x_free l 0 b f4 t2 (omega arith) same4 value4 count_is in
      let after = v.later in
      let looped = loop_takes q nw line (plain x) (var (helper first (suc d))) eb (var (helper stride (suc d))) turn_code (scene b f3 t2) (scene after v.to t2) a0 b0 c0 l turns_sum
      (ap Ok first_is) (value_again sh level needed u f3 same3 eb text_b (uses_last x mark g given w i ea eb ec laws) ∙ is_b) (ap Ok stride_is) turns_is v.takes in
      let none_else : 0 + l ≡ l = omega arith in
      let counted : v.to (helper count (suc d)) 0 ≡ pos l = v.moved.counted_is ∙ ap pos none_else in
      let slots_then = slots_trail mark m ++ (c0 ∷ (a0 ∷ t2)) in
      let all = pos l ∷ slots_then in
      let tail_leads : Leads q nw tail (scene after v.to t2) (scene after v.to all) =
      leads_step q nw line (runtime (push_word (helper first (suc d)) none)) _ (scene after v.to t2) (scene after v.to (a0 ∷ t2)) (scene after v.to all) (λ k. ap (λ (z : ℤ). Done (scene after v.to (z ∷ t2)) k) (v.moved.first_is ∙ first_is))
      (leads_step q nw line (runtime (push_word (helper stride (suc d)) none)) _ (scene after v.to (a0 ∷ t2)) (scene after v.to (c0 ∷ (a0 ∷ t2))) (scene after v.to all) (λ k. ap (λ (z : ℤ). Done (scene after v.to (z ∷ (a0 ∷ t2))) k) (v.moved.stride_is ∙ stride_is))
      (slots_pushed sh level (suc d) q line mark m behind_pushed after v.to (c0 ∷ (a0 ∷ t2)) (scene after v.to all) (slots_same sh level (suc d) mark f3 v.to v.moved.slots_is ∙ slots_is)
      (leads_step q nw line (runtime (push_word (helper count (suc d)) none)) stop (scene after v.to slots_then) (scene after v.to all) (scene after v.to all) (λ k. ap (λ (z : ℤ). Done (scene after v.to (z ∷ slots_then)) k) counted)
      (leads_stop q nw (scene after v.to all))))) in
      let front_leads : Leads q nw front (scene b f t) (scene b f3 t2) =
      leads_step q nw line (assign (helper first (suc d)) none ea) _ (scene b f t) (scene b f1 t) (scene b f3 t2) (λ k. rw (value_again sh level needed u f same ea text_a (uses_first x mark g given w i ea eb ec laws) ∙ is_a) refl)
      (leads_step q nw line (assign (helper stride (suc d)) none ec) _ (scene b f1 t) (scene b f2 t) (scene b f3 t2) (λ k. rw (value_again sh level needed u f1 same1 ec text_c (uses_step x mark g given w i ea eb ec laws) ∙ is_c) refl)
      (slots_set sh level (suc d) q line mark m inner_front b f2 t (scene b f3 t2) (force_again sh level needed u f2 same2 mark m has laws.needs_slots force_is)
      (leads_step q nw line (assign (helper count (suc d)) none (literal 0)) groups (scene b fm t) (scene b f3 t) (scene b f3 t2) (λ k. refl)
      (leads_append q nw (pushes p line saved_names) (pushes p line snapshot) (scene b f3 t) (scene b f3 t1) (scene b f3 t2) (saved.pushed b t) (taken.pushed b t1))))) in
      let start = takes_straight q nw front front_straight (scene b f t) (scene b f3 t2) front_leads in
      let last = takes_straight q nw tail tail_straight (scene after v.to t2) (scene after v.to all) tail_leads in
      let rest = takes_act q nw line turns_code tail (scene b f3 t2) (scene after v.to t2) (scene after v.to all) turns_sum (statements_of tail) looped last in
      let whole = takes_append q nw front (step line turns_code tail) (scene b f t) (scene b f3 t2) (scene after v.to all) (statements_of front) (1 + turns_sum + statements_of tail) start rest in
      let off3 : SameOff (joined (just (plain x)) wrote) f3 v.to = record { at = λ y j o. v.moved.off.at y j o ∙ (set_off sh x one_cell wrote f3 (wrap a0)).at y j o } in
      record {
        to = v.to;
        later = after;
        full = all;
        takes = subst (λ c. Takes q nw c (scene b f t) (scene after v.to all) forth_most) (sym code_is)
            (takes_more q nw (front +++ step line turns_code tail) (scene b f t) (scene after v.to all) (statements_of front + (1 + turns_sum + statements_of tail)) forth_most (omega (arith, front_few, tail_few)) whole);
        returns = λ b1 h held e k left ran.
            let c = back_takes q sh level cells d line p known x one_cell l m mark a0 c0 g given apart apart' name change loops U U' w i ea eb ec laws numbers.slot numbers.steps_fit numbers.snapshots_fit numbers.few numbers.small has u force_is starts_off s x_free P A steps r enough f3 v.to same3 off3 b1 h t held in
            takes_at_most qs depth nw back (scene b1 h all) (scene c.later c.after t) e back_most k left c.takes ran;
      }

  -- the sums as the definition has them
  each_inner : sum_of (λ z. 1 + P z + 2) 0 l ≡ turns_sum
  each_inner = let e : (z : ℕ) → 1 + P z + 2 ≡ P z + 3 = λ z. omega arith in ap (λ (f : ℕ → ℕ). sum_of f 0 l) (λ k z. e z k)

  each_adjoint : sum_of (λ z. 1 + A z) 0 l ≡ sum_of (λ z. A z + 1) 0 l
  each_adjoint = let e : (z : ℕ) → 1 + A z ≡ A z + 1 = λ z. omega arith in ap (λ (f : ℕ → ℕ). sum_of f 0 l) (λ k z. e z k)

  most_is : forth_most + back_most ≡ row_takes (length given) P A l r
  most_is =
      let a = ap (λ z. r * z) each_inner in
      let c : suc r * turns_sum ≡ turns_sum + r * turns_sum = omega arith in
      omega (arith, a, c, each_adjoint)

  pub row_cost : BothCost q sh level forth back needed (w.held (point_after i)) u (row_takes (length given) P A l r)
  row_cost = record {
    at = λ base f t same e k left ran later h held e1 k1 left1 ran1.
        let v = row base f t same in
        let is = one_end qs depth nw forth (scene base f t) (scene v.later v.to v.full) e k left (record { cost = v.takes.cost; by = v.takes.by }) ran in
        let first = takes_at_most qs depth nw forth (scene base f t) (scene v.later v.to v.full) e forth_most k left v.takes ran in
        let held2 : SameOn sh (w.held (point_after i)) v.to h = subst (λ (z : Scene ℤ). SameOn sh (w.held (point_after i)) z.store h) is held in
        let ran2 : run q nw back (scene later h v.full) k1 ≡ Done e1 left1 = ap (λ (z : Scene ℤ). run q nw back (scene later h z.tape) k1) (sym is) ∙ ran1 in
        let second = v.returns later h held2 e1 k1 left1 ran2 in
        omega (arith, first, second, most_is);
  }

-- as the law states it
pub reversed_rows_cost : ReversedRowsCost
reversed_rows_cost qs depth sh level cells line x gs given name w arrays fits i d a b c mark has laws text_a text_b text_c l m few u a0 b0 c0 is_a is_b is_c turns_is force_is change loops U U' starts nexts s P A steps r enough =
    let slots_few = few_slots (on_words (plainly sh) level) mark u m has force_is in
    row_cost qs depth sh level cells d line (plan_of gs w arrays) fits.scalars x fits.one_cell l m mark a0 b0 c0 (gs name) given fits.dummies_apart fits.given_apart name change loops U U' w i a b c laws text_a text_b text_c
    (numbers_few l m few slots_few.0 slots_few.1) has u is_a is_b is_c turns_is force_is starts nexts s fits.keeps_variable P A steps r enough
