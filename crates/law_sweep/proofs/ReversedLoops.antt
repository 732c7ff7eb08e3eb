-- The row of a reversed loop in both sweeps.
use Rattle.std.proofs.Common.{◌≡◌, ◌<◌, ℕ, suc, ◌+◌, false, List, [], ◌∷◌, ◌++◌, refl, sym, ap, ◌∙◌, subst, arith, append_assoc}
use Rattle.std.specs.Prelude.{ℤ, pos, Ok, Some}
use Rattle.adj_tree.specs.Code.{role_code, Var, plain, helper, first, stride, count, name_eq, plus, var, bin, none, Mark, assign, unmarked, Act, loop, runtime, push_word, Term, call, Code, stop, step}
use Rattle.adj_tree.proofs.Names.{nat_refl, name_refl}
use Rattle.adj_word.specs.Word.{wrap, add}
use Rattle.def_meaning.specs.Append.{◌+++◌, one}
use Rattle.def_meaning.specs.Store.{Shape, size_of, Store, set}
use Rattle.def_meaning.specs.Value.{Setting, value}
use Rattle.def_meaning.specs.Scene.{Done}
use Rattle.def_meaning.specs.Run.{Calls, trips, in_force}
use Rattle.def_meaning.specs.Read.{reads_term}
use Rattle.law_meaning.specs.Leads.{Leads}
use Rattle.law_meaning.proofs.Leadings.{leads_stop, leads_append, leads_step, leads_act}
use Rattle.def_names.specs.Numbers.{Vars}
use Rattle.def_names.specs.Numbering.{point_before, point_after}
use Rattle.def_sweep.specs.Marked.{code_if}
use Rattle.def_sweep.specs.Facts.{joined, Facts}
use Rattle.def_meaning.specs.Apart.{AreApart}
use Rattle.law_sweep.specs.Pairs.{Key, Words, on_words}
use Rattle.law_sweep.specs.Scenes.{Course, scene}
use Rattle.def_sweep.specs.Plan.{Plan, actuals_named}
use Rattle.def_sweep.specs.Rows.{literal, pushes, pops, set_own, push_own, adjoint_call}
use Rattle.def_sweep.specs.ReversalCode.{slots_of, push_slots, reversed_forward, reversed_backward}
use Rattle.law_sweep.specs.Laws.{just, ReversedLaws}
use Rattle.def_sweep.specs.Callees.{CalleeFacts}
use Rattle.law_sweep.specs.Kernel.{HasSlots, AllText}
use Rattle.law_sweep.specs.Passing.{plainly}
use Rattle.law_sweep.specs.Runs.{SameOn, SameOff}
use Rattle.def_sweep.specs.Reversals.{LoopRun}
use Rattle.law_sweep.specs.ReversedRow.{ReversedBack, ReversedRow, ReversedRowsTurn}
use Rattle.law_sweep.specs.Theorem.{plan_of}
use Rattle.law_sweep.proofs.Evaluations.{value_again}
use Rattle.law_sweep.proofs.Snapshots.{KnowsArrays, group_pushed}
use Rattle.law_sweep.proofs.LoopSweeps.{same_set, set_off, other_depth}
use Rattle.law_sweep.proofs.Told.{tells_of}
use Rattle.law_sweep.proofs.Slots.{few_slots, force_again, slots_trail, with_slots, slots_same, slots_are, slots_set, slots_pushed}
use Rattle.law_sweep.proofs.Goings.{loop_goes}
use Rattle.law_sweep.specs.Steps.{changes, loops_of, Steps}
use Rattle.law_sweep.proofs.StepRuns.{NumbersFit, numbers_few}
use Rattle.law_sweep.proofs.ForthStores.{needed_through, enters, leaves, uses_first, uses_last, uses_step}
use Rattle.law_sweep.proofs.ReversedForth.{turns_forth}
use Rattle.law_sweep.proofs.ReversedRows.{reversed_back, own_run, wr, snap, saves}

module _ (q : Calls ℤ) (sh : Var → Shape) (level : ℕ) (cells : List Key) (d line : ℕ) (p : Plan) (known : KnowsArrays p sh) (x : List ℕ) (one_cell : size_of (sh (plain x)) ≡ 1) (l m : ℕ) (mark : Mark) (a0 b0 c0 : ℤ) (g : CalleeFacts) (given : List (List ℕ)) (apart : AreApart g.callee.dummies) (apart' : AreApart given) (name : List ℕ) (change : ℕ → Words → Words) (loops : ℕ → List LoopRun) (U U' : ℕ → Store ℤ)
    (w : Facts) (i : ℕ) (ea eb ec : Term) (laws : ReversedLaws w i x ea eb ec mark g given) (text_a : AllText (λ v. reads_term v ea)) (text_b : AllText (λ v. reads_term v eb)) (text_c : AllText (λ v. reads_term v ec))
    (numbers : NumbersFit l m) (has : HasSlots mark) (differ : name_eq name g.callee.adjoint ≡ false) (differ' : name_eq g.callee.adjoint name ≡ false) (u : Store ℤ)
    (is_a : value (on_words (plainly sh) level) ea u ≡ Ok a0) (is_b : value (on_words (plainly sh) level) eb u ≡ Ok b0) (is_c : value (on_words (plainly sh) level) ec u ≡ Ok c0) (turns_is : trips unmarked a0 b0 c0 ≡ Ok l) (force_is : in_force (on_words (plainly sh) level) mark u ≡ Some m)
    (starts : U 0 ≡ set u (plain x) 0 (wrap a0)) (nexts : (j : ℕ) → j < l → U (suc j) ≡ set (U' j) (plain x) 0 (add (U' j (plain x) 0) c0))
    (s : Steps q sh level cells line x g given name l a0 c0 change loops U U') where
  abbrev nw : Setting ℤ
  nw = on_words sh level

  abbrev needed : Vars
  needed = w.needed (point_before i)

  pub starts_off : (y : List ℕ) (j : ℕ) → name_eq y x ≡ false → U 0 (plain y) j ≡ u (plain y) j
  starts_off y j n = ap (λ (z : Store ℤ). z (plain y) j) starts ∙ rw n refl

  abbrev wrote : Vars
  wrote = wr q sh level cells d line p known x one_cell l m mark a0 c0 g given apart apart' name change loops U U' w i ea eb ec laws numbers.slot numbers.steps_fit numbers.snapshots_fit numbers.few numbers.small differ differ' has u force_is starts_off s

  abbrev snapshot : List (List ℕ)
  snapshot = snap q sh level cells d line p known x one_cell l m mark a0 c0 g given apart apart' name change loops U U' w i ea eb ec laws numbers.slot numbers.steps_fit numbers.snapshots_fit numbers.few numbers.small differ differ' has u force_is starts_off s

  abbrev saved_names : List (List ℕ)
  saved_names = saves q sh level cells d line p known x one_cell l m mark a0 c0 g given apart apart' name change loops U U' w i ea eb ec laws numbers.slot numbers.steps_fit numbers.snapshots_fit numbers.few numbers.small differ differ' has u force_is starts_off s

  abbrev run_at : ℕ → LoopRun
  run_at = own_run q sh level cells d line p known x one_cell l m mark a0 c0 g given apart apart' name change loops U U' w i ea eb ec laws numbers.slot numbers.steps_fit numbers.snapshots_fit numbers.few numbers.small differ differ' has u force_is starts_off s

  abbrev plain_call : Code
  plain_call = one line (call name (actuals_named given))

  abbrev kept_call : Code
  kept_call = code_if (w.marks.kept (suc i)) plain_call

  abbrev forth : Code
  forth = reversed_forward (suc d) line (plain x) ea eb ec mark (pushes p line saved_names) (pushes p line snapshot) kept_call

  abbrev turns_code : Act
  turns_code = loop (plain x) (var (helper first (suc d))) eb (var (helper stride (suc d))) (kept_call +++ one line (assign (helper count (suc d)) none (bin plus (var (helper count (suc d))) (literal 1)))) unmarked

  -- what stands after the number of snapshots is pushed, and after it is set
  abbrev behind_pushed : Code
  behind_pushed = push_own line (helper count (suc d)) stop

  abbrev behind_set : Code
  behind_set = set_own line (helper count (suc d)) (literal 0) (pushes p line saved_names +++ (pushes p line snapshot +++ step line turns_code (push_own line (helper first (suc d)) (push_own line (helper stride (suc d)) (push_slots line (suc d) mark behind_pushed)))))

  abbrev back : Code
  back = reversed_backward (suc d) line (plain x) mark (pushes p line snapshot) (pops p line snapshot) (pops p line saved_names) plain_call (one line (adjoint_call g.callee given))

  pub reversed_row : wrote (plain x) ≡ false → (at : ℕ) (b : Course) (f : Store ℤ) (t : List ℤ) → SameOn sh needed u f → ReversedRow q sh level cells d x (joined (just (plain x)) wrote) (w.needed (point_after i)) (w.held (point_after i)) (w.held (point_before i)) forth back b (U l) f t (changes change 0 l) (run_at at ∷ loops_of loops 0 l)
  reversed_row x_free at b f t same =
      let f1 = set f (helper first (suc d)) 0 a0 in
      let f2 = set f1 (helper stride (suc d)) 0 c0 in
      let fm = with_slots (suc d) mark m f2 in
      let f3 = set fm (helper count (suc d)) 0 (pos 0) in
      let f4 = set f3 (plain x) 0 (wrap a0) in
      let same1 : SameOn sh needed u f1 = record { at = λ y j lt h. same.at y j lt h } in
      let same2 : SameOn sh needed u f2 = record { at = λ y j lt h. same.at y j lt h } in
      let same3 : SameOn sh needed u f3 = record { at = λ y j lt h. same.at y j lt h } in
      let first_is : f3 (helper first (suc d)) 0 ≡ a0 = rw (nat_refl (suc d)) refl in
      let stride_is : f3 (helper stride (suc d)) 0 ≡ c0 = rw (nat_refl (suc d)) refl in
      let slots_is : value nw (slots_of (suc d) mark) f3 ≡ Ok (pos m) = slots_same sh level (suc d) mark fm f3 refl ∙ slots_are sh level (suc d) (on_words (plainly sh) level) mark m u f2 has force_is in
      let count_is : f4 (helper count (suc d)) 0 ≡ pos 0 = rw (nat_refl (suc d)) refl in
      -- the groups that are pushed hold the values of f, which f3 has too
      let saved = group_pushed q sh level p line known saved_names f3 in
      let taken = group_pushed q sh level p line known snapshot f3 in
      let t1 = saved.trail ++ t in
      let t2 = taken.trail ++ t1 in
      let through = needed_through w i (w.marks.kept (suc i)) in
      let same4 : SameOn sh through (U 0) f4 =
      subst (λ (z : Store ℤ). SameOn sh through z f4) (sym starts) (same_set sh x one_cell needed through u f3 (wrap a0) (wrap a0) refl (λ y n h. enters x mark g given w i ea eb ec laws (w.marks.kept (suc i)) y n h) same3) in
      let value4 : f4 (plain x) 0 ≡ U 0 (plain x) 0 = rw (name_refl x) (sym (ap (λ (z : Store ℤ). z (plain x) 0) starts ∙ rw (name_refl x) refl)) in
      let r = turns_forth q sh level cells d line p known x one_cell l m mark a0 c0 g given apart apart' name change loops U U' w i ea eb ec laws numbers.small s nexts x_free l 0 b f4 t2 (omega arith) same4 value4 count_is in
      let looped = loop_goes q nw line (plain x) (var (helper first (suc d))) eb (var (helper stride (suc d))) (kept_call +++ one line (assign (helper count (suc d)) none (bin plus (var (helper count (suc d))) (literal 1)))) b f3 r.to t2 t2 a0 b0 c0 l r.calls []
      (ap Ok first_is) (value_again sh level needed u f3 same3 eb text_b (uses_last x mark g given w i ea eb ec laws) ∙ is_b) (ap Ok stride_is) turns_is r.runs in
      let after = looped.later in
      let none_else : 0 + l ≡ l = omega arith in
      let counted : r.to (helper count (suc d)) 0 ≡ pos l = r.moved.counted_is ∙ ap pos none_else in
      let slots_then = slots_trail mark m ++ (c0 ∷ (a0 ∷ t2)) in
      let full = pos l ∷ slots_then in
      let tail : Leads q nw (push_own line (helper first (suc d)) (push_own line (helper stride (suc d)) (push_slots line (suc d) mark behind_pushed))) (scene after r.to t2) (scene after r.to full) =
      leads_step q nw line (runtime (push_word (helper first (suc d)) none)) _ (scene after r.to t2) (scene after r.to (a0 ∷ t2)) (scene after r.to full) (λ k. ap (λ (z : ℤ). Done (scene after r.to (z ∷ t2)) k) (r.moved.first_is ∙ first_is))
      (leads_step q nw line (runtime (push_word (helper stride (suc d)) none)) _ (scene after r.to (a0 ∷ t2)) (scene after r.to (c0 ∷ (a0 ∷ t2))) (scene after r.to full) (λ k. ap (λ (z : ℤ). Done (scene after r.to (z ∷ (a0 ∷ t2))) k) (r.moved.stride_is ∙ stride_is))
      (slots_pushed sh level (suc d) q line mark m behind_pushed after r.to (c0 ∷ (a0 ∷ t2)) (scene after r.to full) (slots_same sh level (suc d) mark f3 r.to r.moved.slots_is ∙ slots_is)
      (leads_step q nw line (runtime (push_word (helper count (suc d)) none)) stop (scene after r.to slots_then) (scene after r.to full) (scene after r.to full) (λ k. ap (λ (z : ℤ). Done (scene after r.to (z ∷ slots_then)) k) counted)
      (leads_stop q nw (scene after r.to full))))) in
      let e : full ≡ (pos l ∷ (slots_trail mark m ++ (c0 ∷ (a0 ∷ (taken.trail ++ saved.trail))))) ++ t = ap (λ (z : List ℤ). pos l ∷ (slots_trail mark m ++ (c0 ∷ (a0 ∷ z)))) (sym (append_assoc taken.trail saved.trail t)) ∙ ap (λ (z : List ℤ). pos l ∷ z) (sym (append_assoc (slots_trail mark m) (c0 ∷ (a0 ∷ (taken.trail ++ saved.trail))) t)) in
      let off3 : SameOff (joined (just (plain x)) wrote) f3 r.to = record { at = λ y j o. r.moved.off.at y j o ∙ (set_off sh x one_cell wrote f3 (wrap a0)).at y j o } in
      let off_all : SameOff (joined (just (plain x)) wrote) f r.to = record { at = λ y j o. r.moved.off.at y j o ∙ (set_off sh x one_cell wrote f3 (wrap a0)).at y j o } in
      record {
        to = r.to;
        trail = pos l ∷ (slots_trail mark m ++ (c0 ∷ (a0 ∷ (taken.trail ++ saved.trail))));
        runs = record {
          later = after;
          tells = tells_of level b after r.calls [] looped.tells;
          runs = subst (λ (z : List ℤ). Leads q nw forth (scene b f t) (scene after r.to z)) e
              (leads_step q nw line (assign (helper first (suc d)) none ea) _ (scene b f t) (scene b f1 t) (scene after r.to full) (λ k. rw (value_again sh level needed u f same ea text_a (uses_first x mark g given w i ea eb ec laws) ∙ is_a) refl)
              (leads_step q nw line (assign (helper stride (suc d)) none ec) _ (scene b f1 t) (scene b f2 t) (scene after r.to full) (λ k. rw (value_again sh level needed u f1 same1 ec text_c (uses_step x mark g given w i ea eb ec laws) ∙ is_c) refl)
              (slots_set sh level (suc d) q line mark m behind_set b f2 t (scene after r.to full) (force_again sh level needed u f2 same2 mark m has laws.needs_slots force_is)
              (leads_step q nw line (assign (helper count (suc d)) none (literal 0)) _ (scene b fm t) (scene b f3 t) (scene after r.to full) (λ k. refl)
              (leads_append q nw (pushes p line saved_names) _ (scene b f3 t) (scene b f3 t1) (scene after r.to full) (saved.pushed b t)
              (leads_append q nw (pushes p line snapshot) _ (scene b f3 t1) (scene b f3 t2) (scene after r.to full) (taken.pushed b t1)
              (leads_act q nw line turns_code _ (scene b f3 t2) (scene after r.to t2) (scene after r.to full) looped.runs tail)))))));
        };
        same = subst (λ z. SameOn sh (w.needed (point_after i)) (U z) r.to) none_else (record { at = λ y j lt h. r.moved.same.at y j lt (leaves x mark g given w i ea eb ec laws (w.marks.kept (suc i)) (plain y) h) });
        off = off_all;
        shades = λ y j. r.moved.shades y j;
        depth = λ o n c lt le. r.moved.depth.at o n c lt le ∙ rw (other_depth d (role_code o) 5 n le, other_depth d (role_code o) 12 n le, other_depth d (role_code o) 4 n le, other_depth d (role_code o) 3 n le) refl;
        returns = λ b1 h held.
            let back_from = reversed_back q sh level cells d line p known x one_cell l m mark a0 c0 g given apart apart' name change loops U U' w i ea eb ec laws numbers.slot numbers.steps_fit numbers.snapshots_fit numbers.few numbers.small differ differ' has u force_is starts_off s x_free f3 r.to same3 off3 at b1 h t held in
            subst (λ (z : List ℤ). ReversedBack q sh level cells d x (joined (just (plain x)) wrote) (w.held (point_before i)) back b1 f h z t (changes change 0 l) (run_at at ∷ loops_of loops 0 l)) e
            (record { after = back_from.after; reversals = back_from.reversals; reversed = back_from.reversed; runs = back_from.runs; stays = λ y j lt n o. back_from.stays y j lt n o; off = back_from.off; pairs = back_from.pairs; depth = back_from.depth });
      }

pub reversed_rows_turn : ReversedRowsTurn
reversed_rows_turn q sh level cells line x gs given name w arrays fits i d a b c mark has laws text_a text_b text_c l m few u a0 b0 c0 is_a is_b is_c turns_is force_is change loops U U' starts nexts s at base f t same =
    let slots_few = few_slots (on_words (plainly sh) level) mark u m has force_is in
    reversed_row q sh level cells d line (plan_of gs w arrays) fits.scalars x fits.one_cell l m mark a0 b0 c0 (gs name) given fits.dummies_apart fits.given_apart name change loops U U' w i a b c laws text_a text_b text_c
    (numbers_few l m few slots_few.0 slots_few.1) has fits.other_name fits.other_adjoint u is_a is_b is_c turns_is force_is starts nexts s fits.keeps_variable at base f t same
