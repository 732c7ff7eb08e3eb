-- The stores of the turns of a reversed loop in the forward sweep, in which the step call is kept or not.
use Rattle.std.proofs.Common.{◌≡◌, ◌<◌, ◌^◌, ℕ, zero, suc, ◌+◌, Bool, true, false, List, refl, sym, ap, ◌∙◌, subst, arith}
use Rattle.std.specs.Prelude.{ℤ, pos, ◌||◌, Option, Some, None}
use Rattle.adj_tree.specs.Code.{Role, role_code, Var, plain, shadow, helper, first, stride, count, slots, name_eq, Mark, Term}
use Rattle.adj_tree.proofs.Names.{nat_refl, name_refl}
use Rattle.adj_word.specs.Word.{add}
use Rattle.adj_word.proofs.Counting.{count_up}
use Rattle.def_meaning.specs.Store.{Shape, size_of, Store, set}
use Rattle.def_meaning.specs.Read.{reads_term}
use Rattle.def_names.specs.Numbers.{Vars}
use Rattle.def_names.specs.Numbering.{point_before, point_after}
use Rattle.def_sweep.specs.Facts.{In, Within, joined, Facts}
use Rattle.def_meaning.specs.Apart.{AreApart}
use Rattle.def_names.proofs.Variables.{or_false, or_left, or_right}
use Rattle.law_sweep.proofs.Turned.{SameDepth}
use Rattle.def_sweep.specs.Plan.{beside, writes_actual}
use Rattle.law_sweep.specs.Laws.{just, point_inside, ReversedLaws}
use Rattle.def_sweep.specs.Callees.{CalleeFacts}
use Rattle.law_sweep.specs.Runs.{SameOn, SameOff}
use Rattle.law_sweep.proofs.Passing.{beside_back}
use Rattle.law_sweep.proofs.LoopSweeps.{same_set, other_depth}

-- what is needed on the way: where the step call isn't kept, the loop does nothing to what is needed after it
module _ (w : Facts) (i : ℕ) where
  abbrev pub needed_through : Bool → Vars
  needed_through true = w.needed (point_inside i)
  needed_through false = w.needed (point_after i)

  abbrev pub needed_call : Bool → Vars
  needed_call true = w.needed (point_before (suc i))
  needed_call false = w.needed (point_after i)

  abbrev pub needed_step : Bool → Vars
  needed_step true = w.needed (point_after (suc i))
  needed_step false = w.needed (point_after i)

module _ (x : List ℕ) (mark : Mark) (g : CalleeFacts) (given : List (List ℕ)) (w : Facts) (i : ℕ) (ea eb ec : Term) (laws : ReversedLaws w i x ea eb ec mark g given) where
  pub enters : (k : Bool) (y : List ℕ) → name_eq y x ≡ false → In (plain y) (needed_through w i k) → In (plain y) (w.needed (point_before i))
  enters true y n h = laws.entry_values.needs (plain y) (rw (h, n) refl)
  enters false y n h = laws.entry_values.needs (plain y) (rw (laws.exit.values.needs (plain y) (rw h refl), n) refl)

  pub leaves : (k : Bool) (v : Var) → In v (w.needed (point_after i)) → In v (needed_through w i k)
  leaves true v h = laws.exit.values.needs v (rw h refl)
  leaves false v h = h

  pub calls_for : (k : Bool) (v : Var) → In v (needed_call w i k) → In v (needed_through w i k)
  calls_for true v h = laws.inside.values.needs v (rw h refl)
  calls_for false v h = h

  steps_for : (k : Bool) (y : List ℕ) → name_eq y x ≡ false → In (plain y) (needed_through w i k) → In (plain y) (needed_step w i k)
  steps_for true y n h = laws.step_values.needs (plain y) (rw (h, n) refl)
  steps_for false y n h = h

  pub needs_later : (v : Var) → In v (w.needed (point_after (suc i))) → In v (w.needed (point_before (suc i)))
  needs_later v h = laws.call.values.needs v (rw h refl)

  -- the bounds and the step of the loop read what is needed before it
  pub uses_first : Within (λ v. reads_term v ea) (w.needed (point_before i))
  uses_first v h = laws.needs_uses v (or_left (reads_term v ea) (reads_term v eb || reads_term v ec) h)

  pub uses_last : Within (λ v. reads_term v eb) (w.needed (point_before i))
  uses_last v h = laws.needs_uses v (or_right (reads_term v ea) (reads_term v eb || reads_term v ec) (or_left (reads_term v eb) (reads_term v ec) h))

  pub uses_step : Within (λ v. reads_term v ec) (w.needed (point_before i))
  uses_step v h = laws.needs_uses v (or_right (reads_term v ea) (reads_term v eb || reads_term v ec) (or_right (reads_term v eb) (reads_term v ec) h))

  abbrev wr : Vars
  wr = writes_actual g.callee given

  module _ (sh : Var → Shape) (d : ℕ) (one_cell : size_of (sh (plain x)) ≡ 1) (l : ℕ) (c0 : ℤ) (apart : AreApart g.callee.dummies) (apart' : AreApart given) (U U' : ℕ → Store ℤ) (small : suc l < 2 ^ 63) (offs : (j : ℕ) → j < l → SameOff wr (U j) (U' j)) (nexts : (j : ℕ) → j < l → U (suc j) ≡ set (U' j) (plain x) 0 (add (U' j (plain x) 0) c0)) where
    -- the store after the step call, where it is kept
    pub record Moved (k : Bool) (j : ℕ) (f to : Store ℤ) : Type 0 where
      pub same : SameOn sh (needed_step w i k) (U' j) to
      pub off : SameOff wr f to
      pub shades : (y : List ℕ) (c : ℕ) → to (shadow y) c ≡ f (shadow y) c
      pub helpers : (r : Role) (n c : ℕ) → to (helper r n) c ≡ f (helper r n) c

    -- where it isn't kept
    pub moved_none : w.marks.kept (suc i) ≡ false → (j : ℕ) → j < l → (f : Store ℤ) → SameOn sh (needed_call w i false) (U j) f → Moved false j f f
    moved_none e j less f h = record {
      same = record { at = λ y n lt o. h.at y n lt o ∙ sym ((offs j less).at y n (idle y o (beside given g.callee.dummies y) refl)) };
      off = record { at = λ y n o. refl };
      shades = λ y c. refl;
      helpers = λ r n c. refl;
    }
      where
        -- a call that isn't kept writes nothing that is needed
        idle : (y : List ℕ) → In (plain y) (w.needed (point_after i)) → (o : Option (List ℕ)) → beside given g.callee.dummies y ≡ o → wr (plain y) ≡ false
        idle y h None b = rw b refl
        idle y h (Some n) b = go (g.callee.written (plain n)) refl
          where
            go : (v : Bool) → g.callee.written (plain n) ≡ v → wr (plain y) ≡ false
            go true v = absurd (let c : true ≡ false = sym (laws.keeps n y (beside_back given g.callee.dummies apart' apart y n b) v h) ∙ e in cc)
            go false v = rw (b, v) refl

    -- n turns from the j-th on
    pub record TurnsMoved (n j : ℕ) (f to : Store ℤ) : Type 0 where
      pub same : SameOn sh (needed_through w i (w.marks.kept (suc i))) (U (j + n)) to
      pub off : SameOff (joined (just (plain x)) wr) f to
      pub shades : (y : List ℕ) (c : ℕ) → to (shadow y) c ≡ f (shadow y) c
      pub depth : SameDepth d f to
      pub counted_is : to (helper count (suc d)) 0 ≡ pos (j + n)
      pub first_is : to (helper first (suc d)) 0 ≡ f (helper first (suc d)) 0
      pub stride_is : to (helper stride (suc d)) 0 ≡ f (helper stride (suc d)) 0
      pub slots_is : to (helper slots (suc d)) 0 ≡ f (helper slots (suc d)) 0

    pub turns_none : (j : ℕ) (f : Store ℤ) → SameOn sh (needed_through w i (w.marks.kept (suc i))) (U j) f → f (helper count (suc d)) 0 ≡ pos j → TurnsMoved 0 j f f
    turns_none j f h c =
        let e : j + 0 ≡ j = omega arith in
        record {
          same = subst (λ z. SameOn sh (needed_through w i (w.marks.kept (suc i))) (U z) f) (sym e) h;
          off = record { at = λ y n o. refl };
          shades = λ y n. refl;
          depth = record { at = λ r n c lt le. refl };
          counted_is = c ∙ ap pos (sym e);
          first_is = refl;
          stride_is = refl;
          slots_is = refl;
        }

    -- the turn is counted, and the loop's variable takes its step
    abbrev pub counted : Store ℤ → Store ℤ
    counted to = set to (helper count (suc d)) 0 (add (to (helper count (suc d)) 0) (pos 1))

    abbrev pub next_turn : Store ℤ → Store ℤ
    next_turn to = let f2 = counted to in set f2 (plain x) 0 (add (f2 (plain x) 0) c0)

    -- what holds before the j-th turn
    pub record AtTurn (j : ℕ) (f : Store ℤ) : Type 0 where
      pub same : SameOn sh (needed_through w i (w.marks.kept (suc i))) (U j) f
      pub value : f (plain x) 0 ≡ U j (plain x) 0
      pub count_is : f (helper count (suc d)) 0 ≡ pos j

    pub turn_next : wr (plain x) ≡ false → (j : ℕ) → j < l → (f to : Store ℤ) → f (plain x) 0 ≡ U j (plain x) 0 → f (helper count (suc d)) 0 ≡ pos j → Moved (w.marks.kept (suc i)) j f to → AtTurn (suc j) (next_turn to)
    turn_next x_free j less f to v c k =
        let f2 = counted to in
        let value : f2 (plain x) 0 ≡ U' j (plain x) 0 = k.off.at x 0 x_free ∙ v ∙ sym ((offs j less).at x 0 x_free) in
        let same2 : SameOn sh (needed_step w i (w.marks.kept (suc i))) (U' j) f2 = record { at = λ y o lt a. k.same.at y o lt a } in
        let same3 = same_set sh x one_cell (needed_step w i (w.marks.kept (suc i))) (needed_through w i (w.marks.kept (suc i))) (U' j) f2 (add (U' j (plain x) 0) c0) (add (f2 (plain x) 0) c0) (ap (λ z. add z c0) value) (λ y o a. steps_for (w.marks.kept (suc i)) y o a) same2 in
        let next_value : add (U' j (plain x) 0) c0 ≡ U (suc j) (plain x) 0 = sym (ap (λ (z : Store ℤ). z (plain x) 0) (nexts j less) ∙ rw (name_refl x) refl) in
        let here : next_turn to (plain x) 0 ≡ U (suc j) (plain x) 0 = rw (name_refl x) (ap (λ z. add z c0) value) ∙ next_value in
        let up : next_turn to (helper count (suc d)) 0 ≡ pos (suc j) = rw (nat_refl (suc d)) (ap (λ z. add z (pos 1)) (k.helpers count (suc d) 0 ∙ c) ∙ count_up j (omega arith)) in
        record {
          same = subst (λ (z : Store ℤ). SameOn sh (needed_through w i (w.marks.kept (suc i))) z (next_turn to)) (sym (nexts j less)) same3;
          value = here;
          count_is = up;
        }

    -- one turn, and those after it
    pub turns_more : (n j : ℕ) (f to after : Store ℤ) → Moved (w.marks.kept (suc i)) j f to → TurnsMoved n (suc j) (next_turn to) after → TurnsMoved (suc n) j f after
    turns_more n j f to after k r =
        let e : suc j + n ≡ j + suc n = omega arith in
        record {
          same = subst (λ z. SameOn sh (needed_through w i (w.marks.kept (suc i))) (U z) after) e r.same;
          off = record { at = λ y o a. let b = or_false (name_eq y x) (wr (plain y)) a in r.off.at y o a ∙ rw b.0 (k.off.at y o b.1) };
          shades = λ y o. r.shades y o ∙ k.shades y o;
          depth = record { at = λ o z a lt le. r.depth.at o z a lt le ∙ rw (other_depth d (role_code o) 5 z le) (k.helpers o z a) };
          counted_is = r.counted_is ∙ ap pos e;
          first_is = r.first_is ∙ k.helpers first (suc d) 0;
          stride_is = r.stride_is ∙ k.helpers stride (suc d) 0;
          slots_is = r.slots_is ∙ k.helpers slots (suc d) 0;
        }
