-- The helpers that a unit's adjoint declares are those that its sweeps use, and those that its forward unit declares are those that its forward sweep uses.
use Rattle.std.proofs.Common.{◌≡◌, ℕ, suc, ◌<◌, ◌≤◌, Bool, true, false, List, [], ◌∷◌, ◌++◌, refl, sym, ◌∙◌, arith, if◌then◌else◌}
use Rattle.std.specs.Prelude.{◌&&◌, ◌||◌, ◌==◌, not, Option, Some, None}
use Rattle.adj_tree.specs.Code.{Var, helper, work, temp, control, first, stride, count, turn, entry, entries, kind, lower, upper, slots, Role, Act, assign, choose, loop, during, call, runtime, Code, stop, step}
use Rattle.adj_tree.proofs.Names.{nat_same}
use Rattle.def_names.specs.Numbers.{next, behind}
use Rattle.def_sweep.specs.Declared.{helpers_from}
use Rattle.def_names.proofs.Variables.{and_true, or_left, or_right}
use Rattle.def_meaning.proofs.Variables.{var_refl}
use Rattle.def_sweep.specs.Plan.{Plan, Schedules, Step, found_or, reversed_by}
use Rattle.def_sweep.specs.Rows.{is_empty}
use Rattle.def_sweep.specs.Emission.{backward_with}
use Rattle.def_sweep.specs.Program.{works_used, temps_used, depth_used_with, tells_some_with, goes_back_act_with, goes_back_with, reverses_act_by, reverses_by, any_step, has_slots, is_do, is_loop, loop_helpers_with, reversal_helpers, all_reversal_helpers, helpers_used_with, helpers_used, forth_slots, helpers_forth}
use Rattle.law_emitted.proofs.Tables.{among, among-append, AreHelpers, helpers_append, from_helpers, among_helpers, has_from, has_among}
use Rattle.law_emitted.proofs.Helpers.{InForth, Helped}

-- of two that one is true the one gives what is wanted
pick : {X : Type 0} (a b : Bool) → (a || b) ≡ true → (a ≡ true → X) → (b ≡ true → X) → X
pick true b h f g = f refl
pick false b h f g = g h

-- ---- loops that go back are deeper than the list in which they stand

module _ (sort : Act → Bool) (k : ℕ) (sc : Schedules) (p : Plan) where
  turning_deep : (d : ℕ) (is_kind idle others : Bool) → ((is_kind && ((k == suc d) && not idle)) || others) ≡ true → (others ≡ true → d < k) → d < k
  turning_deep d is_kind idle others h ih =
      pick (is_kind && ((k == suc d) && not idle)) others h
      (λ e. let same : k ≡ suc d = nat_same k (suc d) (and_true (k == suc d) (not idle) (and_true is_kind ((k == suc d) && not idle) e).1).0 in omega arith) ih

  loop_deep : (d : ℕ) (is_sort idle others : Bool) (o : Option Step) → found_or o ((is_sort && ((k == suc d) && not idle)) || others) (λ s. is_sort && (k == suc d)) ≡ true → (others ≡ true → d < k) → d < k
  loop_deep d is_sort idle others None h ih = turning_deep d is_sort idle others h ih
  loop_deep d is_sort idle others (Some s) h ih = let same : k ≡ suc d = nat_same k (suc d) (and_true is_sort (k == suc d) h).1 in omega arith

  mutual
    act_deep : (i d : ℕ) (a : Act) → goes_back_act_with sc sort k p i d a ≡ true → d < k
    act_deep i d (assign x subs e) h = absurd cc
    act_deep i d (choose c a b) h = pick (goes_back_with sc sort k p (suc i) d a) (goes_back_with sc sort k p (behind (suc i) a) d b) h (list_deep (suc i) d a) (list_deep (behind (suc i) a) d b)
    act_deep i d (loop x a b c body m) h = loop_deep d (sort (loop x a b c body m)) (is_empty (backward_with sc p (suc i) (suc d) body)) (goes_back_with sc sort k p (suc i) (suc d) body) (reversed_by sc p.marks.adjointed i body m) h (λ e. let deep = list_deep (suc i) (suc d) body e in omega arith)
    act_deep i d (during c body) h =
        turning_deep d (sort (during c body)) (is_empty (backward_with sc p (suc i) (suc d) body)) (goes_back_with sc sort k p (suc i) (suc d) body) h (λ e. let deep = list_deep (suc i) (suc d) body e in omega arith)
    act_deep i d (call name args) h = absurd cc
    act_deep i d (runtime r) h = absurd cc

    list_deep : (i d : ℕ) (c : Code) → goes_back_with sc sort k p i d c ≡ true → d < k
    list_deep i d stop h = absurd cc
    list_deep i d (step line a rest) h = pick (goes_back_act_with sc sort k p i d a) (goes_back_with sc sort k p (next i a) d rest) h (act_deep i d a) (list_deep (next i a) d rest)

-- and so are those that are reversed by schedules
module _ (sort : Step → Bool) (k : ℕ) (sc : Schedules) (p : Plan) where
  loop_acts : (d : ℕ) (others : Bool) (o : Option Step) → found_or o others (λ s. sort s && (k == suc d)) ≡ true → (others ≡ true → d < k) → d < k
  loop_acts d others None h ih = ih h
  loop_acts d others (Some s) h ih = let same : k ≡ suc d = nat_same k (suc d) (and_true (sort s) (k == suc d) h).1 in omega arith

  mutual
    act_acts : (i d : ℕ) (a : Act) → reverses_act_by sc sort k p i d a ≡ true → d < k
    act_acts i d (assign x subs e) h = absurd cc
    act_acts i d (choose c a b) h = pick (reverses_by sc sort k p (suc i) d a) (reverses_by sc sort k p (behind (suc i) a) d b) h (list_acts (suc i) d a) (list_acts (behind (suc i) a) d b)
    act_acts i d (loop x a b c body m) h = loop_acts d (reverses_by sc sort k p (suc i) (suc d) body) (reversed_by sc p.marks.adjointed i body m) h (λ e. let deep = list_acts (suc i) (suc d) body e in omega arith)
    act_acts i d (during c body) h = let deep = list_acts (suc i) (suc d) body h in omega arith
    act_acts i d (call name args) h = absurd cc
    act_acts i d (runtime o) h = absurd cc

    list_acts : (i d : ℕ) (c : Code) → reverses_by sc sort k p i d c ≡ true → d < k
    list_acts i d stop h = absurd cc
    list_acts i d (step line a rest) h = pick (reverses_act_by sc sort k p i d a) (reverses_by sc sort k p (next i a) d rest) h (act_acts i d a) (list_acts (next i a) d rest)

  -- where none is, none is
  mutual
    none_act : (i d : ℕ) (a : Act) → reverses_act_by None sort k p i d a ≡ false
    none_act i d (assign x subs e) = refl
    none_act i d (choose c a b) = rw (none_list (suc i) d a) (none_list (behind (suc i) a) d b)
    none_act i d (loop x a b c body m) = none_list (suc i) (suc d) body
    none_act i d (during c body) = none_list (suc i) (suc d) body
    none_act i d (call name args) = refl
    none_act i d (runtime o) = refl

    none_list : (i d : ℕ) (c : Code) → reverses_by None sort k p i d c ≡ false
    none_list i d stop = refl
    none_list i d (step line a rest) = rw (none_act i d a) (none_list (next i a) d rest)

-- ---- the helpers of a unit's body

module _ (sc : Schedules) (p : Plan) (i : ℕ) (c : Code) where
  abbrev counts_of : List Var
  counts_of = loop_helpers_with sc is_loop count p i c

  abbrev firsts_of : List Var
  firsts_of = loop_helpers_with sc is_do first p i c

  abbrev strides_of : List Var
  strides_of = loop_helpers_with sc is_do stride p i c

  abbrev turns_of : List Var
  turns_of = loop_helpers_with sc is_loop turn p i c

  abbrev actions_of : List Var
  actions_of = all_reversal_helpers sc p i c

  abbrev works_of : List Var
  works_of = helpers_from work 1 (works_used p.marks i c)

  abbrev temps_of : List Var
  temps_of = helpers_from temp 1 (temps_used p.marks i c)

  abbrev control_of : List Var
  control_of = if tells_some_with sc p i 0 c then helper control 0 ∷ [] else []

  loops_helpers : (sort : Act → Bool) (r : Role) → AreHelpers (loop_helpers_with sc sort r p i c)
  loops_helpers sort r = among_helpers (λ k. goes_back_with sc sort k p i 0 c) r 1 (depth_used_with sc p i 0 c)

  acting_helpers : (z : Schedules) (sort : Step → Bool) (r : Role) → AreHelpers (reversal_helpers z sort r p i c)
  acting_helpers z sort r = among_helpers (λ k. reverses_by z sort k p i 0 c) r 1 (depth_used_with z p i 0 c)

  actions_helpers : (z : Schedules) → AreHelpers (all_reversal_helpers z p i c)
  actions_helpers None = tt
  actions_helpers (Some reads) =
      let z = Some reads in
      helpers_append (reversal_helpers z any_step entry p i c) _ (acting_helpers z any_step entry)
      (helpers_append (reversal_helpers z any_step entries p i c) _ (acting_helpers z any_step entries)
      (helpers_append (reversal_helpers z any_step kind p i c) _ (acting_helpers z any_step kind)
      (helpers_append (reversal_helpers z any_step lower p i c) _ (acting_helpers z any_step lower)
      (helpers_append (reversal_helpers z any_step upper p i c) (reversal_helpers z has_slots slots p i c) (acting_helpers z any_step upper) (acting_helpers z has_slots slots)))))

  control_helper : AreHelpers control_of
  control_helper = go (tells_some_with sc p i 0 c)
    where
      go : (b : Bool) → AreHelpers (if b then helper control 0 ∷ [] else [])
      go true = tt
      go false = tt

  -- they are helpers
  pub used_helpers_with : AreHelpers (helpers_used_with sc p i c)
  used_helpers_with =
      helpers_append control_of _ control_helper
      (helpers_append counts_of _ (loops_helpers is_loop count)
      (helpers_append firsts_of _ (loops_helpers is_do first)
      (helpers_append strides_of _ (loops_helpers is_do stride)
      (helpers_append turns_of _ (loops_helpers is_loop turn)
      (helpers_append actions_of _ (actions_helpers sc)
      (helpers_append works_of temps_of (from_helpers work 1 (works_used p.marks i c)) (from_helpers temp 1 (temps_used p.marks i c))))))))

  -- a variable that stands in the front, or behind
  in_front : (v : Var) (vs ws : List Var) → among v vs ≡ true → among v (vs ++ ws) ≡ true
  in_front v vs ws h = among-append v vs ws ∙ or_left (among v vs) (among v ws) h

  in_rest : (v : Var) (vs ws : List Var) → among v ws ≡ true → among v (vs ++ ws) ≡ true
  in_rest v vs ws h = among-append v vs ws ∙ or_right (among v vs) (among v ws) h

  abbrev own_of : List Var
  own_of = works_of ++ temps_of

  behind_control : (v : Var) → among v (counts_of ++ (firsts_of ++ (strides_of ++ (turns_of ++ (actions_of ++ own_of))))) ≡ true → among v (helpers_used_with sc p i c) ≡ true
  behind_control v h = in_rest v control_of _ h

  behind_counts : (v : Var) → among v (firsts_of ++ (strides_of ++ (turns_of ++ (actions_of ++ own_of)))) ≡ true → among v (helpers_used_with sc p i c) ≡ true
  behind_counts v h = behind_control v (in_rest v counts_of _ h)

  behind_firsts : (v : Var) → among v (strides_of ++ (turns_of ++ (actions_of ++ own_of))) ≡ true → among v (helpers_used_with sc p i c) ≡ true
  behind_firsts v h = behind_counts v (in_rest v firsts_of _ h)

  behind_strides : (v : Var) → among v (turns_of ++ (actions_of ++ own_of)) ≡ true → among v (helpers_used_with sc p i c) ≡ true
  behind_strides v h = behind_firsts v (in_rest v strides_of _ h)

  behind_turns : (v : Var) → among v (actions_of ++ own_of) ≡ true → among v (helpers_used_with sc p i c) ≡ true
  behind_turns v h = behind_strides v (in_rest v turns_of _ h)

  behind_actions : (v : Var) → among v own_of ≡ true → among v (helpers_used_with sc p i c) ≡ true
  behind_actions v h = behind_turns v (in_rest v actions_of _ h)

  of_loop : (sort : Act → Bool) (r : Role) (k : ℕ) → goes_back_with sc sort k p i 0 c ≡ true → k ≤ depth_used_with sc p i 0 c → among (helper r k) (loop_helpers_with sc sort r p i c) ≡ true
  of_loop sort r k h le = let deep = list_deep sort k sc p i 0 c h in has_among (λ k. goes_back_with sc sort k p i 0 c) r k 1 (depth_used_with sc p i 0 c) (omega arith) (omega arith) h

  -- those that the sweeps use are among them
  pub used_works : (k : ℕ) → 1 ≤ k → k ≤ works_used p.marks i c → among (helper work k) (helpers_used_with sc p i c) ≡ true
  used_works k low high = behind_actions (helper work k) (in_front (helper work k) works_of temps_of (has_from work k 1 (works_used p.marks i c) low (omega arith)))

  pub used_temps : (k : ℕ) → 1 ≤ k → k ≤ temps_used p.marks i c → among (helper temp k) (helpers_used_with sc p i c) ≡ true
  used_temps k low high = behind_actions (helper temp k) (in_rest (helper temp k) works_of temps_of (has_from temp k 1 (temps_used p.marks i c) low (omega arith)))

  used_control : tells_some_with sc p i 0 c ≡ true → among (helper control 0) (helpers_used_with sc p i c) ≡ true
  used_control h = in_front (helper control 0) control_of _ (rw h (or_left _ false (var_refl (helper control 0))))

  of_reversal : (z : Schedules) (sort : Step → Bool) (r : Role) (k : ℕ) → reverses_by z sort k p i 0 c ≡ true → k ≤ depth_used_with z p i 0 c → among (helper r k) (reversal_helpers z sort r p i c) ≡ true
  of_reversal z sort r k h le = let deep = list_acts sort k z p i 0 c h in has_among (λ k. reverses_by z sort k p i 0 c) r k 1 (depth_used_with z p i 0 c) (omega arith) (omega arith) h

  -- the five of each reversal
  record AllActions (z : Schedules) (k : ℕ) : Type 0 where
    entry_is : among (helper entry k) (all_reversal_helpers z p i c) ≡ true
    entries_is : among (helper entries k) (all_reversal_helpers z p i c) ≡ true
    kind_is : among (helper kind k) (all_reversal_helpers z p i c) ≡ true
    lower_is : among (helper lower k) (all_reversal_helpers z p i c) ≡ true
    upper_is : among (helper upper k) (all_reversal_helpers z p i c) ≡ true

  used_actions : (z : Schedules) (k : ℕ) → reverses_by z any_step k p i 0 c ≡ true → k ≤ depth_used_with z p i 0 c → AllActions z k
  used_actions None k h le = absurd (let e : true ≡ false = sym h ∙ none_list any_step k sc p i 0 c in cc)
  used_actions (Some reads) k h le =
      let z = Some reads in
      let one = reversal_helpers z any_step entry p i c in
      let two = reversal_helpers z any_step entries p i c in
      let three = reversal_helpers z any_step kind p i c in
      let four = reversal_helpers z any_step lower p i c in
      let five = reversal_helpers z any_step upper p i c in
      record {
        entry_is = in_front (helper entry k) one _ (of_reversal z any_step entry k h le);
        entries_is = in_rest (helper entries k) one _ (in_front (helper entries k) two _ (of_reversal z any_step entries k h le));
        kind_is = in_rest (helper kind k) one _ (in_rest (helper kind k) two _ (in_front (helper kind k) three _ (of_reversal z any_step kind k h le)));
        lower_is = in_rest (helper lower k) one _ (in_rest (helper lower k) two _ (in_rest (helper lower k) three _ (in_front (helper lower k) four _ (of_reversal z any_step lower k h le))));
        upper_is = in_rest (helper upper k) one _ (in_rest (helper upper k) two _ (in_rest (helper upper k) three _ (in_rest (helper upper k) four _ (in_front (helper upper k) five _ (of_reversal z any_step upper k h le)))));
      }

  -- and the number of snapshots, where a variable gives it
  used_numbers : (z : Schedules) (k : ℕ) → reverses_by z has_slots k p i 0 c ≡ true → k ≤ depth_used_with z p i 0 c → among (helper slots k) (all_reversal_helpers z p i c) ≡ true
  used_numbers None k h le = absurd (let e : true ≡ false = sym h ∙ none_list has_slots k sc p i 0 c in cc)
  used_numbers (Some reads) k h le =
      let z = Some reads in
      let v = helper slots k in
      in_rest v (reversal_helpers z any_step entry p i c) _
      (in_rest v (reversal_helpers z any_step entries p i c) _
      (in_rest v (reversal_helpers z any_step kind p i c) _
      (in_rest v (reversal_helpers z any_step lower p i c) _
      (in_rest v (reversal_helpers z any_step upper p i c) (reversal_helpers z has_slots slots p i c) (of_reversal z has_slots slots k h le)))))

  pub all_helped : (H : Var → Type 0) → ((v : Var) → among v (helpers_used_with sc p i c) ≡ true → H v) → Helped H sc p i 0 c
  all_helped H f = record {
    controls = λ e. f (helper control 0) (used_control e);
    counts = λ k e le. (f (helper count k) (behind_control (helper count k) (in_front (helper count k) counts_of _ (of_loop is_loop count k e le))), f (helper turn k) (behind_strides (helper turn k) (in_front (helper turn k) turns_of _ (of_loop is_loop turn k e le))));
    bounds = λ k e le. (f (helper first k) (behind_counts (helper first k) (in_front (helper first k) firsts_of _ (of_loop is_do first k e le))), f (helper stride k) (behind_firsts (helper stride k) (in_front (helper stride k) strides_of _ (of_loop is_do stride k e le))));
    actions = λ k e le. let all = used_actions sc k e le in (
      (f (helper entry k) (behind_turns (helper entry k) (in_front (helper entry k) actions_of own_of all.entry_is)), f (helper entries k) (behind_turns (helper entries k) (in_front (helper entries k) actions_of own_of all.entries_is))),
      (
        f (helper kind k) (behind_turns (helper kind k) (in_front (helper kind k) actions_of own_of all.kind_is)),
        (f (helper lower k) (behind_turns (helper lower k) (in_front (helper lower k) actions_of own_of all.lower_is)), f (helper upper k) (behind_turns (helper upper k) (in_front (helper upper k) actions_of own_of all.upper_is))),
      ),
    );
    numbers = λ k e le. f (helper slots k) (behind_turns (helper slots k) (in_front (helper slots k) actions_of own_of (used_numbers sc k e le)));
  }

  -- ---- the helpers of a forward unit

  slots_helpers : (z : Schedules) → AreHelpers (forth_slots z p i c)
  slots_helpers None = tt
  slots_helpers (Some reads) = acting_helpers (Some reads) has_slots slots

  pub forth_helpers : AreHelpers (helpers_forth sc p i c)
  forth_helpers =
      helpers_append counts_of _ (loops_helpers is_loop count)
      (helpers_append firsts_of _ (loops_helpers is_do first)
      (helpers_append strides_of (forth_slots sc p i c) (loops_helpers is_do stride) (slots_helpers sc)))

  -- the variables for numbers of snapshots
  forth_numbers : (z : Schedules) (k : ℕ) → reverses_by z has_slots k p i 0 c ≡ true → k ≤ depth_used_with z p i 0 c → among (helper slots k) (forth_slots z p i c) ≡ true
  forth_numbers None k h le = absurd (let e : true ≡ false = sym h ∙ none_list has_slots k sc p i 0 c in cc)
  forth_numbers (Some reads) k h le = of_reversal (Some reads) has_slots slots k h le

  pub forth_helped : (H : Var → Type 0) → ((v : Var) → among v (helpers_forth sc p i c) ≡ true → H v) → Helped (λ v. InForth H v) sc p i 0 c
  forth_helped H f = record {
    controls = λ e. tt;
    counts = λ k e le. (f (helper count k) (in_front (helper count k) counts_of _ (of_loop is_loop count k e le)), tt);
    bounds = λ k e le. (
      f (helper first k) (in_rest (helper first k) counts_of _ (in_front (helper first k) firsts_of _ (of_loop is_do first k e le))),
      f (helper stride k) (in_rest (helper stride k) counts_of _ (in_rest (helper stride k) firsts_of _ (in_front (helper stride k) strides_of (forth_slots sc p i c) (of_loop is_do stride k e le)))),
    );
    actions = λ k e le. ((tt, tt), (tt, (tt, tt)));
    numbers = λ k e le. f (helper slots k) (in_rest (helper slots k) counts_of _ (in_rest (helper slots k) firsts_of _ (in_rest (helper slots k) strides_of (forth_slots sc p i c) (forth_numbers sc k e le))));
  }

-- where no loop is reversed by a schedule
pub used_helpers : (p : Plan) (i : ℕ) (c : Code) → AreHelpers (helpers_used p i c)
used_helpers p i c = used_helpers_with None p i c
