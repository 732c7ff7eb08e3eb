-- What each action of a reversal takes, from what the groups and the calls of the step unit and of its adjoint take.
use Rattle.std.proofs.Common.{◌≡◌, ◌<◌, ◌≤◌, ◌^◌, ℕ, zero, suc, ◌+◌, ◌*◌, Bool, true, false, List, ◌∷◌, ◌++◌, length, refl, sym, ap, ◌∙◌, subst, arith, int_eq}
use Rattle.std.specs.Prelude.{ℤ, pos, Ok, not}
use Rattle.adj_tree.specs.Code.{Var, plain, helper, first, stride, count, turn, entry, kind, lower, upper, slots, plus, minus, times, is_same, var, bin, none, Mark, compare, choose, assign, unmarked, loop, runtime, give_action, Code, stop}
use Rattle.adj_tree.proofs.Names.{nat_refl, name_refl}
use Rattle.adj_word.specs.Word.{wrap, add, sub, mul}
use Rattle.adj_word.proofs.Residues.{wrap_word}
use Rattle.adj_word.proofs.Counting.{word-count, count_up}
use Rattle.adj_revolve.specs.declared.machine.Action.{Action}
use Rattle.adj_revolve.specs.declared.machine.Action.TheVariants.{Store as Put, Advance, Turn, Keep, Drop}
use Rattle.adj_revolve.specs.Schedule.{schedule_of}
use Rattle.def_meaning.specs.Append.{◌+++◌, one}
use Rattle.def_meaning.specs.Store.{Shape, Store, set}
use Rattle.def_meaning.specs.Value.{Setting}
use Rattle.def_meaning.specs.Scene.{Scene}
use Rattle.def_meaning.specs.Run.{Calls, trips, stepped}
use Rattle.def_meaning.specs.Runtime.{steps_of, snapshots_of}
use Rattle.law_sweep.specs.Pairs.{on_words}
use Rattle.law_sweep.specs.Scenes.{Course, scene}
use Rattle.def_sweep.specs.Marked.{code_if}
use Rattle.def_sweep.specs.Rows.{is_empty, literal}
use Rattle.def_sweep.specs.ReversalCode.{at_turn, arm, advance, arms, one_action, slots_of}
use Rattle.law_sweep.proofs.Idle.{empty_is}
use Rattle.law_sweep.proofs.Slots.{slots_same}
use Rattle.law_sweep.proofs.Turns.{next_store}
use Rattle.law_sweep.proofs.ActionStores.{at_past, past_less, SameHelpers, SameFixed, fixed_none, fixed_of, fixed_then, told, told_kind, told_lower, told_upper, Beside, own_set, variable_set, beside_then, told_beside, next_beside, AtStep, Ready, trips_between}
use Rattle.law_sweep.proofs.Playing.{past}
use Rattle.law_cost.specs.Sums.{sum_of}
use Rattle.law_cost.proofs.Takes.{Takes, TurnsTake, takes_stop, takes_more, takes_append, takes_step, takes_one, act_takes_then, act_takes_else, turns_take_none, turns_take_more, turns_take_as, loop_takes}
use Rattle.law_cost.proofs.Playing.{Played, Taken, Acts}

-- ---- arms

module _ (q : Calls ℤ) (sh : Var → Shape) (level line d : ℕ) where
  abbrev ns : Setting ℤ
  ns = on_words sh level

  arm_taken : (j : ℕ) (c : Code) (s s1 : Scene ℤ) (m : ℕ) → int_eq (pos j) (pos j) ≡ true → s.store (helper kind d) 0 ≡ pos j → Takes q ns c s s1 m → Takes q ns (arm line d j c) s s1 (1 + m)
  arm_taken j c s s1 m same is g = go (is_empty c) refl
    where
      go : (e : Bool) → is_empty c ≡ e → Takes q ns (code_if (not e) (one line (choose (compare is_same (var (helper kind d)) (literal j)) c stop))) s s1 (1 + m)
      go true e = takes_more q ns stop s s1 m (1 + m) (omega arith) (subst (λ z. Takes q ns z s s1 m) (empty_is c e) g)
      go false e = takes_one q ns line (choose (compare is_same (var (helper kind d)) (literal j)) c stop) s s1 m
          (act_takes_then q ns line (compare is_same (var (helper kind d)) (literal j)) c stop s s1 m (ap (λ z. Ok (int_eq z (pos j))) is ∙ ap Ok same) g)

  -- an arm of another kind takes its test
  arm_skipped : (j v : ℕ) (c : Code) (s : Scene ℤ) → int_eq (pos v) (pos j) ≡ false → s.store (helper kind d) 0 ≡ pos v → Takes q ns (arm line d j c) s s 1
  arm_skipped j v c s other is = go (is_empty c)
    where
      go : (e : Bool) → Takes q ns (code_if (not e) (one line (choose (compare is_same (var (helper kind d)) (literal j)) c stop))) s s 1
      go true = takes_more q ns stop s s 0 1 (omega arith) (takes_stop q ns s)
      go false = takes_more q ns (one line (choose (compare is_same (var (helper kind d)) (literal j)) c stop)) s s (1 + 0) 1 (omega arith)
          (takes_one q ns line (choose (compare is_same (var (helper kind d)) (literal j)) c stop) s s 0
          (act_takes_else q ns line (compare is_same (var (helper kind d)) (literal j)) c stop s s 0 (ap (λ z. Ok (int_eq z (pos j))) is ∙ ap Ok other) (takes_stop q ns s)))

  module _ (x : Var) (keep back plain_call adjoint : Code) where
    abbrev a1 : Code
    a1 = arm line d 1 keep

    abbrev a2 : Code
    a2 = arm line d 2 (advance line d x plain_call)

    abbrev a3 : Code
    a3 = arm line d 3 (at_turn line d x lower adjoint)

    abbrev a4 : Code
    a4 = arm line d 4 (back +++ keep)

    abbrev a5 : Code
    a5 = arm line d 5 back

    abbrev these : Code
    these = arms line d x keep back plain_call adjoint

    module _ (v : ℕ) (s : Scene ℤ) (is : s.store (helper kind d) 0 ≡ pos v) where
      from_4 : int_eq (pos v) (pos 4) ≡ false → int_eq (pos v) (pos 5) ≡ false → Takes q ns (a4 +++ a5) s s 2
      from_4 n4 n5 = takes_append q ns a4 a5 s s s 1 1 (arm_skipped 4 v (back +++ keep) s n4 is) (arm_skipped 5 v back s n5 is)

      from_3 : int_eq (pos v) (pos 3) ≡ false → int_eq (pos v) (pos 4) ≡ false → int_eq (pos v) (pos 5) ≡ false → Takes q ns (a3 +++ (a4 +++ a5)) s s 3
      from_3 n3 n4 n5 = takes_append q ns a3 (a4 +++ a5) s s s 1 2 (arm_skipped 3 v (at_turn line d x lower adjoint) s n3 is) (from_4 n4 n5)

      from_2 : int_eq (pos v) (pos 2) ≡ false → int_eq (pos v) (pos 3) ≡ false → int_eq (pos v) (pos 4) ≡ false → int_eq (pos v) (pos 5) ≡ false → Takes q ns (a2 +++ (a3 +++ (a4 +++ a5))) s s 4
      from_2 n2 n3 n4 n5 = takes_append q ns a2 (a3 +++ (a4 +++ a5)) s s s 1 3 (arm_skipped 2 v (advance line d x plain_call) s n2 is) (from_3 n3 n4 n5)

    module _ (s s1 : Scene ℤ) (m : ℕ) where
      pub do_1 : s.store (helper kind d) 0 ≡ pos 1 → s1.store (helper kind d) 0 ≡ pos 1 → Takes q ns keep s s1 m → Takes q ns these s s1 (5 + m)
      do_1 is is1 g =
          takes_more q ns these s s1 (1 + m + 4) (5 + m) (omega arith)
          (takes_append q ns a1 (a2 +++ (a3 +++ (a4 +++ a5))) s s1 s1 (1 + m) 4 (arm_taken 1 keep s s1 m refl is g) (from_2 1 s1 is1 refl refl refl refl))

      pub do_2 : s.store (helper kind d) 0 ≡ pos 2 → s1.store (helper kind d) 0 ≡ pos 2 → Takes q ns (advance line d x plain_call) s s1 m → Takes q ns these s s1 (5 + m)
      do_2 is is1 g =
          takes_more q ns these s s1 (1 + (1 + m + 3)) (5 + m) (omega arith)
          (takes_append q ns a1 (a2 +++ (a3 +++ (a4 +++ a5))) s s s1 1 (1 + m + 3) (arm_skipped 1 2 keep s refl is)
          (takes_append q ns a2 (a3 +++ (a4 +++ a5)) s s1 s1 (1 + m) 3 (arm_taken 2 (advance line d x plain_call) s s1 m refl is g) (from_3 2 s1 is1 refl refl refl)))

      pub do_3 : s.store (helper kind d) 0 ≡ pos 3 → s1.store (helper kind d) 0 ≡ pos 3 → Takes q ns (at_turn line d x lower adjoint) s s1 m → Takes q ns these s s1 (5 + m)
      do_3 is is1 g =
          takes_more q ns these s s1 (1 + (1 + (1 + m + 2))) (5 + m) (omega arith)
          (takes_append q ns a1 (a2 +++ (a3 +++ (a4 +++ a5))) s s s1 1 (1 + (1 + m + 2)) (arm_skipped 1 3 keep s refl is)
          (takes_append q ns a2 (a3 +++ (a4 +++ a5)) s s s1 1 (1 + m + 2) (arm_skipped 2 3 (advance line d x plain_call) s refl is)
          (takes_append q ns a3 (a4 +++ a5) s s1 s1 (1 + m) 2 (arm_taken 3 (at_turn line d x lower adjoint) s s1 m refl is g) (from_4 3 s1 is1 refl refl))))

      pub do_4 : s.store (helper kind d) 0 ≡ pos 4 → s1.store (helper kind d) 0 ≡ pos 4 → Takes q ns (back +++ keep) s s1 m → Takes q ns these s s1 (5 + m)
      do_4 is is1 g =
          takes_more q ns these s s1 (1 + (1 + (1 + (1 + m + 1)))) (5 + m) (omega arith)
          (takes_append q ns a1 (a2 +++ (a3 +++ (a4 +++ a5))) s s s1 1 (1 + (1 + (1 + m + 1))) (arm_skipped 1 4 keep s refl is)
          (takes_append q ns a2 (a3 +++ (a4 +++ a5)) s s s1 1 (1 + (1 + m + 1)) (arm_skipped 2 4 (advance line d x plain_call) s refl is)
          (takes_append q ns a3 (a4 +++ a5) s s s1 1 (1 + m + 1) (arm_skipped 3 4 (at_turn line d x lower adjoint) s refl is)
          (takes_append q ns a4 a5 s s1 s1 (1 + m) 1 (arm_taken 4 (back +++ keep) s s1 m refl is g) (arm_skipped 5 4 back s1 refl is1)))))

      pub do_5 : s.store (helper kind d) 0 ≡ pos 5 → Takes q ns back s s1 m → Takes q ns these s s1 (5 + m)
      do_5 is g =
          takes_more q ns these s s1 (1 + (1 + (1 + (1 + (1 + m))))) (5 + m) (omega arith)
          (takes_append q ns a1 (a2 +++ (a3 +++ (a4 +++ a5))) s s s1 1 (1 + (1 + (1 + (1 + m)))) (arm_skipped 1 5 keep s refl is)
          (takes_append q ns a2 (a3 +++ (a4 +++ a5)) s s s1 1 (1 + (1 + (1 + m))) (arm_skipped 2 5 (advance line d x plain_call) s refl is)
          (takes_append q ns a3 (a4 +++ a5) s s s1 1 (1 + (1 + m)) (arm_skipped 3 5 (at_turn line d x lower adjoint) s refl is)
          (takes_append q ns a4 a5 s s s1 1 (1 + m) (arm_skipped 4 5 (back +++ keep) s refl is) (arm_taken 5 back s s1 m refl is g)))))

-- ---- actions

-- the k-th action
-- The reversal of a loop of depth d and l turns with m snapshots, by its directive; `a0` and `c0` are its first value and its step, x its
-- variable. A group is pushed or popped by at most W statements, the step unit is called at step i by P i, and its adjoint by A i.
module _ (q : Calls ℤ) (sh : Var → Shape) (level : ℕ) (d line : ℕ) (x : List ℕ) (l m : ℕ) (mark : Mark) (a0 c0 : ℤ) (keep back plain_call adjoint : Code) (Standing : ℕ → Store ℤ → Type 0) (Loose : Store ℤ → Type 0) (Snap : ℕ → List ℤ → Type 0) (W : ℕ) (P A : ℕ → ℕ) where
  abbrev nw : Setting ℤ
  nw = on_words sh level

  -- the snapshot is pushed
  pub record SnapshotPushed (i : ℕ) (f : Store ℤ) : Type 0 where
    pub snap : List ℤ
    pub is : Snap i snap
    pub pushes : (b : Course) (t : List ℤ) → Takes q nw keep (scene b f t) (scene b f (snap ++ t)) W

  -- the snapshot is popped
  pub record SnapshotPopped (i : ℕ) (snap : List ℤ) (g : Store ℤ) : Type 0 where
    pub after : Store ℤ
    pub pops : (b : Course) (t : List ℤ) → Takes q nw back (scene b g (snap ++ t)) (scene b after t) W
    pub stands : Standing i after
    pub helpers : SameHelpers g after

  -- the step unit is called
  pub record Stepped (i : ℕ) (b : Course) (f : Store ℤ) (t : List ℤ) : Type 0 where
    pub after : Store ℤ
    pub later : Course
    pub opened : later.opened ≡ b.opened
    pub takes : Takes q nw plain_call (scene b f t) (scene later after t) (P i)
    pub stands : Standing (suc i) after
    pub helpers : SameHelpers f after

  -- its adjoint is called
  pub record TurnedBack (i : ℕ) (b : Course) (f : Store ℤ) (t : List ℤ) : Type 0 where
    pub after : Store ℤ
    pub later : Course
    pub opened : later.opened ≡ b.opened
    pub takes : Takes q nw adjoint (scene b f t) (scene later after t) (A i)
    pub loose : Loose after
    pub helpers : SameHelpers f after

  -- what a reversal asks of the groups and of the calls
  pub record Stepping : Type 0 where
    pub pushed : (i : ℕ) (f : Store ℤ) → Standing i f → SnapshotPushed i f
    pub popped : (i : ℕ) (snap : List ℤ) (g : Store ℤ) → Snap i snap → Loose g → SnapshotPopped i snap g
    pub stepped : (i : ℕ) (b : Course) (f : Store ℤ) (t : List ℤ) → i < l → Standing i f → AtStep x a0 c0 i f → Stepped i b f t
    pub turned : (i : ℕ) (b : Course) (f : Store ℤ) (t : List ℤ) → i < l → Standing i f → AtStep x a0 c0 i f → TurnedBack i b f t
    -- neither looks at the loop's variable, at shadows or at helpers of its depth
    pub standing : (i : ℕ) (f g : Store ℤ) → Beside d x f g → Standing i f → Standing i g
    pub loose : (f g : Store ℤ) → Beside d x f g → Loose f → Loose g
    pub loosen : (i : ℕ) (f : Store ℤ) → Standing i f → Loose f

  abbrev pub all : List Action
  all = schedule_of 0 l m

  abbrev pub action : Code
  action = one_action line d (plain x) (slots_of d mark) keep back plain_call adjoint

  -- an advance takes its test, the step of its turn and the call for each step
  abbrev pub inner : ℕ → ℕ
  inner i = P i + 2

  -- before the k-th action
  abbrev IsReady : ℕ → Store ℤ → Type 0
  IsReady k f = Ready sh level d l m mark a0 c0 k f

  module _ (steps_fit : steps_of (pos l) ≡ Ok l) (snapshots_fit : snapshots_of (pos m) ≡ Ok m) (few : suc (suc (length all)) < 2 ^ 63) (small : suc l < 2 ^ 63) (s : Stepping) where
    abbrev These : Code
    These = arms line d (plain x) keep back plain_call adjoint

    -- an action that was done, with the step of the loop after it
    abbrev next : Store ℤ → Store ℤ
    next f = next_store nw (helper entry d) (pos 1) f

    abbrev DoesOne : ℕ → (Store ℤ → Type 0) → ℕ → Course → Store ℤ → List ℤ → List ℤ → Type 0
    DoesOne k end most b f t t1 = Played q sh level action (helper entry d) W inner A IsReady 1 k end most b f t t1

    done : (k : ℕ) (end : Store ℤ → Type 0) (most most' : ℕ) (a : Action) (rest : List Action) (b b1 : Course) (f f1 : Store ℤ) (t t1 : List ℤ) → past k all ≡ a ∷ rest → IsReady k f → b1.opened ≡ b.opened →
        Takes q nw These (scene b (told d a f) t) (scene b1 f1 t1) (5 + most) → SameFixed d (told d a f) f1 → end (next f1) → 7 + most ≤ most' → DoesOne k end most' b f t t1
    done k end most most' a rest b b1 f f1 t t1 at r shut g fixed e le =
        let less = past_less k all a rest at in
        let again : k + 1 ≡ suc k = omega arith in
        let up : add (pos (suc k)) (pos 1) ≡ pos (suc (suc k)) = count_up (suc k) (omega arith) in
        let found = at_past k all a rest at in
        let body = takes_step q nw line (runtime (give_action (var (helper count d)) (slots_of d mark) (var (helper entry d)) (helper kind d) (helper lower d) (helper upper d))) These (scene b f t) (scene b (told d a f) t) (scene b1 f1 t1) (5 + most)
        (λ j. rw (r.count_is, r.slots_is, r.entry_is, steps_fit, snapshots_fit, found) refl) g in
        let after = stepped nw (helper entry d) (pos 1) in
        record {
          after = next f1;
          later = b1;
          opened = shut;
          takes = turns_take_as q nw action after 1 1 (scene b f t) (scene b1 (next f1) t1) (1 + (1 + (5 + most)) + 0) most' refl (omega (arith, le))
              (turns_take_more q nw action after 0 (scene b f t) (scene b1 f1 t1) (scene b1 (next f1) t1) (1 + (5 + most)) 0 body (turns_take_none q nw action after (scene b1 (next f1) t1)));
          ready = subst (λ n. IsReady n (next f1)) (sym again) (record {
            count_is = fixed.count_is ∙ r.count_is;
            first_is = fixed.first_is ∙ r.first_is;
            stride_is = fixed.stride_is ∙ r.stride_is;
            slots_is = slots_same sh level d mark f (next f1) fixed.slots_is ∙ r.slots_is;
            entry_is = rw (nat_refl d) (ap (λ z. add z (pos 1)) (fixed.entry_is ∙ r.entry_is) ∙ up);
          });
          ends = e;
        }

    stands_told : (i : ℕ) (a : Action) (f : Store ℤ) → Standing i f → Standing i (told d a f)
    stands_told i a f h = s.standing i f (told d a f) (told_beside d x a f) h

    stands_next : (i : ℕ) (f : Store ℤ) → Standing i f → Standing i (next f)
    stands_next i f h = s.standing i f (next f) (next_beside d x sh level f) h

    loose_next : (f : Store ℤ) → Loose f → Loose (next f)
    loose_next f h = s.loose f (next f) (next_beside d x sh level f) h

    -- ---- snapshots

    abbrev Takes1 : ℕ → ℕ → ℕ → Course → Store ℤ → List ℤ → List ℤ → Type 0
    Takes1 k i most b f t t1 = Taken q sh level action (helper entry d) W inner A IsReady all l Standing Loose Snap k i most b f t t1

    puts : (k i : ℕ) (rest : List Action) (b : Course) (f : Store ℤ) (t : List ℤ) → past k all ≡ Put i ∷ rest → IsReady k f → Standing i f → Takes1 k i (7 + W) b f t t
    puts k i rest b f t at r h =
        let f1 = told d (Put i) f in
        let p = s.pushed i f1 (stands_told i (Put i) f h) in
        record {
          snap = p.snap;
          is = p.is;
          played = done k (Standing i) W (7 + W) (Put i) rest b b f f1 t (p.snap ++ t) at r refl
              (do_1 q sh level line d (plain x) keep back plain_call adjoint (scene b f1 t) (scene b f1 (p.snap ++ t)) W (told_kind d (Put i) f) (told_kind d (Put i) f) (p.pushes b t))
              (fixed_none d f1) (stands_next i f1 (stands_told i (Put i) f h)) (omega arith);
        }

    drops : (k i : ℕ) (rest : List Action) (b : Course) (f : Store ℤ) (snap t : List ℤ) → past k all ≡ Drop i ∷ rest → IsReady k f → Loose f → Snap i snap → DoesOne k (Standing i) (7 + W) b f (snap ++ t) t
    drops k i rest b f snap t at r h is =
        let f1 = told d (Drop i) f in
        let p = s.popped i snap f1 is (s.loose f f1 (told_beside d x (Drop i) f) h) in
        done k (Standing i) W (7 + W) (Drop i) rest b b f p.after (snap ++ t) t at r refl
        (do_5 q sh level line d (plain x) keep back plain_call adjoint (scene b f1 (snap ++ t)) (scene b p.after t) W (told_kind d (Drop i) f) (p.pops b t))
        (fixed_of d f1 p.after p.helpers) (stands_next i p.after p.stands) (omega arith)

    keeps : (k i : ℕ) (rest : List Action) (b : Course) (f : Store ℤ) (snap t : List ℤ) → past k all ≡ Keep i ∷ rest → IsReady k f → Loose f → Snap i snap → Takes1 k i (7 + 2 * W) b f (snap ++ t) t
    keeps k i rest b f snap t at r h is =
        let f1 = told d (Keep i) f in
        let p = s.popped i snap f1 is (s.loose f f1 (told_beside d x (Keep i) f) h) in
        let w = s.pushed i p.after p.stands in
        record {
          snap = w.snap;
          is = w.is;
          played = done k (Standing i) (W + W) (7 + 2 * W) (Keep i) rest b b f p.after (snap ++ t) (w.snap ++ t) at r refl
              (do_4 q sh level line d (plain x) keep back plain_call adjoint (scene b f1 (snap ++ t)) (scene b p.after (w.snap ++ t)) (W + W) (told_kind d (Keep i) f) (p.helpers.at kind d 0 ∙ told_kind d (Keep i) f)
              (takes_append q nw back keep (scene b f1 (snap ++ t)) (scene b p.after t) (scene b p.after (w.snap ++ t)) W W (p.pops b t) (w.pushes b t)))
              (fixed_of d f1 p.after p.helpers) (stands_next i p.after p.stands) (omega arith);
        }

    -- ---- the adjoint of a step

    turns_done : (k i : ℕ) (rest : List Action) (b : Course) (f : Store ℤ) (t : List ℤ) → past k all ≡ Turn i ∷ rest → i < l → IsReady k f → Standing i f → DoesOne k Loose (8 + A i) b f t t
    turns_done k i rest b f t at less r h =
        let f1 = told d (Turn i) f in
        let v = add (f1 (helper first d) 0) (mul (f1 (helper lower d) 0) (f1 (helper stride d) 0)) in
        let f2 = set f1 (plain x) 0 v in
        let v_is : v ≡ add a0 (mul (pos i) c0) = λ j. add (r.first_is j) (mul (told_lower d (Turn i) f j) (r.stride_is j)) in
        let value : AtStep x a0 c0 i f2 = rw (name_refl x) v_is in
        let stands2 : Standing i f2 = s.standing i f f2 (beside_then d x f f1 f2 (told_beside d x (Turn i) f) (variable_set d x v f1)) h in
        let c = s.turned i b f2 t less stands2 value in
        done k Loose (1 + A i) (8 + A i) (Turn i) rest b c.later f c.after t t at r c.opened
        (do_3 q sh level line d (plain x) keep back plain_call adjoint (scene b f1 t) (scene c.later c.after t) (1 + A i) (told_kind d (Turn i) f) (c.helpers.at kind d 0 ∙ told_kind d (Turn i) f)
        (takes_step q nw line (assign (plain x) none (bin plus (var (helper first d)) (bin times (var (helper lower d)) (var (helper stride d))))) adjoint (scene b f1 t) (scene b f2 t) (scene c.later c.after t) (A i) (λ j. refl) c.takes))
        (fixed_of d f1 c.after (record { at = λ r k n. c.helpers.at r k n })) (loose_next c.after c.loose) (omega arith)

    -- ---- the calls of an advance

    record Advanced (n i : ℕ) (b : Course) (f : Store ℤ) (t : List ℤ) : Type 0 where
      after : Store ℤ
      later : Course
      opened : later.opened ≡ b.opened
      takes : TurnsTake q nw n (at_turn line d (plain x) turn plain_call) (stepped nw (helper turn d) (pos 1)) (scene b f t) (scene later after t) (sum_of inner i n)
      stands : Standing (i + n) after
      fixed : SameFixed d f after

    advanced : (n i : ℕ) (b : Course) (f : Store ℤ) (t : List ℤ) → i + n < l → f (helper turn d) 0 ≡ pos i → f (helper first d) 0 ≡ a0 → f (helper stride d) 0 ≡ c0 → Standing i f → Advanced n i b f t
    advanced zero i b f t less number_is first_is stride_is h = record {
      after = f;
      later = b;
      opened = refl;
      takes = turns_take_none q nw (at_turn line d (plain x) turn plain_call) (stepped nw (helper turn d) (pos 1)) (scene b f t);
      stands = let e : i + 0 ≡ i = omega arith in subst (λ z. Standing z f) (sym e) h;
      fixed = fixed_none d f;
    }
    advanced (suc n) i b f t less number_is first_is stride_is h =
        let v = add (f (helper first d) 0) (mul (f (helper turn d) 0) (f (helper stride d) 0)) in
        let f2 = set f (plain x) 0 v in
        let v_is : v ≡ add a0 (mul (pos i) c0) = λ j. add (first_is j) (mul (number_is j) (stride_is j)) in
        let value : AtStep x a0 c0 i f2 = rw (name_refl x) v_is in
        let stands2 : Standing i f2 = s.standing i f f2 (variable_set d x v f) h in
        let c = s.stepped i b f2 t (omega arith) stands2 value in
        let body = at_turn line d (plain x) turn plain_call in
        let after = stepped nw (helper turn d) (pos 1) in
        let g1 = takes_step q nw line (assign (plain x) none (bin plus (var (helper first d)) (bin times (var (helper turn d)) (var (helper stride d))))) plain_call (scene b f t) (scene b f2 t) (scene c.later c.after t) (P i) (λ j. refl) c.takes in
        let f3 = next_store nw (helper turn d) (pos 1) c.after in
        let up : add (pos i) (pos 1) ≡ pos (suc i) = count_up i (omega arith) in
        let number3 : f3 (helper turn d) 0 ≡ pos (suc i) = rw (nat_refl d) (ap (λ z. add z (pos 1)) (c.helpers.at turn d 0 ∙ number_is) ∙ up) in
        let stands3 : Standing (suc i) f3 = s.standing (suc i) c.after f3 (own_set d x turn (add (c.after (helper turn d) 0) (pos 1)) c.after) c.stands in
        let r = advanced n (suc i) c.later f3 t (omega arith) number3 (c.helpers.at first d 0 ∙ first_is) (c.helpers.at stride d 0 ∙ stride_is) stands3 in
        let sum : suc i + n ≡ i + suc n = omega arith in
        record {
          after = r.after;
          later = r.later;
          opened = r.opened ∙ c.opened;
          takes = turns_take_as q nw body after (suc n) (suc n) (scene b f t) (scene r.later r.after t) (1 + (1 + P i) + sum_of inner (suc i) n) (sum_of inner i (suc n)) refl (omega arith)
              (turns_take_more q nw body after n (scene b f t) (scene c.later c.after t) (scene r.later r.after t) (1 + P i) (sum_of inner (suc i) n) g1 r.takes);
          stands = subst (λ z. Standing z r.after) sum r.stands;
          fixed = fixed_then d f f3 r.after (record { count_is = c.helpers.at count d 0; first_is = c.helpers.at first d 0; stride_is = c.helpers.at stride d 0; slots_is = c.helpers.at slots d 0; entry_is = c.helpers.at entry d 0; kind_is = c.helpers.at kind d 0 }) r.fixed;
        }

    advances_done : (k i n : ℕ) (rest : List Action) (b : Course) (f : Store ℤ) (t : List ℤ) → past k all ≡ Advance i (i + n) ∷ rest → i + n < l → IsReady k f → Standing i f → DoesOne k (Standing (i + n)) (8 + sum_of inner i n) b f t t
    advances_done k i n rest b f t at less r h =
        let f1 = told d (Advance i (i + n)) f in
        let word : wrap (pos i) ≡ pos i = wrap_word (pos i) (word-count i (omega arith)) in
        let f2 = set f1 (helper turn d) 0 (wrap (f1 (helper lower d) 0)) in
        let number : f2 (helper turn d) 0 ≡ pos i = rw (nat_refl d) word in
        let stands2 : Standing i f2 = s.standing i f f2 (beside_then d x f f1 f2 (told_beside d x (Advance i (i + n)) f) (own_set d x turn (wrap (f1 (helper lower d) 0)) f1)) h in
        let c = advanced n i b f2 t less number r.first_is r.stride_is stands2 in
        let kind_after : c.after (helper kind d) 0 ≡ pos 2 = c.fixed.kind_is ∙ told_kind d (Advance i (i + n)) f in
        done k (Standing (i + n)) (1 + sum_of inner i n) (8 + sum_of inner i n) (Advance i (i + n)) rest b c.later f c.after t t at r c.opened
        (do_2 q sh level line d (plain x) keep back plain_call adjoint (scene b f1 t) (scene c.later c.after t) (1 + sum_of inner i n) (told_kind d (Advance i (i + n)) f) kind_after
        (takes_one q nw line (loop (helper turn d) (var (helper lower d)) (bin minus (var (helper upper d)) (literal 1)) (literal 1) (at_turn line d (plain x) turn plain_call) unmarked) (scene b f1 t) (scene c.later c.after t) (sum_of inner i n)
        (loop_takes q nw line (helper turn d) (var (helper lower d)) (bin minus (var (helper upper d)) (literal 1)) (literal 1) (at_turn line d (plain x) turn plain_call) (scene b f1 t) (scene c.later c.after t) (f1 (helper lower d) 0) (sub (f1 (helper upper d) 0) (pos 1)) (pos 1) n (sum_of inner i n)
        refl refl refl (ap (λ z. trips unmarked z (sub (f1 (helper upper d) 0) (pos 1)) (pos 1)) (told_lower d (Advance i (i + n)) f) ∙ ap (λ z. trips unmarked (pos i) (sub z (pos 1)) (pos 1)) (told_upper d (Advance i (i + n)) f) ∙ trips_between l i n small less) c.takes)))
        (record { count_is = c.fixed.count_is; first_is = c.fixed.first_is; stride_is = c.fixed.stride_is; slots_is = c.fixed.slots_is; entry_is = c.fixed.entry_is; kind_is = c.fixed.kind_is })
        (stands_next (i + n) c.after c.stands) (omega arith)

    pub acts : Acts q sh level action (helper entry d) W inner A IsReady all l Standing Loose Snap
    acts = record { puts = puts; advances = advances_done; turns = turns_done; keeps = keeps; drops = drops }
