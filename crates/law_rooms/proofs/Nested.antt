-- Reversals in a run are nested: within a reversal others of its unit begin and end, and units that are called end all that they begin.
use Rattle.std.proofs.Common.{◌≡◌, ◌≤◌, ◌<◌, ℕ, zero, suc, Bool, true, false, List, [], ◌∷◌, ◌++◌, refl, sym, ap, ◌∙◌, subst, arith, append_assoc}
use Rattle.std.proofs.lemmas.List.{append-nil}
use Rattle.std.specs.Prelude.{ℤ, ◌==◌, Result, Ok, Err, Option, Some, None, reverse, length, if◌then◌else◌}
use Rattle.adj_tree.specs.Code.{Var, Term, Terms, Runtime, push_word, pop_word, push_array, pop_array, push_control, pop_control, zero_array, begin_reversal, count_actions, give_action, end_reversal, Act, assign, choose, loop, during, call, runtime, Code, stop, step, Procedure}
use Rattle.adj_tree.proofs.Names.{nat_same}
use Rattle.adj_word.specs.Word.{wrap}
use Rattle.def_meaning.specs.Trap.{Trap, step_trap, shape_trap, schedule_trap}
use Rattle.def_meaning.specs.Store.{size_of, cells_from, scalar}
use Rattle.def_meaning.specs.Value.{Setting, value, target, holds}
use Rattle.def_meaning.specs.Numbers.{Numbers}
use Rattle.def_meaning.specs.Event.{Event, Enter, Begin, End, Marked}
use Rattle.def_meaning.specs.Scene.{Scene, stand, Go, Outcome, Done, Trapped, Full, then_do, counted, has_room, pushed, pushed_all, popped, popped_all}
use Rattle.def_meaning.specs.Runtime.{runtime_act, steps_of, snapshots_of, actions_of, action_at, begun, ended}
use Rattle.def_meaning.specs.Run.{Calls, trips, turns, stepped, with_turn, most_tests, in_force, after_loop, tests, act, run}
use Rattle.def_meaning.specs.Written.{find_unit, handed_back}
use Rattle.def_meaning.specs.Units.{Slot, Output, actuals, dummies_fit, entry_store, copied_out, setting_in, dummy_shapes, entered, unit_run, call_in, calls_of, input_store, dummy_slots, run_unit}
use Rattle.law_meaning.proofs.Inversions.{then_done, value_done, top_done, count_done, done_same}
use Rattle.law_sweep.specs.Tells.{in_order}
use Rattle.law_sweep.proofs.Told.{in_order-append, in_order-reverse}

-- ---- open reversals, by the levels of their units, the innermost first

-- the innermost is of a lower level
abbrev pub Below : ℕ → List ℕ → Type 0
Below level [] = Unit {0}
Below level (l ∷ ls) = l < level

-- or of this one
abbrev pub AtMost : ℕ → List ℕ → Type 0
AtMost level [] = Unit {0}
AtMost level (l ∷ ls) = l ≤ level

-- events in order of time end the innermost open reversal first, and none is open at the end
abbrev pub AreNested : List ℕ → List Event → Type 0
AreNested ls [] = ls ≡ []
AreNested ls (Enter name level height shapes ∷ es) = Below level ls × AreNested ls es
AreNested ls (Begin steps snapshots level height ∷ es) = AtMost level ls × AreNested (level ∷ ls) es
AreNested [] (End level ∷ es) = ⊥
AreNested (l ∷ ls) (End level ∷ es) = (l ≡ level) × AreNested ls es
AreNested ls (Marked line turns snapshots ∷ es) = AreNested ls es

-- so many of one unit, and others
abbrev opens : ℕ → ℕ → List ℕ → List ℕ
opens level zero ls = ls
opens level (suc n) ls = level ∷ opens level n ls

opens_most : (level n : ℕ) (ls : List ℕ) → Below level ls → AtMost level (opens level n ls)
opens_most level zero [] h = tt
opens_most level zero (l ∷ ls) h = omega arith
opens_most level (suc n) ls h = omega arith

opens_below : (level n : ℕ) (ls : List ℕ) → Below level ls → Below (suc level) (opens level n ls)
opens_below level zero [] h = tt
opens_below level zero (l ∷ ls) h = omega arith
opens_below level (suc n) ls h = omega arith

-- what was told between two scenes of a unit
record Nests (level o o' : ℕ) (before after : List Event) : Type 0 where
  told : List Event
  events : after ≡ told ++ before
  nested : (ls : List ℕ) → Below level ls → (later : List Event) → AreNested (opens level o' ls) later → AreNested (opens level o ls) (in_order told later)

nothing : (level o : ℕ) (es : List Event) → Nests level o o es es
nothing level o es = record { told = []; events = refl; nested = λ ls b later h. h }

one_after : (level o o1 o2 : ℕ) (a b c : List Event) → Nests level o o1 a b → Nests level o1 o2 b c → Nests level o o2 a c
one_after level o o1 o2 a b c f g = record {
  told = g.told ++ f.told;
  events = g.events ∙ ap (λ z. g.told ++ z) f.events ∙ sym (append_assoc g.told f.told a);
  nested = λ ls h later k. subst (AreNested (opens level o ls)) (sym (in_order-append g.told f.told later)) (f.nested ls h (in_order g.told later) (g.nested ls h later k));
}

module _ {C : Type 0} where
  abbrev Same : ℕ → Scene C → Scene C → Type 0
  Same level s s' = Nests level s.opened s'.opened s.events s'.events

  abbrev Keeps : ℕ → Go C → Type 0
  Keeps level go = (s : Scene C) (k : ℕ) (s' : Scene C) (k' : ℕ) → go s k ≡ Done s' k' → Same level s s'

  trans : (level : ℕ) (s s1 s2 : Scene C) → Same level s s1 → Same level s1 s2 → Same level s s2
  trans level s s1 s2 f g = one_after level s.opened s1.opened s2.opened s.events s1.events s2.events f g

  kept : (level : ℕ) (s s1 s' : Scene C) (k k' : ℕ) → Same level s s1 → (let o : Outcome (Scene C) = Done s1 k in o ≡ Done s' k') → Same level s s'
  kept level s s1 s' k k' f e = subst (Same level s) (done_same s1 s' k k' e) f

  then_keeps : (level : ℕ) (f g : Go C) → Keeps level f → Keeps level g → Keeps level (λ s k. then_do (f s k) g)
  then_keeps level f g a b s k s' k' e = let p = then_done (f s k) g s' k' e in trans level s p.scene s' (a s k p.scene p.left p.first) (b p.scene p.left s' k' p.second)

  if_keeps : (level : ℕ) (b : Bool) (o p : Outcome (Scene C)) (s s' : Scene C) (k' : ℕ) → (o ≡ Done s' k' → Same level s s') → (p ≡ Done s' k' → Same level s s') → (if b then o else p) ≡ Done s' k' → Same level s s'
  if_keeps level true o p s s' k' f g e = f e
  if_keeps level false o p s s' k' f g e = g e

  turns_keep : (level : ℕ) (n : Setting C) (m : ℕ) (go : Go C) (after : Scene C → Scene C) → Keeps level go → ((s : Scene C) → Same level s (after s)) → Keeps level (turns n m go after)
  turns_keep level n zero go after h f s k s' k' e = kept level s s s' k k' (nothing level s.opened s.events) e
  turns_keep level n (suc m) go after h f s k s' k' e =
      let r = count_done _ k (λ j. then_do (go s j) (λ s1 i. turns n m go after (after s1) i)) s' k' e in
      let p = then_done (go s r.left) (λ s1 i. turns n m go after (after s1) i) s' k' r.goes in
      trans level s p.scene s' (h s r.left p.scene p.left p.first) (trans level p.scene (after p.scene) s' (f p.scene) (turns_keep level n m go after h f (after p.scene) p.left s' k' p.second))

  tests_keep : (level : ℕ) (n : Setting C) (m : ℕ) (test : Scene C → Result Bool Trap) (line : ℕ) (go : Go C) → Keeps level go → Keeps level (tests n m test line go)
  tests_keep level n zero test line go h s k s' k' e =
      let v = value_done (test s) line _ (λ p. if p then Trapped step_trap line (stand n s) else Done s k) s' k' e in
      if_keeps level v.value (Trapped step_trap line (stand n s)) (Done s k) s s' k' (λ f. cc) (kept level s s s' k k' (nothing level s.opened s.events)) v.goes
  tests_keep level n (suc m) test line go h s k s' k' e =
      let again : Go C = λ s1 j. counted (stand n s1) j (λ i. tests n m test line go s1 i) in
      let v = value_done (test s) line _ (λ p. if p then then_do (go s k) again else Done s k) s' k' e in
      if_keeps level v.value (then_do (go s k) again) (Done s k) s s' k'
      (then_keeps level go again h (λ s1 j s2 j2 f. let c = count_done _ j (λ i. tests n m test line go s1 i) s2 j2 f in tests_keep level n m test line go h s1 c.left s2 j2 c.goes) s k s' k')
      (kept level s s s' k k' (nothing level s.opened s.events)) v.goes

  -- ---- runtime calls

  pushed_keeps : (level : ℕ) (n : Setting C) (c : C) → Keeps level (pushed n c)
  pushed_keeps level n c s k s' k' e = if_keeps level (has_room n.room (length s.tape)) _ (Full (stand n s)) s s' k' (kept level s (record s { tape = c ∷ s.tape }) s' k k' (nothing level s.opened s.events)) (λ f. cc) e

  pushed_all_keeps : (level : ℕ) (n : Setting C) (cs : List C) → Keeps level (pushed_all n cs)
  pushed_all_keeps level n [] s k s' k' e = kept level s s s' k k' (nothing level s.opened s.events) e
  pushed_all_keeps level n (c ∷ cs) s k s' k' e = then_keeps level (pushed n c) (pushed_all n cs) (pushed_keeps level n c) (pushed_all_keeps level n cs) s k s' k' e

  popped_keeps : (level : ℕ) (n : Setting C) (y : Var) (j line : ℕ) → Keeps level (popped n y j line)
  popped_keeps level n y j line s k s' k' e = let t = top_done s.tape line _ _ s' k' e in kept level s _ s' k k' (nothing level s.opened s.events) t.goes

  popped_all_keeps : (level : ℕ) (n : Setting C) (y : Var) (m line : ℕ) → Keeps level (popped_all n y m line)
  popped_all_keeps level n y zero line s k s' k' e = kept level s s s' k k' (nothing level s.opened s.events) e
  popped_all_keeps level n y (suc j) line s k s' k' e = then_keeps level (popped n y j line) (popped_all n y j line) (popped_keeps level n y j line) (popped_all_keeps level n y j line) s k s' k' e

  -- a reversal begins
  begins : (n : Setting C) (l m : ℕ) (s : Scene C) → Same n.level s (begun n l m s)
  begins n l m s = record { told = Begin l m n.level (length s.tape) ∷ []; events = refl; nested = λ ls h later k. (opens_most n.level s.opened ls h, k) }

  -- and ends
  ended_keeps : (n : Setting C) (m line : ℕ) (s : Scene C) (k : ℕ) (s' : Scene C) (k' : ℕ) → ended n m line s k ≡ Done s' k' → Nests n.level m s'.opened s.events s'.events
  ended_keeps n zero line s k s' k' e = absurd cc
  ended_keeps n (suc m) line s k s' k' e =
      let s1 : Scene C = record s { opened = m; events = End n.level ∷ s.events } in
      subst (λ (z : Scene C). Nests n.level (suc m) z.opened s.events z.events) (done_same s1 s' k k' e) (record { told = End n.level ∷ []; events = refl; nested = λ ls h later k. (refl, k) })

  runtime_keeps : (n : Setting C) (r : Runtime) (line : ℕ) → Keeps n.level (runtime_act n r line)
  runtime_keeps n (push_word y subs) line s k s' k' e = let v = value_done (target n y subs s.store) line _ (λ i. pushed n (s.store y i) s k) s' k' e in pushed_keeps n.level n (s.store y v.value) s k s' k' v.goes
  runtime_keeps n (pop_word y subs) line s k s' k' e = let v = value_done (target n y subs s.store) line _ (λ i. popped n y i line s k) s' k' e in popped_keeps n.level n y v.value line s k s' k' v.goes
  runtime_keeps n (push_array y) line s k s' k' e = pushed_all_keeps n.level n (cells_from (s.store y) 0 (size_of (n.shape y))) s k s' k' e
  runtime_keeps n (pop_array y) line s k s' k' e = popped_all_keeps n.level n y (size_of (n.shape y)) line s k s' k' e
  runtime_keeps n (push_control a) line s k s' k' e = let v = value_done (value n a s.store) line _ (λ c. pushed n c s k) s' k' e in pushed_keeps n.level n v.value s k s' k' v.goes
  runtime_keeps n (pop_control y) line s k s' k' e = popped_keeps n.level n y 0 line s k s' k' e
  runtime_keeps n (zero_array y) line s k s' k' e = kept n.level s _ s' k k' (nothing n.level s.opened s.events) e
  runtime_keeps n (begin_reversal l m) line s k s' k' e =
      let u = value_done (value n l s.store) line _ _ s' k' e in
      let v = value_done (value n m s.store) line _ _ s' k' u.goes in
      let steps = value_done (steps_of (n.numbers.shown u.value)) line _ _ s' k' v.goes in
      let snapshots = value_done (snapshots_of (n.numbers.shown v.value)) line _ _ s' k' steps.goes in
      kept n.level s (begun n steps.value snapshots.value s) s' k k' (begins n steps.value snapshots.value s) snapshots.goes
  runtime_keeps n (count_actions l m y) line s k s' k' e =
      let u = value_done (value n l s.store) line _ _ s' k' e in
      let v = value_done (value n m s.store) line _ _ s' k' u.goes in
      let list = value_done (actions_of (n.numbers.shown u.value) (n.numbers.shown v.value)) line _ _ s' k' v.goes in
      kept n.level s _ s' k k' (nothing n.level s.opened s.events) list.goes
  runtime_keeps n (give_action l m a y z t) line s k s' k' e =
      let u = value_done (value n l s.store) line _ _ s' k' e in
      let v = value_done (value n m s.store) line _ _ s' k' u.goes in
      let w = value_done (value n a s.store) line _ _ s' k' v.goes in
      let list = value_done (actions_of (n.numbers.shown u.value) (n.numbers.shown v.value)) line _ _ s' k' w.goes in
      let one = value_done (action_at (n.numbers.shown w.value) list.value) line _ _ s' k' list.goes in
      kept n.level s _ s' k k' (nothing n.level s.opened s.events) one.goes
  runtime_keeps n end_reversal line s k s' k' e = ended_keeps n s.opened line s k s' k' e

  -- a marked loop is told
  told_loop : (level line m : ℕ) (force : Option ℕ) (s : Scene C) → Same level s (after_loop line m force s)
  told_loop level line m None s = nothing level s.opened s.events
  told_loop level line m (Some snapshots) s = record { told = Marked line m snapshots ∷ []; events = refl; nested = λ ls h later k. k }

  -- ---- statements

  abbrev CallsKeep : Calls C → Type 0
  CallsKeep q = (n : Setting C) (name : List ℕ) (args : Terms) (line : ℕ) → Keeps n.level (q n name args line)

  module _ (q : Calls C) (keep : CallsKeep q) (n : Setting C) where
    mutual
      act_keeps : (a : Act) (line : ℕ) → Keeps n.level (act q n a line)
      act_keeps (assign y subs a) line s k s' k' e =
          let v = value_done (value n a s.store) line _ _ s' k' e in
          let i = value_done (target n y subs s.store) line _ _ s' k' v.goes in
          kept n.level s _ s' k k' (nothing n.level s.opened s.events) i.goes
      act_keeps (choose c a b) line s k s' k' e =
          let v = value_done (holds n c s.store) line _ (λ t. if t then run q n a s k else run q n b s k) s' k' e in
          if_keeps n.level v.value (run q n a s k) (run q n b s k) s s' k' (run_keeps a s k s' k') (run_keeps b s k s' k') v.goes
      act_keeps (loop y first last by body mark) line s k s' k' e =
          let a = value_done (value n first s.store) line _ _ s' k' e in
          let b = value_done (value n last s.store) line _ _ s' k' a.goes in
          let c = value_done (value n by s.store) line _ _ s' k' b.goes in
          let m = value_done (trips mark (n.numbers.shown a.value) (n.numbers.shown b.value) (n.numbers.shown c.value)) line _ _ s' k' c.goes in
          let start : Scene C = with_turn n y (wrap (n.numbers.shown a.value)) s in
          let t = then_done (turns n m.value (run q n body) (stepped n y (n.numbers.shown c.value)) start k) (λ s1 j. Done (after_loop line m.value (in_force n mark s.store) s1) j) s' k' m.goes in
          trans n.level s t.scene s'
          (turns_keep n.level n m.value (run q n body) (stepped n y (n.numbers.shown c.value)) (run_keeps body) (λ s1. nothing n.level s1.opened s1.events) start k t.scene t.left t.first)
          (kept n.level t.scene (after_loop line m.value (in_force n mark s.store) t.scene) s' t.left k' (told_loop n.level line m.value (in_force n mark s.store) t.scene) t.second)
      act_keeps (during c body) line s k s' k' e = tests_keep n.level n most_tests (λ s1. holds n c s1.store) line (run q n body) (run_keeps body) s k s' k' e
      act_keeps (call name args) line s k s' k' e = keep n name args line s k s' k' e
      act_keeps (runtime r) line s k s' k' e = runtime_keeps n r line s k s' k' e

      run_keeps : (c : Code) → Keeps n.level (run q n c)
      run_keeps stop s k s' k' e = kept n.level s s s' k k' (nothing n.level s.opened s.events) e
      run_keeps (step line a rest) s k s' k' e =
          let c = count_done _ k (λ j. then_do (act q n a line s j) (run q n rest)) s' k' e in
          then_keeps n.level (act q n a line) (run q n rest) (act_keeps a line) (run_keeps rest) s c.left s' k' c.goes

-- ---- units and calls

-- a unit ends with no reversal open
record Closes {C : Type 0} (b : Bool) (s s' : Scene C) : Type 0 where
  closed : b ≡ true
  same : s ≡ s'

closes : {C : Type 0} (b : Bool) (s s' : Scene C) (k k' : ℕ) (o : Outcome (Scene C)) → (o ≡ Done s' k' → ⊥) → (let d : Outcome (Scene C) = Done s k in (if b then d else o) ≡ Done s' k') → Closes b s s'
closes true s s' k k' o never e = record { closed = refl; same = done_same s s' k k' e }
closes false s s' k k' o never e = absurd (never e)

-- so in a unit, from its entry to its end, whatever its caller has open
unit_keeps : {C : Type 0} (q : Calls C) → CallsKeep q → (n : Setting C) (u : Procedure) (line : ℕ) (s : Scene C) (k : ℕ) (s' : Scene C) (k' : ℕ) → unit_run q n u line s k ≡ Done s' k' → (o : ℕ) → Nests n.level o o s.events s'.events
unit_keeps q keep n u line s k s' k' e o =
    let inside = setting_in n u s.store in
    let p = then_done (run q inside u.body (entered n u s) k) (λ s1 j. if s1.opened == 0 then Done s1 j else Trapped schedule_trap line (stand n s1)) s' k' e in
    let end = closes (p.scene.opened == 0) p.scene s' p.left k' (Trapped schedule_trap line (stand n p.scene)) (λ f. cc) p.second in
    let inner = run_keeps q keep inside u.body (entered n u s) k p.scene p.left p.first in
    let none : p.scene.opened ≡ 0 = nat_same p.scene.opened 0 end.closed in
    let enter : Event = Enter u.name (suc n.level) (length s.tape) (dummy_shapes inside u) in
    record {
      told = inner.told ++ (enter ∷ []);
      events = ap (λ (z : Scene _). z.events) (sym end.same) ∙ inner.events ∙ sym (append_assoc inner.told (enter ∷ []) s.events);
      nested = λ ls h later k.
          let own = opens_below n.level o ls h in
          subst (AreNested (opens n.level o ls)) (sym (in_order-append inner.told (enter ∷ []) later)) (own, inner.nested (opens n.level o ls) own later (subst (λ z. AreNested (opens (suc n.level) z (opens n.level o ls)) later) (sym none) k));
    }

calls_keep : {C : Type 0} (units : List Procedure) (depth : ℕ) → CallsKeep {C = C} (calls_of units depth)
calls_keep {C} units zero n name args line s k s' k' e = absurd cc
calls_keep {C} units (suc depth) n name args line s k s' k' e = go (find_unit units name) e (calls_keep units depth)
  where
    go : (u : Option Procedure) → call_in (calls_of units depth) n (handed_back units name) u args line s k ≡ Done s' k' → CallsKeep {C = C} (calls_of units depth) → Same n.level s s'
    go None e keep = absurd cc
    go (Some u) e keep =
        let v = value_done (actuals n args s.store) line _ _ s' k' e in
        let start : Scene _ = record s { store = entry_store n.numbers u.dummies v.value } in
        let back : Scene _ → ℕ → Outcome (Scene _) = λ s1 j. Done (record s { store = copied_out u.dummies (handed_back units name) v.value s1.store s.store; tape = s1.tape; events = s1.events }) j in
        if_keeps n.level (dummies_fit n.numbers u start.store u.dummies v.value) (then_do (unit_run (calls_of units depth) n u line start k) back) (Trapped shape_trap line (stand n s)) s s' k'
        (λ f.
        let p = then_done (unit_run (calls_of units depth) n u line start k) back s' k' f in
        kept n.level s (record s { store = copied_out u.dummies (handed_back units name) v.value p.scene.store s.store; tape = p.scene.tape; events = p.scene.events }) s' p.left k'
        (unit_keeps (calls_of units depth) keep n u line start k p.scene p.left p.first s.opened) p.second)
        (λ f. cc) v.goes

-- the events of a run of a unit
pub events_nested : {C : Type 0} (n : Numbers C) (units : List Procedure) (u : Procedure) (input : List (Slot C)) (tape : List C) (room : Option ℕ) (k used : ℕ) (out : Output C) → run_unit n units u input tape room k ≡ Done out used → AreNested [] out.events
events_nested n units u input tape room k used out e =
    let outside : Setting _ = record { numbers = n; shape = λ x. scalar; room = room; level = 0 } in
    let start : Scene _ = record { store = input_store n u input; tape = tape; opened = 0; events = [] } in
    let p = then_done (unit_run (calls_of units k) outside u u.line start k) _ out used e in
    let f = unit_keeps (calls_of units k) (calls_keep units k) outside u u.line start k p.scene p.left p.first 0 in
    let told : p.scene.events ≡ f.told = f.events ∙ append-nil f.told in
    let whole : AreNested [] (in_order f.told []) = f.nested [] tt [] refl in
    let turned : in_order f.told [] ≡ reverse p.scene.events = in_order-reverse f.told [] ∙ append-nil (reverse f.told) ∙ ap reverse (sym told) in
    subst (λ (z : Output _). AreNested [] z.events) (done_same _ out _ used p.second) (subst (AreNested []) turned whole)
