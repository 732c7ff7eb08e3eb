-- A call of a unit and the run of its body, under the unit's own names or under others.
use Rattle.std.proofs.Common.{◌≡◌, ℕ, suc, ◌+◌, Bool, true, false, List, [], ◌∷◌, map, refl, sym, ap, ◌∙◌, subst}
use Rattle.std.specs.Prelude.{pos, length, Ok, Some, ◌==◌, if◌then◌else◌}
use Rattle.adj_tree.specs.Code.{Var, plain, var_eq, Terms, call, Code, Procedure}
use Rattle.def_meaning.specs.Trap.{then_ok, shape_trap, schedule_trap}
use Rattle.def_meaning.specs.Store.{Shape, Store, set_all}
use Rattle.def_meaning.specs.Value.{Setting}
use Rattle.def_meaning.specs.Event.{Enter}
use Rattle.def_meaning.specs.Scene.{Scene, stand, Outcome, Done, Trapped, More, Full, then_do, with_value}
use Rattle.def_meaning.specs.Run.{Calls, run}
use Rattle.def_meaning.specs.Written.{find_unit, handed_back, is_written}
use Rattle.def_meaning.specs.Rename.{rename}
use Rattle.def_meaning.specs.Seen.{Separates, pulled, pulled_setting, pulled_scene, pulled_outcome}
use Rattle.def_meaning.specs.Units.{Actual, whole, actuals, entry_store, dummy_shapes, dummies_fit, copied_out, setting_in, entered, unit_run, call_in, calls_of}
use Rattle.law_meaning.specs.Leads.{Leads, ActLeads}
use Rattle.law_meaning.proofs.Inversions.{then_done, done_same}
use Rattle.law_meaning.proofs.Renamed.{run_renamed}
use Rattle.law_meaning.proofs.WriteSets.{handed_written}
use Rattle.law_meaning.proofs.Frames.{keeps_others}
use Rattle.law_meaning.proofs.Costs.{leads_where_done}
use Rattle.def_names.specs.Numbers.{Vars}
use Rattle.law_sweep.specs.Scenes.{Course, scene}
use Rattle.def_sweep.specs.Reversals.{Reversal, LoopRun, ReversedLines}
use Rattle.law_sweep.specs.Tells.{TellsCalls, Marks}
use Rattle.law_sweep.proofs.Told.{tells_called, tells_entered, marks_called, tells_of_marks}
use Rattle.law_sweep.specs.Runs.{Comes, ActComes, Passes}
use Rattle.law_sweep.specs.Steps.{ActGoes}
use Rattle.law_sweep.proofs.UnitLists.{found_there}
use Rattle.def_sweep.specs.Bindings.{Bindings, actuals_in}
use Rattle.law_sweep.specs.Passing.{passed_in, passed_out}
pub use Rattle.law_sweep.specs.Emitted.{AreNamed, name_of}

-- a whole variable as an actual
abbrev pub actual_at : {C : Type 0} → Setting C → Store C → Var → Actual C
actual_at n s x = record { shape = n.shape x; cells = s x; place = whole x }

abbrev pub actuals_at : {C : Type 0} → Setting C → Store C → Bindings → List (Actual C)
actuals_at n s [] = []
actuals_at n s (b ∷ bs) = actual_at n s b.1 ∷ actuals_at n s bs

pub actuals_are : {C : Type 0} (n : Setting C) (s : Store C) (bs : Bindings) → actuals n (actuals_in bs) s ≡ Ok (actuals_at n s bs)
actuals_are n s [] = refl
actuals_are n s (b ∷ bs) = ap (λ r. then_ok r (λ got. Ok (actual_at n s b.1 ∷ got))) (actuals_are n s bs)

module _ {C : Type 0} (n : Setting C) (r : Var → Var) (sep : Separates r) where
  -- the unit's store at its entry, seen under the other names
  pub entry_pulled : (ds : List (List ℕ)) (bs : Bindings) (s : Store C) → AreNamed r ds bs → pulled r (entry_store n.numbers ds (actuals_at n s bs)) ≡ passed_in (n.numbers.of_word (pos 0)) bs s
  entry_pulled [] [] s h = refl
  entry_pulled [] (b ∷ bs) s h = absurd h
  entry_pulled (d ∷ ds) [] s h = absurd h
  entry_pulled (d ∷ ds) (b ∷ bs) s h = λ i x j. at x j (entry_pulled ds bs s h.1) i
    where
      at : (x : Var) (j : ℕ) → pulled r (entry_store n.numbers ds (actuals_at n s bs)) ≡ passed_in (n.numbers.of_word (pos 0)) bs s → set_all (entry_store n.numbers ds (actuals_at n s bs)) (plain d) (s b.1) (r x) j ≡ set_all (passed_in (n.numbers.of_word (pos 0)) bs s) b.0 (s b.1) x j
      at x j ih =
          let same : var_eq (r x) (plain d) ≡ var_eq x b.0 = ap (var_eq (r x)) (sym h.0) ∙ sep.at x b.0 in
          ap (λ t. if t then s b.1 j else entry_store n.numbers ds (actuals_at n s bs) (r x) j) same ∙ ap (λ (f : Store C). if var_eq x b.0 then s b.1 j else f x j) ih

-- whether the unit writes what the renaming makes of a variable
abbrev pub writes_as : List Procedure → Procedure → (Var → Var) → Vars
writes_as units u r v = is_written units u (name_of (r v))

module _ {C : Type 0} (n : Setting C) (units : List Procedure) (u : Procedure) (r : Var → Var) where
  -- what is handed back
  pub copied_pulled : (ds : List (List ℕ)) (bs : Bindings) (got : Store C) (t s : Store C) → AreNamed r ds bs → copied_out ds (map (is_written units u) ds) (actuals_at n got bs) t s ≡ passed_out (writes_as units u r) bs (pulled r t) s
  copied_pulled [] [] got t s h = refl
  copied_pulled [] (b ∷ bs) got t s h = absurd h
  copied_pulled (d ∷ ds) [] got t s h = absurd h
  copied_pulled (d ∷ ds) (b ∷ bs) got t s h =
      copied_pulled ds bs got t (if is_written units u d then set_all s b.1 (t (plain d)) else s) h.1
      ∙ (λ i. passed_out (writes_as units u r) bs (pulled r t) (if is_written units u (name_of (sym h.0 i)) then set_all s b.1 (t (sym h.0 i)) else s))

-- the run of a scene that was seen under other names
record Pulled {C : Type 0} (r : Var → Var) (o : Outcome (Scene C)) (s : Scene C) (k : ℕ) : Type 0 where
  end : Scene C
  is : o ≡ Done end k
  same : pulled_scene r end ≡ s

pulled_done : {C : Type 0} (r : Var → Var) (o : Outcome (Scene C)) (s : Scene C) (k : ℕ) → pulled_outcome r o ≡ Done s k → Pulled r o s k
pulled_done r (Done e j) s k h = let m : j ≡ k = cc in record { end = e; is = ap (Done e) m; same = done_same (pulled_scene r e) s j k h }
pulled_done r (Trapped t line w) s k h = cc
pulled_done r (More w) s k h = cc
pulled_done r (Full w) s k h = cc

-- a call in the program: what it tells of loops, and as a call
pub record CallPasses {C : Type 0} (lines : ReversedLines) (q : Calls C) (n : Setting C) (name : List ℕ) (args : Terms) (line : ℕ) (base : Course) (s s' : Store C) (t : List C) (loops : List LoopRun) (shapes : List Shape) : Type 0 where
  pub later : Course
  pub marks : Marks lines n.level base later loops
  pub calls : TellsCalls n.level base later (record { unit = name; height = length t; shapes = shapes } ∷ []) []
  pub runs : ActLeads q n (call name args) line (scene base s t) (scene later s' t)

-- what is kept at a unit's entry
abbrev pub kept_at : {C : Type 0} → Setting C → Procedure → List Shape → Course → List C → Course
kept_at n u shapes base t = record { opened = 0; events = Enter u.name (suc n.level) (length t) shapes ∷ base.events }

module _ {C : Type 0} (units : List Procedure) (depth : ℕ) (n : Setting C) (name : List ℕ) (u : Procedure) (found : find_unit units name ≡ Some u) (r : Var → Var) (sep : Separates r) (bs : Bindings) (named : AreNamed r u.dummies bs) (s : Store C) where
  -- the unit's store at its entry
  abbrev pub entry : Store C
  entry = entry_store n.numbers u.dummies (actuals_at n s bs)

  abbrev pub entered_at : Course → List C → Course
  entered_at base t = kept_at n u (dummy_shapes (setting_in n u entry) u) base t

  -- where the dummies fit and the body comes to an end under the other names, so does the call
  call_leads : (c : Code) → u.body ≡ rename r c → (line : ℕ) (base later : Course) (t t' : List C) (end : Store C) → dummies_fit n.numbers u entry u.dummies (actuals_at n s bs) ≡ true → later.opened ≡ 0 → (b : Leads (calls_of units depth) (pulled_setting r (setting_in n u entry)) c (scene (entered_at base t) (passed_in (n.numbers.of_word (pos 0)) bs s) t) (scene later end t')) → ActLeads (calls_of units (suc depth)) n (call name (actuals_in bs)) line (scene base s t) (scene (record { opened = base.opened; events = later.events }) (passed_out (writes_as units u r) bs end s) t')
  call_leads c is line base later t t' end fit none b = record {
    cost = body.cost;
    by = λ k.
        ap (λ o. call_in (calls_of units depth) n (handed_back units name) o (actuals_in bs) line (scene base s t) (body.cost + k)) found
        ∙ ap (λ g. with_value g line (stand n (scene base s t)) (λ got. if dummies_fit n.numbers u (entry_store n.numbers u.dummies got) u.dummies got then then_do (unit_run (calls_of units depth) n u line (scene base (entry_store n.numbers u.dummies got) t) (body.cost + k)) (back got) else Trapped shape_trap line (stand n (scene base s t)))) (actuals_are n s bs)
        ∙ ap (λ f. if f then then_do (unit_run (calls_of units depth) n u line (scene base entry t) (body.cost + k)) (back (actuals_at n s bs)) else Trapped shape_trap line (stand n (scene base s t))) fit
        ∙ ap (λ o. then_do (then_do o close) (back (actuals_at n s bs))) (body.by k)
        ∙ ap (λ f. then_do (if f == 0 then Done ended.end k else Trapped schedule_trap line (stand n ended.end)) (back (actuals_at n s bs))) (ap (λ (z : Scene C). z.opened) ended.same ∙ none)
        ∙ (λ i. Done (record { store = stored i; tape = (ended.same i).tape; opened = base.opened; events = (ended.same i).events }) k);
  }
    where
      start : Scene C
      start = scene (kept_at n u (dummy_shapes (setting_in n u entry) u) base t) entry t

      inside : Setting C
      inside = setting_in n u entry

      seen : pulled_scene r start ≡ scene (kept_at n u (dummy_shapes (setting_in n u entry) u) base t) (passed_in (n.numbers.of_word (pos 0)) bs s) t
      seen = ap (λ (f : Store C). scene (kept_at n u (dummy_shapes (setting_in n u entry) u) base t) f t) (entry_pulled n r sep u.dummies bs s named)

      ended : Pulled r (run (calls_of units depth) inside u.body start (b.cost + 0)) (scene later end t') 0
      ended = pulled_done r (run (calls_of units depth) inside u.body start (b.cost + 0)) (scene later end t') 0
          (ap (λ e. pulled_outcome r (run (calls_of units depth) inside e start (b.cost + 0))) is
          ∙ run_renamed r sep units depth inside c start (b.cost + 0)
          ∙ ap (λ z. run (calls_of units depth) (pulled_setting r inside) c z (b.cost + 0)) seen
          ∙ b.by 0)

      body : Leads (calls_of units depth) inside u.body start ended.end
      body = leads_where_done units depth inside u.body start ended.end (b.cost + 0) 0 ended.is

      close : Scene C → ℕ → Outcome (Scene C)
      close s1 j = if s1.opened == 0 then Done s1 j else Trapped schedule_trap line (stand n s1)

      back : List (Actual C) → Scene C → ℕ → Outcome (Scene C)
      back got s1 j = Done (record (scene base s t) { store = copied_out u.dummies (handed_back units name) got s1.store s; tape = s1.tape; events = s1.events }) j

      stored : copied_out u.dummies (handed_back units name) (actuals_at n s bs) ended.end.store s ≡ passed_out (writes_as units u r) bs end s
      stored =
          ap (λ ws. copied_out u.dummies ws (actuals_at n s bs) ended.end.store s) (handed_written units name u found)
          ∙ copied_pulled n units u r u.dummies bs s ended.end.store s named
          ∙ ap (λ (z : Scene C). passed_out (writes_as units u r) bs z.store s) ended.same

  pub call_comes : {rs : List Reversal} (c : Code) → u.body ≡ rename r c → (line : ℕ) (base : Course) (t t' : List C) (end : Store C) → dummies_fit n.numbers u entry u.dummies (actuals_at n s bs) ≡ true → Comes (calls_of units depth) (pulled_setting r (setting_in n u entry)) c (entered_at base t) (passed_in (n.numbers.of_word (pos 0)) bs s) end t t' rs → ActComes (calls_of units (suc depth)) n (call name (actuals_in bs)) line base s (passed_out (writes_as units u r) bs end s) t t' rs
  call_comes {rs} c is line base t t' end fit b = record {
    later = record { opened = base.opened; events = b.later.events };
    tells = tells_called n.level (length t) u.name (dummy_shapes (setting_in n u entry) u) base b.later rs b.tells;
    runs = call_leads c is line base b.later t t' end fit b.tells.opened b.runs;
  }

  -- the same with what the call tells: one entry, and the reversals of the body
  pub call_goes : {rs : List Reversal} (c : Code) → u.body ≡ rename r c → (line : ℕ) (base : Course) (t t' : List C) (end : Store C) → dummies_fit n.numbers u entry u.dummies (actuals_at n s bs) ≡ true → Comes (calls_of units depth) (pulled_setting r (setting_in n u entry)) c (entered_at base t) (passed_in (n.numbers.of_word (pos 0)) bs s) end t t' rs → ActGoes (calls_of units (suc depth)) n (call name (actuals_in bs)) line base s (passed_out (writes_as units u r) bs end s) t t' (record { unit = name; height = length t; shapes = dummy_shapes (setting_in n u entry) u } ∷ []) rs
  call_goes {rs} c is line base t t' end fit b = record {
    later = record { opened = base.opened; events = b.later.events };
    tells = subst (λ z. TellsCalls n.level base (record { opened = base.opened; events = b.later.events }) (record { unit = z; height = length t; shapes = dummy_shapes (setting_in n u entry) u } ∷ []) rs) (found_there units name u found).1 (tells_entered n.level (length t) u.name (dummy_shapes (setting_in n u entry) u) base b.later rs b.tells);
    runs = call_leads c is line base b.later t t' end fit b.tells.opened b.runs;
  }

  pub call_passes : (lines : ReversedLines) (loops : List LoopRun) (c : Code) → u.body ≡ rename r c → (line : ℕ) (base : Course) (t : List C) (end : Store C) → dummies_fit n.numbers u entry u.dummies (actuals_at n s bs) ≡ true → Passes lines (calls_of units depth) (pulled_setting r (setting_in n u entry)) c (entered_at base t) (passed_in (n.numbers.of_word (pos 0)) bs s) end t loops → CallPasses lines (calls_of units (suc depth)) n name (actuals_in bs) line base s (passed_out (writes_as units u r) bs end s) t loops (dummy_shapes (setting_in n u entry) u)
  call_passes lines loops c is line base t end fit b = record {
    later = record { opened = base.opened; events = b.later.events };
    marks = marks_called lines n.level (length t) u.name (dummy_shapes (setting_in n u entry) u) base b.later loops b.tells;
    calls = subst (λ z. TellsCalls n.level base (record { opened = base.opened; events = b.later.events }) (record { unit = z; height = length t; shapes = dummy_shapes (setting_in n u entry) u } ∷ []) []) (found_there units name u found).1 (tells_entered n.level (length t) u.name (dummy_shapes (setting_in n u entry) u) base b.later [] (tells_of_marks lines (suc n.level) (entered_at base t) b.later loops b.tells));
    runs = call_leads c is line base b.later t t end fit b.tells.opened b.runs;
  }

  -- what the unit doesn't write is at the end as it was handed in
  pub call_keeps : {rs : List Reversal} (c : Code) → u.body ≡ rename r c → (base : Course) (t t' : List C) (end : Store C) → Comes (calls_of units depth) (pulled_setting r (setting_in n u entry)) c (kept_at n u (dummy_shapes (setting_in n u entry) u) base t) (passed_in (n.numbers.of_word (pos 0)) bs s) end t t' rs → (v : Var) (d : List ℕ) → r v ≡ plain d → is_written units u d ≡ false → (j : ℕ) → end v j ≡ passed_in (n.numbers.of_word (pos 0)) bs s v j
  call_keeps c is base t t' end b v d named_as unwritten j =
      let start : Scene C = scene (kept_at n u (dummy_shapes (setting_in n u entry) u) base t) entry t in
      let inside : Setting C = setting_in n u entry in
      let entry_is = entry_pulled n r sep u.dummies bs s named in
      let ended = pulled_done r (run (calls_of units depth) inside u.body start (b.runs.cost + 0)) (scene b.later end t') 0
      (ap (λ e. pulled_outcome r (run (calls_of units depth) inside e start (b.runs.cost + 0))) is
      ∙ run_renamed r sep units depth inside c start (b.runs.cost + 0)
      ∙ ap (λ (f : Store C). run (calls_of units depth) (pulled_setting r inside) c (scene (kept_at n u (dummy_shapes (setting_in n u entry) u) base t) f t) (b.runs.cost + 0)) entry_is
      ∙ b.runs.by 0) in
      ap (λ (z : Scene C). z.store v j) (sym ended.same)
      ∙ ap (λ x. ended.end.store x j) named_as
      ∙ keeps_others units depth inside u.body start ended.end (b.runs.cost + 0) 0 ended.is (plain d) unwritten j
      ∙ ap (λ x. entry x j) (sym named_as)
      ∙ ap (λ (f : Store C). f v j) entry_is

  -- a call that is done: the dummies fit, the body is done, and this is what it hands back
  pub record CallDone (line k k' : ℕ) (s0 s' : Scene C) : Type 0 where
    pub fit : dummies_fit n.numbers u entry u.dummies (actuals_at n s bs) ≡ true
    pub end : Scene C
    pub left : ℕ
    pub body : run (calls_of units depth) (setting_in n u entry) u.body (entered n u (record s0 { store = entry })) k ≡ Done end left
    pub store : s'.store ≡ passed_out (writes_as units u r) bs (pulled r end.store) s

  pub call_done : (line k k' : ℕ) (s0 s' : Scene C) → s0.store ≡ s → calls_of units (suc depth) n name (actuals_in bs) line s0 k ≡ Done s' k' → CallDone line k k' s0 s'
  call_done line k k' s0 s' here h =
      let go = λ (got : List (Actual C)). if dummies_fit n.numbers u (entry_store n.numbers u.dummies got) u.dummies got then then_do (unit_run (calls_of units depth) n u line (record s0 { store = entry_store n.numbers u.dummies got }) k) (back got) else Trapped shape_trap line (stand n s0) in
      let h1 : with_value (actuals n (actuals_in bs) s0.store) line (stand n s0) go ≡ Done s' k' = ap (λ o. call_in (calls_of units depth) n (handed_back units name) o (actuals_in bs) line s0 k) (sym found) ∙ h in
      let h2 : go (actuals_at n s bs) ≡ Done s' k' = ap (λ g. with_value g line (stand n s0) go) (sym (ap (actuals n (actuals_in bs)) here ∙ actuals_are n s bs)) ∙ h1 in
      fitted (dummies_fit n.numbers u entry u.dummies (actuals_at n s bs)) refl h2
    where
      back : List (Actual C) → Scene C → ℕ → Outcome (Scene C)
      back got s1 j = Done (record s0 { store = copied_out u.dummies (handed_back units name) got s1.store s0.store; tape = s1.tape; events = s1.events }) j

      close : Scene C → ℕ → Outcome (Scene C)
      close s1 j = if s1.opened == 0 then Done s1 j else Trapped schedule_trap line (stand n s1)

      closed : (e : Scene C) (j : ℕ) (b : Bool) → then_do (if b then Done e j else Trapped schedule_trap line (stand n e)) (back (actuals_at n s bs)) ≡ Done s' k' → s'.store ≡ copied_out u.dummies (handed_back units name) (actuals_at n s bs) e.store s0.store
      closed e j true g = sym (ap (λ (z : Scene C). z.store) (done_same _ s' j k' g))
      closed e j false g = cc

      fitted : (b : Bool) → dummies_fit n.numbers u entry u.dummies (actuals_at n s bs) ≡ b → (if b then then_do (unit_run (calls_of units depth) n u line (record s0 { store = entry }) k) (back (actuals_at n s bs)) else Trapped shape_trap line (stand n s0)) ≡ Done s' k' → CallDone line k k' s0 s'
      fitted false e g = cc
      fitted true e g =
          let p = then_done (unit_run (calls_of units depth) n u line (record s0 { store = entry }) k) (back (actuals_at n s bs)) s' k' g in
          let o = then_done (run (calls_of units depth) (setting_in n u entry) u.body (entered n u (record s0 { store = entry })) k) close p.scene p.left p.first in
          record {
            fit = e;
            end = o.scene;
            left = o.left;
            body = o.first;
            store = closed o.scene o.left (o.scene.opened == 0) (ap (λ z. then_do z (back (actuals_at n s bs))) o.second ∙ p.second)
                ∙ ap (copied_out u.dummies (handed_back units name) (actuals_at n s bs) o.scene.store) here
                ∙ ap (λ ws. copied_out u.dummies ws (actuals_at n s bs) o.scene.store s) (handed_written units name u found)
                ∙ copied_pulled n units u r u.dummies bs s o.scene.store s named;
          }
