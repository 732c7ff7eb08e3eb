-- A machine that hands whole variables to a unit of scalars ends as the call does.
use Rattle.std.proofs.Common.{◌≡◌, ℕ, zero, suc, ◌-◌, ◌<◌, List, [], ◌∷◌, length, get_or, refl, sym, ap, subst, ◌∙◌, arith}
use Rattle.std.specs.Prelude.{slice_get, ◌==◌, true, false, Result, Ok, Err, Option, Some, None}
use Rattle.adj_tree.specs.Code.{Var}
use Rattle.adj_tree.specs.View.{procedure_of}
use Rattle.adj_tree.specs.declared.value.Trap.TheVariants as trap
use Rattle.def_meaning.specs.Trap.{then_ok}
use Rattle.def_meaning.specs.Numbers.{Numbers}
use Rattle.def_meaning.specs.Event.{Enter}
use Rattle.def_meaning.specs.Store.{Shape, Store}
use Rattle.def_meaning.specs.Scene.{Scene}
use Rattle.def_meaning.specs.Run.{Calls, run}
use Rattle.def_meaning.specs.Written.{find_unit}
use Rattle.def_meaning.specs.Units.{Actual, actuals, copied_out, calls_of}
use Rattle.adj_interp_frame.specs.declared.actual.Actual.{Actual as CodeActual}
use Rattle.adj_interp_frame.specs.declared.actual.Actual.TheVariants as actual
use Rattle.adj_interp_frame.specs.declared.frame.Frame.{Frame}
use Rattle.adj_interp_frame.specs.declared.routine.Routine.{Routine}
use Rattle.adj_interp_frame.specs.declared.slot.Slot.{Slot}
use Rattle.adj_interp_frame.specs.declared.term.Term.TheVariants as term
use Rattle.adj_interp_frame.specs.declared.term.Terms.{Terms}
use Rattle.adj_interp_frame.specs.declared.term.Terms.TheVariants as terms
use Rattle.adj_interp_frame.specs.Prepared.{terms_in, AreTermsBelow}
use Rattle.adj_interp_frame.specs.Instructed.{steps_in}
use Rattle.adj_interp_frame.specs.Framed.{IsFrame, shapes_in, store_in}
use Rattle.adj_interp_frame.specs.Shown.{on_numbers, Shows}
use Rattle.adj_interp_frame.specs.Called.{actual_in, actuals_in, AreActualsBelow, entered_with, shapes_with}
use Rattle.adj_interp_frame.specs.Linked.{IsRoutine, units_in}
use Rattle.adj_interp_frame.specs.Suited.{AreTermsSuited, AreSuited, HasOneCell, AreAsLarge, counts_in}
use Rattle.adj_interp_frame.specs.Passed.{AreWhole, wholes, ArePassed}
use Rattle.adj_interp_frame.proofs.Showing.{shows_itself}
use Rattle.adj_interp_frame.proofs.Suiting.{got_suited, as_large}
use Rattle.adj_interp.specs.declared.call.Outer.{Outer}
use Rattle.adj_interp.specs.declared.machine.Machine.{Machine}
use Rattle.adj_interp.specs.declared.stop.Stop.{Stop}
use Rattle.adj_interp.specs.declared.stop.Stop.TheVariants as stop
use Rattle.adj_interp.specs.Tallied.{with_event}
use Rattle.adj_interp.specs.Held.{Entry, setting_at, Holds, Ends}
use Rattle.adj_interp.specs.Entered.{inside}
use Rattle.adj_interp.proofs.Calling.{call_at, went_in, unit_ends, call_break, call_open, call_done, entered_suited}

-- ---- actuals that are whole variables

module _ {C : Type 0} where
  module _ (numbers : Numbers C) (names : List (List ℕ)) (shape : Var → Shape) (room : Option ℕ) (level : ℕ) (s : Store C) where
    -- they are found at once
    pub whole_actuals : (es : Terms) → AreWhole es → actuals (on_numbers numbers shape room level) (terms_in names es) s ≡ Ok (actuals_in names shape s (wholes es))
    whole_actuals terms.Empty w = refl
    whole_actuals (terms.More' p (term.Var i) q rest) w = ap (λ r. then_ok r (λ others. Ok (actual_in names shape s (actual.Whole i) ∷ others))) (whole_actuals rest w.1)
    whole_actuals (terms.More' p (term.Lit n) q rest) w = absurd w.0
    whole_actuals (terms.More' p (term.Elem i subs) q rest) w = absurd w.0
    whole_actuals (terms.More' p (term.Neg' o a) q rest) w = absurd w.0
    whole_actuals (terms.More' p (term.Bin' op o a o' b) q rest) w = absurd w.0
    whole_actuals (terms.More' p (term.Pow' o a k) q rest) w = absurd w.0
    whole_actuals (terms.More' p (term.Power' o a o' b) q rest) w = absurd w.0
    whole_actuals (terms.More' p (term.Abs' o a) q rest) w = absurd w.0

  -- and their numbers are those of slots
  pub whole_below : (vs : List (Slot C)) (es : Terms) → AreWhole es → AreTermsBelow (length vs) es → AreActualsBelow vs (wholes es)
  whole_below vs terms.Empty w b k d lt = absurd (omega (arith, lt))
  whole_below vs (terms.More' p (term.Var i) q rest) w b zero d lt = b.0
  whole_below vs (terms.More' p (term.Var i) q rest) w b (suc k) d lt = whole_below vs rest w.1 b.1 k d (omega (arith, lt))
  whole_below vs (terms.More' p (term.Lit n) q rest) w b k d lt = absurd w.0
  whole_below vs (terms.More' p (term.Elem i subs) q rest) w b k d lt = absurd w.0
  whole_below vs (terms.More' p (term.Neg' o a) q rest) w b k d lt = absurd w.0
  whole_below vs (terms.More' p (term.Bin' op o a o' c) q rest) w b k d lt = absurd w.0
  whole_below vs (terms.More' p (term.Pow' o a j) q rest) w b k d lt = absurd w.0
  whole_below vs (terms.More' p (term.Power' o a o' c) q rest) w b k d lt = absurd w.0
  whole_below vs (terms.More' p (term.Abs' o a) q rest) w b k d lt = absurd w.0

-- ---- the call

module _ {C : Type 0} {numbers : Numbers C} (rs : List Routine) (number : ℕ) (r : Routine) (lt : number < length rs) (is : r ≡ get_or rs number r) (k : IsRoutine (units_in rs) r) (es : Terms) (slots : List (Slot C)) (m m1 m2 : Machine C) (first : Frame C) (l : ℕ)
    (p : ArePassed numbers r m.frame.names.now m.frame.slots.items es slots)
    (same : m1 ≡ record m { tally = m1.tally }) (told : (name : List ℕ) (shapes : List Shape) → m1.tally ≡ with_event m.tally (Enter name (suc m.level) (length m.tape.words) shapes)) (one : l ≡ suc m.level)
    (into : m2 ≡ record m1 { frame = first; base = length m1.tally.begun; level = l }) (named : first.names.now ≡ r.names) (filled : first.slots.items ≡ slots) where
  abbrev all : List (CodeActual C)
  all = wholes es

  abbrev mine : List (Actual C)
  mine = actuals_in m.frame.names.now (shapes_in m.frame.names.now m.frame.slots.items) (store_in numbers m.frame.names.now m.frame.slots.items) all

  entry_names : m2.frame.names.now ≡ r.names
  entry_names = ap (λ (z : Machine C). z.frame.names.now) into ∙ named

  entry_slots : m2.frame.slots.items ≡ slots
  entry_slots = ap (λ (z : Machine C). z.frame.slots.items) into ∙ filled

  framed : IsFrame r.names m2.frame.slots.items
  framed = subst (IsFrame r.names) (sym entry_slots) p.framed

  shown : Shows numbers r.names m2.frame.slots.items (shapes_with numbers r mine) (entered_with numbers r mine)
  shown = subst (λ vs. Shows numbers r.names vs (shapes_with numbers r mine) (entered_with numbers r mine)) (sym entry_slots) (p.shown (shapes_in m.frame.names.now m.frame.slots.items) (store_in numbers m.frame.names.now m.frame.slots.items) (shows_itself numbers m.frame.names.now m.frame.slots.items))

  -- the machine has an entry of the unit, whose statements can run there
  pub whole_framed : IsFrame m2.frame.names.now m2.frame.slots.items
  whole_framed = subst (λ ns. IsFrame ns m2.frame.slots.items) (sym entry_names) framed

  pub whole_names : m2.frame.names.now ≡ r.names
  whole_names = entry_names

  pub whole_suited : AreSuited (units_in rs) (HasOneCell m2.frame.names.now (counts_in m2.frame.slots.items)) (steps_in m2.frame.names.now r.body)
  whole_suited = entered_suited (units_in rs) r (entered_with numbers r mine) (shapes_with numbers r mine) (entered_with numbers r mine) m2.frame k entry_names framed shown (λ x. refl)

  -- the variables have as many cells as the dummies
  pub whole_large : IsFrame m.frame.names.now m.frame.slots.items → AreTermsBelow (length m.frame.names.now) es → AreTermsSuited (HasOneCell m.frame.names.now (counts_in m.frame.slots.items)) (procedure_of r.unit.now) r.unit.now.dummies (terms_in m.frame.names.now es)
      → AreAsLarge (length r.unit.now.dummies) (counts_in m.frame.slots.items) all (counts_in m2.frame.slots.items)
  whole_large f below suited =
      let names = m.frame.names.now in
      let shape = shapes_in names m.frame.slots.items in
      let held = store_in numbers names m.frame.slots.items in
      let are = whole_actuals numbers names shape None 0 held es p.whole in
      let got = got_suited (HasOneCell names (counts_in m.frame.slots.items)) (on_numbers numbers shape None 0) held (procedure_of r.unit.now) r.unit.now.dummies (terms_in names es) mine are suited in
      as_large numbers r k.laid names m.frame.slots.items m2.frame.slots.items all f framed (whole_below m.frame.slots.items es p.whole (subst (λ n. AreTermsBelow n es) f.each below)) (p.fits shape held (shows_itself numbers names m.frame.slots.items)) shown got

  module _ (depth : ℕ) (name : List ℕ) (deep : 0 < depth) (found : find_unit (units_in rs) name ≡ slice_get (units_in rs) number) (line : ℕ) (m3 m4 m5 : Machine C) (o : Outer C)
      (outer : o ≡ record { frame = m1.frame; base = m1.base; level = m1.level })
      (back : m4 ≡ record m3 { frame = o.frame; base = o.base; level = o.level }) (last : m5 ≡ record m4 { frame = m5.frame }) (e : Entry numbers) (s : Scene C) (h : Holds e m s) where
    abbrev q : Calls C
    q = calls_of (units_in rs) (depth - 1)

    abbrev got : List (Actual C)
    got = actuals_in m.frame.names.now e.shape s.store all

    are : actuals (setting_at e) (terms_in m.frame.names.now es) s.store ≡ Ok got
    are = whole_actuals numbers m.frame.names.now e.shape (Some e.room) e.level s.store es p.whole

    left : m2.left ≡ m.left
    left = ap (λ (z : Machine C). z.left) into ∙ ap (λ (z : Machine C). z.left) same

    tape_back : m5.tape ≡ m3.tape
    tape_back = ap (λ (z : Machine C). z.tape) last ∙ ap (λ (z : Machine C). z.tape) back

    tally_back : m5.tally ≡ m3.tally
    tally_back = ap (λ (z : Machine C). z.tally) last ∙ ap (λ (z : Machine C). z.tally) back

    left_back : m5.left ≡ m3.left
    left_back = ap (λ (z : Machine C). z.left) last ∙ ap (λ (z : Machine C). z.left) back

    here : Shows numbers m2.frame.names.now m2.frame.slots.items (shapes_with numbers r got) (entered_with numbers r got)
    here = subst (λ z. z) (λ i. Shows numbers (sym entry_names i) (sym entry_slots i) (shapes_with numbers r got) (entered_with numbers r got)) (p.shown e.shape s.store h.shown)

    -- how the unit's statements end
    abbrev pub RunEnds : Result (Unit {0}) Stop → Type 0
    RunEnds x = (e2 : Entry numbers) (s2 : Scene C) → Holds e2 m2 s2 → Ends e2 (run q (setting_at e2) (steps_in m2.frame.names.now r.body) s2) m2.left x m3

    -- the unit stops
    pub whole_break : (x : Stop) → RunEnds (Err x) → Ends e (calls_of (units_in rs) depth (setting_at e) name (terms_in m.frame.names.now es) line s) m.left (Err x) m5
    whole_break x ends =
        let within = inside e (shapes_with numbers r got) (length m.tally.begun) in
        let at = call_at rs depth number name deep found (setting_at e) (terms_in m.frame.names.now es) line s r r.writes.now lt is k.writes in
        let body = unit_ends q within _ r m2.frame.names.now m.left m2.left (Err x) m3 entry_names k.body left (ends within _ (went_in e m m1 m2 first m2.frame l s (shapes_with numbers r got) (entered_with numbers r got) r.unit.now.name _ same (told r.unit.now.name []) one into h here)) in
        subst (λ z. Ends e z m.left (Err x) m5) (sym at) (call_break q e s r r.writes.now (terms_in m.frame.names.now es) line m h got are (p.fits e.shape s.store h.shown) m3 x m5 body left_back tape_back tally_back)

    -- it ends while a reversal is open
    pub whole_open : RunEnds (Ok tt) → (length m3.tally.begun == m3.base) ≡ false → Ends e (calls_of (units_in rs) depth (setting_at e) name (terms_in m.frame.names.now es) line s) m.left (Err (stop.Trap trap.Schedule line)) m5
    whole_open ends still =
        let within = inside e (shapes_with numbers r got) (length m.tally.begun) in
        let at = call_at rs depth number name deep found (setting_at e) (terms_in m.frame.names.now es) line s r r.writes.now lt is k.writes in
        let body = unit_ends q within _ r m2.frame.names.now m.left m2.left (Ok tt) m3 entry_names k.body left (ends within _ (went_in e m m1 m2 first m2.frame l s (shapes_with numbers r got) (entered_with numbers r got) r.unit.now.name _ same (told r.unit.now.name []) one into h here)) in
        subst (λ z. Ends e z m.left (Err (stop.Trap trap.Schedule line)) m5) (sym at) (call_open q e s r r.writes.now (terms_in m.frame.names.now es) line m h got are (p.fits e.shape s.store h.shown) m3 m5 body still left_back tape_back tally_back)

    -- it ends, and its dummies are handed back
    pub whole_done : RunEnds (Ok tt) → (length m3.tally.begun == m3.base) ≡ true
        → ((u : Store C) → Shows numbers m3.frame.names.now m3.frame.slots.items (shapes_with numbers r got) u → Shows numbers m5.frame.names.now m5.frame.slots.items e.shape (copied_out r.unit.now.dummies r.writes.now got u s.store))
        → Ends e (calls_of (units_in rs) depth (setting_at e) name (terms_in m.frame.names.now es) line s) m.left (Ok tt) m5
    whole_done ends closed handed =
        let within = inside e (shapes_with numbers r got) (length m.tally.begun) in
        let at = call_at rs depth number name deep found (setting_at e) (terms_in m.frame.names.now es) line s r r.writes.now lt is k.writes in
        let body = unit_ends q within _ r m2.frame.names.now m.left m2.left (Ok tt) m3 entry_names k.body left (ends within _ (went_in e m m1 m2 first m2.frame l s (shapes_with numbers r got) (entered_with numbers r got) r.unit.now.name _ same (told r.unit.now.name []) one into h here)) in
        subst (λ z. Ends e z m.left (Ok tt) m5) (sym at)
        (call_done q e s r r.writes.now (terms_in m.frame.names.now es) line m h got are (p.fits e.shape s.store h.shown) m3 m5 body closed tape_back tally_back left_back
        (ap (λ (z : Machine C). z.level) last ∙ ap (λ (z : Machine C). z.level) back ∙ ap (λ (z : Outer C). z.level) outer ∙ ap (λ (z : Machine C). z.level) same)
        (ap (λ (z : Machine C). z.base) last ∙ ap (λ (z : Machine C). z.base) back ∙ ap (λ (z : Outer C). z.base) outer ∙ ap (λ (z : Machine C). z.base) same)
        (handed body.scene.store))
