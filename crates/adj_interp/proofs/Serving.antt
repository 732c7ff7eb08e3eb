-- A machine that pushes and pops words ends as the run does.
use Rattle.std.proofs.Common.{◌≡◌, ℕ, zero, suc, ◌+◌, ◌-◌, ◌<◌, ◌≤◌, true, false, List, [], ◌∷◌, length, get_or, Box, Global, refl, sym, ap, subst, ◌∙◌, arith, if◌then◌else◌}
use Rattle.std.specs.Prelude.{nat_lt, Ok, Err, Option}
use Rattle.adj_tree.specs.Code.{Var}
use Rattle.adj_tree.specs.declared.value.Trap.TheVariants as trap
use Rattle.def_meaning.specs.Numbers.{Numbers}
use Rattle.def_meaning.specs.Store.{size_of, set, cells_from}
use Rattle.def_meaning.specs.Trap.{tape_trap, schedule_trap}
use Rattle.def_meaning.specs.Scene.{Scene, stand, Done, Trapped, Full, with_top, pushed, pushed_all, popped, popped_all}
use Rattle.def_meaning.specs.Event.{Begin, End}
use Rattle.def_meaning.specs.Log.{Reversal, Log}
use Rattle.def_meaning.specs.Runtime.{begun, ended}
use Rattle.adj_tape.specs.Held.{Held}
use Rattle.adj_interp_frame.specs.declared.slot.Slot.{Slot}
use Rattle.adj_interp.specs.declared.stop.Stop.{Stop}
use Rattle.adj_interp.specs.declared.stop.Stop.TheVariants as stop
use Rattle.adj_interp.specs.declared.machine.Machine.{Machine}
use Rattle.adj_interp_frame.specs.Prepared.{var_at}
use Rattle.adj_interp_frame.specs.Framed.{IsFrame, zero_in}
use Rattle.adj_interp.specs.Tallied.{Tallied, Plan, with_end, with_event}
use Rattle.adj_interp.specs.Held.{Tells, Entry, setting_at, Holds, Runs, IsTrapped, IsFull, Ends, Reaches}
use Rattle.adj_interp_frame.proofs.Reading.{read_cell, read_shape}
use Rattle.adj_interp.proofs.Driving.{told_next, holds_stand, uses_none, done_at_once, reaches_next, reaches_break}

is_below : (a b : ℕ) → a < b → nat_lt a b ≡ true
is_below a b lt = grind arith

isnt_below : (a b : ℕ) → a ≡ b → nat_lt a b ≡ false
isnt_below a b q = grind arith

-- ---- reversals

-- the innermost of some goes
fewer : (log : Log) (rs : List Reversal) → length (with_end log rs).begun ≡ length rs - 1
fewer log [] = refl
fewer log (r ∷ rs) = omega arith

module _ {C : Type 0} {numbers : Numbers C} where
  -- ---- what slots hold

  module _ (e : Entry numbers) (m : Machine C) (s : Scene C) (i : ℕ) (d : Slot C) (h : Holds e m s) (f : IsFrame m.frame.names.now m.frame.slots.items) (there : i < length m.frame.slots.items) where
    -- a variable has as many cells as its slot
    pub held_size : size_of (e.shape (var_at m.frame.names.now i)) ≡ length (get_or m.frame.slots.items i d).cells.items
    held_size = ap size_of (h.shown.shapes (var_at m.frame.names.now i) ∙ read_shape m.frame.names.now m.frame.slots.items i d f there) ∙ sym (f.sized i d there)

    -- counted in a slot that was read
    pub counted_cells : (n : ℕ) → d ≡ get_or m.frame.slots.items i d → n ≡ length d.cells.items → n ≡ size_of (e.shape (var_at m.frame.names.now i))
    counted_cells n at q = q ∙ ap (λ (v : Slot C). length v.cells.items) at ∙ sym held_size

    -- and they hold the same
    pub held_cell : (j : ℕ) → j < length (get_or m.frame.slots.items i d).cells.items → s.store (var_at m.frame.names.now i) j ≡ get_or (get_or m.frame.slots.items i d).cells.items j (zero_in numbers)
    held_cell j lt = let z = held_size in h.shown.cells (var_at m.frame.names.now i) j (omega (arith, z, lt)) ∙ read_cell numbers m.frame.names.now m.frame.slots.items i d j f there

  module _ (e : Entry numbers) where
    -- ---- one word

    -- a tape with other words
    pub holds_taped : (m m' : Machine C) (t : Held C) (s : Scene C) → m' ≡ record m { tape = t } → t.room ≡ m.tape.room → Holds e m s → Holds e m' (record s { tape = t.words })
    holds_taped m m' t s p r h = subst (λ (z : Machine C). Holds e z (record s { tape = t.words })) (sym p) (record { room = r ∙ h.room; level = h.level; base = h.base; shown = h.shown; tape = refl; opened = h.opened; told = h.told })

    -- a word that finds room
    pub pushed_ok : (m m' : Machine C) (s : Scene C) (w : C) → Holds e m s → length m.tape.words < m.tape.room → m' ≡ record m { tape = record m.tape { words = w ∷ m.tape.words } } → Ends e (pushed (setting_at e) w s) m.left (Ok tt) m'
    pushed_ok m m' s w h lt p =
        let t : Held C = record m.tape { words = w ∷ m.tape.words } in
        let tape = h.tape in
        let room = is_below (length s.tape) e.room (subst (λ ws. length ws < e.room) (sym tape) (subst (λ z. length m.tape.words < z) h.room lt)) in
        let held : Holds e m' (record s { tape = w ∷ s.tape }) = subst (λ ws. Holds e m' (record s { tape = w ∷ ws })) (sym tape) (holds_taped m m' t s p refl h) in
        subst (λ b. Ends e (λ k. if b then Done (record s { tape = w ∷ s.tape }) k else Full (stand (setting_at e) s)) m.left (Ok tt) m') (sym room) (done_at_once e m m' (record s { tape = w ∷ s.tape }) held (ap (λ (z : Machine C). z.left) p))

    -- a word that finds none
    pub pushed_full : (m m' : Machine C) (s : Scene C) (w : C) → Holds e m s → length m.tape.words ≡ m.tape.room → m' ≡ m → Ends e (pushed (setting_at e) w s) m.left (Err stop.TapeFull) m'
    pushed_full m m' s w h q p =
        let room = isnt_below (length s.tape) e.room (ap length h.tape ∙ q ∙ h.room) in
        subst (λ (z : Machine C). Ends e (pushed (setting_at e) w s) m.left (Err stop.TapeFull) z) (sym p)
        (subst (λ b. Ends e (λ k. if b then Done (record s { tape = w ∷ s.tape }) k else Full (stand (setting_at e) s)) m.left (Err stop.TapeFull) m) (sym room)
        (uses_none (λ k. Full (stand (setting_at e) s)) m.left m.left refl (λ j. IsFull numbers m) (λ j. holds_stand e m s h)))

    -- a word that is there goes into a cell
    pub popped_ok : (m m1 m2 : Machine C) (t : Held C) (s : Scene C) (x : Var) (i line : ℕ) (w : C) → Holds e m s → m.tape ≡ record t { words = w ∷ t.words } → m1 ≡ record m { tape = t } → m2.left ≡ m1.left → ((z : Scene C) → Holds e m1 z → Holds e m2 (record z { store = set z.store x i w })) → Ends e (popped (setting_at e) x i line s) m.left (Ok tt) m2
    popped_ok m m1 m2 t s x i line w h p q l g =
        let had : s.tape ≡ w ∷ t.words = h.tape ∙ ap (λ (z : Held C). z.words) p in
        let go : C → List C → Runs C = λ c cs k. Done (record s { store = set s.store x i c; tape = cs }) k in
        let held = g (record s { tape = t.words }) (holds_taped m m1 t s q (sym (ap (λ (z : Held C). z.room) p)) h) in
        subst (λ ws. Ends e (λ k. with_top ws line (stand (setting_at e) s) (λ c cs. go c cs k)) m.left (Ok tt) m2) (sym had) (done_at_once e m m2 (record s { store = set s.store x i w; tape = t.words }) held (l ∙ ap (λ (z : Machine C). z.left) q))

    -- there is none
    pub popped_none : (m m' : Machine C) (s : Scene C) (x : Var) (i line : ℕ) → Holds e m s → m.tape.words ≡ [] → m' ≡ m → Ends e (popped (setting_at e) x i line s) m.left (Err (stop.Trap trap.Tape line)) m'
    popped_none m m' s x i line h p q =
        let go : C → List C → Runs C = λ c cs k. Done (record s { store = set s.store x i c; tape = cs }) k in
        subst (λ (z : Machine C). Ends e (popped (setting_at e) x i line s) m.left (Err (stop.Trap trap.Tape line)) z) (sym q)
        (subst (λ ws. Ends e (λ k. with_top ws line (stand (setting_at e) s) (λ c cs. go c cs k)) m.left (Err (stop.Trap trap.Tape line)) m) (sym (h.tape ∙ p))
        (uses_none (λ k. Trapped tape_trap line (stand (setting_at e) s)) m.left m.left refl (λ j. IsTrapped numbers m trap.Tape line) (λ j. (refl, refl, holds_stand e m s h))))

    -- ---- the words of an array

    module _ (f : ℕ → C) where
      pub all_next : {before : ℕ} (i count : ℕ) (w : C) (o : Runs C) (u : Unit {0}) (m m' : Machine C) → i < count → f i ≡ w → Reaches e o before (pushed_all (setting_at e) (cells_from f i (count - i))) m → ((s : Scene C) → Holds e m s → Ends e (pushed (setting_at e) w s) m.left (Ok u) m') → Reaches e o before (pushed_all (setting_at e) (cells_from f (i + 1) (count - (i + 1)))) m'
      all_next {before = before} i count w o u m m' lt q r h =
          let d : count - i ≡ suc (count - (i + 1)) = omega arith in
          let a : suc i ≡ i + 1 = omega arith in
          subst (λ j. Reaches e o before (pushed_all (setting_at e) (cells_from f j (count - (i + 1)))) m') a
          (reaches_next e o (pushed (setting_at e) (f i)) (pushed_all (setting_at e) (cells_from f (suc i) (count - (i + 1)))) u m m'
          (subst (λ j. Reaches e o before (pushed_all (setting_at e) (cells_from f i j)) m) d r)
          (λ s g. subst (λ z. Ends e (pushed (setting_at e) z s) m.left (Ok u) m') (sym q) (h s g)))

      pub all_break : {before : ℕ} (i count : ℕ) (w : C) (o : Runs C) (x : Stop) (m m' : Machine C) → i < count → f i ≡ w → Reaches e o before (pushed_all (setting_at e) (cells_from f i (count - i))) m → ((s : Scene C) → Holds e m s → Ends e (pushed (setting_at e) w s) m.left (Err x) m') → Ends e o before (Err x) m'
      all_break {before = before} i count w o x m m' lt q r h =
          let d : count - i ≡ suc (count - (i + 1)) = omega arith in
          reaches_break e o (pushed (setting_at e) (f i)) (pushed_all (setting_at e) (cells_from f (suc i) (count - (i + 1)))) x m m'
          (subst (λ j. Reaches e o before (pushed_all (setting_at e) (cells_from f i j)) m) d r)
          (λ s g. subst (λ z. Ends e (pushed (setting_at e) z s) m.left (Err x) m') (sym q) (h s g))

      pub all_end : {before : ℕ} (i count : ℕ) (o : Runs C) (u : Unit {0}) (m : Machine C) → count ≤ i → Reaches e o before (pushed_all (setting_at e) (cells_from f i (count - i))) m → Ends e o before (Ok u) m
      all_end {before = before} i count o u m le r =
          let d : count - i ≡ 0 = omega arith in
          subst (λ j. Reaches e o before (pushed_all (setting_at e) (cells_from f i j)) m) d r

    module _ (x : Var) (line : ℕ) where
      pub back_next : {before : ℕ} (i : ℕ) (o : Runs C) (u : Unit {0}) (m m' : Machine C) → 0 < i → Reaches e o before (popped_all (setting_at e) x i line) m → ((s : Scene C) → Holds e m s → Ends e (popped (setting_at e) x (i - 1) line s) m.left (Ok u) m') → Reaches e o before (popped_all (setting_at e) x (i - 1) line) m'
      back_next zero o u m m' lt r h = absurd (omega arith)
      back_next {before = before} (suc i) o u m m' lt r h =
          let d : suc i - 1 ≡ i = omega arith in
          subst (λ j. Reaches e o before (popped_all (setting_at e) x j line) m') (sym d)
          (reaches_next e o (popped (setting_at e) x i line) (popped_all (setting_at e) x i line) u m m' r
          (λ s g. subst (λ j. Ends e (popped (setting_at e) x j line s) m.left (Ok u) m') d (h s g)))

      pub back_break : {before : ℕ} (i : ℕ) (o : Runs C) (y : Stop) (m m' : Machine C) → 0 < i → Reaches e o before (popped_all (setting_at e) x i line) m → ((s : Scene C) → Holds e m s → Ends e (popped (setting_at e) x (i - 1) line s) m.left (Err y) m') → Ends e o before (Err y) m'
      back_break zero o y m m' lt r h = absurd (omega arith)
      back_break {before = before} (suc i) o y m m' lt r h =
          let d : suc i - 1 ≡ i = omega arith in
          reaches_break e o (popped (setting_at e) x i line) (popped_all (setting_at e) x i line) y m m' r
          (λ s g. subst (λ j. Ends e (popped (setting_at e) x j line s) m.left (Err y) m') d (h s g))

      pub back_end : {before : ℕ} (i : ℕ) (o : Runs C) (u : Unit {0}) (m : Machine C) → i ≡ 0 → Reaches e o before (popped_all (setting_at e) x i line) m → Ends e o before (Ok u) m
      back_end zero o u m z r = r
      back_end (suc i) o u m z r = absurd (omega (arith, z))

  module _ (e : Entry numbers) where
    -- a reversal began
    pub begun_ok : (m m' : Machine C) (t : Tallied) (s : Scene C) (l k level height : ℕ) → Holds e m s → m' ≡ record m { tally = t } → t ≡ with_event m.tally (Begin l k level height) → level ≡ m.level → height ≡ length m.tape.words → Ends e (λ i. Done (begun (setting_at e) l k s) i) m.left (Ok tt) m'
    begun_ok m m' t s l k level height h p q a b =
        let at : t ≡ with_event m.tally (Begin l k e.level (length s.tape)) = q ∙ (λ i. with_event m.tally (Begin l k ((a ∙ h.level) i) ((b ∙ ap length (sym h.tape)) i))) in
        let opened = h.opened in
        let more : length t.begun ≡ suc (length m.tally.begun) = ap (λ (z : Tallied). length z.begun) at in
        let held : Holds e (record m { tally = t }) (begun (setting_at e) l k s) = record {
          room = h.room;
          level = h.level;
          base = h.base;
          shown = h.shown;
          tape = h.tape;
          opened = omega (arith, opened, more);
          told = subst (λ z. Tells z (Begin l k e.level (length s.tape) ∷ s.events)) (sym at) (told_next m.tally (Begin l k e.level (length s.tape)) s.events h.told);
        } in
        subst (λ (z : Machine C). Ends e (λ i. Done (begun (setting_at e) l k s) i) m.left (Ok tt) z) (sym p) (done_at_once e m (record m { tally = t }) (begun (setting_at e) l k s) held refl)

    -- what a machine has in hand has nothing to do with the schedule that was asked
    pub holds_cursor : (m m' : Machine C) (o : Option (Box Plan Global)) (s : Scene C) → m' ≡ record m { cursor = o } → Holds e m s → Holds e m' s
    holds_cursor m m' o s p h = subst (λ (z : Machine C). Holds e z s) (sym p) (record { room = h.room; level = h.level; base = h.base; shown = h.shown; tape = h.tape; opened = h.opened; told = h.told })

    -- none is open
    pub ended_none : (m : Machine C) (s : Scene C) (line : ℕ) → Holds e m s → length m.tally.begun ≡ m.base → Ends e (ended (setting_at e) s.opened line s) m.left (Err (stop.Trap trap.Schedule line)) m
    ended_none m s line h q = go s.opened refl
      where
        go : (i : ℕ) → s.opened ≡ i → Ends e (ended (setting_at e) i line s) m.left (Err (stop.Trap trap.Schedule line)) m
        go zero z = uses_none (λ k. Trapped schedule_trap line (stand (setting_at e) s)) m.left m.left refl (λ j. IsTrapped numbers m trap.Schedule line) (λ j. (refl, refl, holds_stand e m s h))
        go (suc i) z = let o = h.opened in absurd (omega (arith, o, q, z))

    -- the innermost ended
    pub ended_ok : (m m' : Machine C) (t : Tallied) (s : Scene C) (line : ℕ) → Holds e m s → (length m.tally.begun ≡ m.base → ⊥) → m' ≡ record m { tally = t } → t ≡ with_event m.tally (End e.level) → Ends e (ended (setting_at e) s.opened line s) m.left (Ok tt) m'
    ended_ok m m' t s line h some p q = go s.opened refl
      where
        go : (i : ℕ) → s.opened ≡ i → Ends e (ended (setting_at e) i line s) m.left (Ok tt) m'
        go zero z = let o = h.opened in absurd (some (omega (arith, o, z)))
        go (suc i) z =
            let o = h.opened in
            let less : length t.begun ≡ length m.tally.begun - 1 = ap (λ (y : Tallied). length y.begun) q ∙ fewer m.tally.log m.tally.begun in
            let next : Scene C = record s { opened = i; events = End e.level ∷ s.events } in
            let held : Holds e (record m { tally = t }) next = record {
              room = h.room;
              level = h.level;
              base = h.base;
              shown = h.shown;
              tape = h.tape;
              opened = omega (arith, o, z, less);
              told = subst (λ y. Tells y (End e.level ∷ s.events)) (sym q) (told_next m.tally (End e.level) s.events h.told);
            } in
            subst (λ (y : Machine C). Ends e (λ k. Done next k) m.left (Ok tt) y) (sym p) (done_at_once e m (record m { tally = t }) next held refl)
