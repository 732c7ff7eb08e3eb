-- How a run of a unit concludes.
use Rattle.std.proofs.Common.{◌≡◌, ℕ, suc, ◌+◌, ◌-◌, ◌<◌, ◌≤◌, List, [], ◌∷◌, ◌++◌, map, take, length, get_or, refl, sym, ap, ap₂, subst, ◌∙◌, arith}
use Rattle.std.specs.Prelude.{reverse, Ok, Err}
use Rattle.std.proofs.lemmas.List.{get_or_append_left, length-append}
use Rattle.adj_tree.specs.Code.{Var, plain}
use Rattle.adj_tree.specs.declared.value.Trap.{Trap as CodeTrap}
use Rattle.def_meaning.specs.Numbers.{Numbers}
use Rattle.def_meaning.specs.Store.{Shape, size_of, Store, cells_from}
use Rattle.def_meaning.specs.Scene.{Scene, Stand, Outcome, Done, Trapped, More, Full, IsMore, then_do}
use Rattle.def_meaning.specs.Units.{Slot, slot_of, Output}
use Rattle.adj_interp_frame.specs.declared.slot.Slot.{Slot as EntrySlot}
use Rattle.adj_interp_frame.specs.Prepared.{var_at}
use Rattle.adj_interp_frame.specs.Framed.{IsFrame, slot_shape, zero_in}
use Rattle.adj_interp_frame.specs.Shown.{Shows}
use Rattle.adj_interp_frame.proofs.Reading.{read_cell, read_shape}
use Rattle.adj_interp.specs.declared.log.Log.{Log}
use Rattle.adj_interp.specs.declared.stop.Stop.{Stop}
use Rattle.adj_interp.specs.declared.stop.Stop.TheVariants as stop
use Rattle.adj_interp.specs.declared.machine.Machine.{Machine}
use Rattle.adj_interp.specs.Held.{Entry, Holds, Stands, Runs, Uses, IsTrapped, HasMore, IsFull, Ends, used_at}
use Rattle.adj_interp.specs.Concludes.{counted_in, IsCount, Counts}
use Rattle.adj_interp.specs.Ended.{StandsWith, EndsTrapped, EndsEarly, EndsFull, EndsWith}
use Rattle.adj_interp.specs.Inputs.{entry_seen}
use Rattle.adj_interp.proofs.Driving.{at_end, more_then, holds_stand}

module _ {C : Type 0} where
  -- the first slots, each as it is defined
  first_seen : (f : List ℕ → Slot C) (ds : List (List ℕ)) (vs : List (EntrySlot C)) → length ds ≤ length vs → ((i : ℕ) (d : EntrySlot C) → i < length ds → entry_seen (get_or vs i d) ≡ f (get_or ds i [])) → map entry_seen (take (length ds) vs) ≡ map f ds
  first_seen f [] vs n h = refl
  first_seen f (d ∷ ds) [] n h = absurd (omega (arith, n))
  first_seen f (d ∷ ds) (v ∷ vs) n h = ap₂ (λ z zs. z ∷ zs) (h 0 v (omega arith)) (first_seen f ds vs (omega (arith, n)) (λ i e l. h (suc i) e (omega (arith, l))))

module _ {C : Type 0} (numbers : Numbers C) where
  -- ---- the slots at the end

  -- cells that are those of a list
  cells_are : (f : ℕ → C) (cs : List C) (i : ℕ) → ((j : ℕ) → j < length cs → f (i + j) ≡ get_or cs j (zero_in numbers)) → cells_from f i (length cs) ≡ cs
  cells_are f [] i h = refl
  cells_are f (c ∷ cs) i h =
      let first : f i ≡ c = ap f (omega arith) ∙ h 0 (omega arith) in
      ap₂ (λ z zs. z ∷ zs) first (cells_are f cs (suc i) (λ j l. let e : suc i + j ≡ i + suc j = omega arith in ap f e ∙ h (suc j) (omega (arith, l))))

  module _ (ds others names : List (List ℕ)) (vs : List (EntrySlot C)) (shape : Var → Shape) (s : Store C) (front : names ≡ ds ++ others) (f : IsFrame names vs) (h : Shows numbers names vs shape s) where
    slot_at : (i : ℕ) (d : EntrySlot C) → i < length ds → entry_seen (get_or vs i d) ≡ slot_of (shape (plain (get_or ds i []))) (s (plain (get_or ds i [])))
    slot_at i d l =
        let n = length-append ds others in
        let m = ap length front in
        let each = f.each in
        let there : i < length vs = omega (arith, n, m, each, l) in
        let name : get_or names i [] ≡ get_or ds i [] = ap (λ ns. get_or ns i []) front ∙ get_or_append_left ds others [] i l in
        let v = get_or vs i d in
        let x = plain (get_or ds i []) in
        let sh : shape x ≡ slot_shape v = ap (λ y. shape (plain y)) (sym name) ∙ h.shapes (var_at names i) ∙ read_shape names vs i d f there in
        let size : size_of (shape x) ≡ length v.cells.items = ap size_of sh ∙ sym (f.sized i d there) in
        let cell : (j : ℕ) → j < length v.cells.items → s x j ≡ get_or v.cells.items j (zero_in numbers) = λ j lt.
        ap (λ y. s (plain y) j) (sym name) ∙ h.cells (var_at names i) j (subst (λ y. j < size_of (shape (plain y))) (sym name) (subst (λ k. j < k) (sym size) lt)) ∙ read_cell numbers names vs i d j f there in
        let cells : cells_from (s x) 0 (size_of (shape x)) ≡ v.cells.items = ap (cells_from (s x) 0) size ∙ cells_are (s x) v.cells.items 0 (λ j lt. ap (s x) (omega arith) ∙ cell j lt) in
        λ k. record { shape = sym sh k; cells = sym cells k }

    -- are the dummies as they are defined
    pub values_shown : map entry_seen (take (length ds) vs) ≡ map (λ d. slot_of (shape (plain d)) (s (plain d))) ds
    values_shown =
        let n = length-append ds others in
        let m = ap length front in
        let each = f.each in
        first_seen (λ d. slot_of (shape (plain d)) (s (plain d))) ds vs (omega (arith, n, m, each)) slot_at

module _ {C : Type 0} {numbers : Numbers C} where
  -- ---- the whole run

  -- a machine that stopped stands as the run does
  stands_so : (w : Stand) (m : Machine C) (log : Log) → Stands numbers m w → counted_in log ≡ m.tally.log → StandsWith numbers w m.tape log
  stands_so w m log h c = (h.tape, h.log ∙ sym c)

-- a stop of a unit is one of the run
module _ {C : Type 0} (numbers : Numbers C) where
  trapped_run : (t : CodeTrap) (line : ℕ) (o : Outcome (Scene C)) (go : Scene C → ℕ → Outcome (Output C)) (m : Machine C) (log : Log) → IsTrapped numbers m t line o → counted_in log ≡ m.tally.log → EndsTrapped numbers (then_do o go) t line m.tape log
  trapped_run t line (Trapped d l w) go m log h c = (h.0, h.1, stands_so w m log h.2 c)
  trapped_run t line (Done a k) go m log h c = absurd h
  trapped_run t line (More w) go m log h c = absurd h
  trapped_run t line (Full w) go m log h c = absurd h

  more_run : (o : Outcome (Scene C)) (go : Scene C → ℕ → Outcome (Output C)) (m : Machine C) (log : Log) → HasMore numbers m o → counted_in log ≡ m.tally.log → EndsEarly numbers (then_do o go) m.tape log
  more_run (More w) go m log h c = stands_so w m log h c
  more_run (Done a k) go m log h c = absurd h
  more_run (Trapped d l w) go m log h c = absurd h
  more_run (Full w) go m log h c = absurd h

  full_run : (o : Outcome (Scene C)) (go : Scene C → ℕ → Outcome (Output C)) (m : Machine C) (log : Log) → IsFull numbers m o → counted_in log ≡ m.tally.log → EndsFull numbers (then_do o go) m.tape log
  full_run (Full w) go m log h c = stands_so w m log h c
  full_run (Done a k) go m log h c = absurd h
  full_run (Trapped d l w) go m log h c = absurd h
  full_run (More w) go m log h c = absurd h

  -- such a run isn't out of statements
  trapped_stops : {B : Type 0} (t : CodeTrap) (line : ℕ) (o : Outcome (Scene C)) (go : Scene C → ℕ → Outcome B) (m : Machine C) → IsTrapped numbers m t line o → IsMore (then_do o go) → ⊥
  trapped_stops t line (Trapped d l w) go m h g = g
  trapped_stops t line (Done a k) go m h g = h
  trapped_stops t line (More w) go m h g = h
  trapped_stops t line (Full w) go m h g = h

  full_stops : {B : Type 0} (o : Outcome (Scene C)) (go : Scene C → ℕ → Outcome B) (m : Machine C) → IsFull numbers m o → IsMore (then_do o go) → ⊥
  full_stops (Full w) go m h g = g
  full_stops (Done a k) go m h g = h
  full_stops (Trapped d l w) go m h g = h
  full_stops (More w) go m h g = h

module _ {C : Type 0} {numbers : Numbers C} where
  pub concludes_stop : {A : Type 0} (seen : A → List (Slot C)) (e : Entry numbers) (o : Runs C) (budget : ℕ) (go : Scene C → ℕ → Outcome (Output C)) (x : Stop) (m : Machine C) (log : Log) → Ends e o budget (Err x) m → counted_in log ≡ m.tally.log → EndsWith numbers seen (then_do (o budget) go) (Err x) m.tape log
  concludes_stop seen e o budget go stop.Memory m log h c = tt
  concludes_stop seen e o budget go (stop.Trap t line) m log h c = trapped_run numbers t line (o budget) go m log (at_end o budget m.left (λ j. IsTrapped numbers m t line) h) c
  concludes_stop seen e o budget go stop.Budget m log h c = more_run numbers (o budget) go m log h c
  concludes_stop seen e o budget go stop.TapeFull m log h c = full_run numbers (o budget) go m log (at_end o budget m.left (λ j. IsFull numbers m) h) c

  -- a unit that is done gives its dummies
  pub concludes_done : {A : Type 0} (seen : A → List (Slot C)) (e : Entry numbers) (o : Runs C) (slots : Scene C → List (Slot C)) (budget : ℕ) (values : A) (m : Machine C) (log : Log) → Ends e o budget (Ok tt) m → ((s : Scene C) → Holds e m s → seen values ≡ slots s) → counted_in log ≡ m.tally.log → log.used ≡ budget - m.left
      → EndsWith numbers seen (then_do (o budget) (λ s left. Done (record { slots = slots s; tape = s.tape; events = reverse s.events }) (budget - left))) (Ok values) m.tape log
  concludes_done seen e o slots budget values m log h v c used =
      let stands = holds_stand e m h.scene h.holds in
      let done = at_end o budget m.left (λ j z. z ≡ Done h.scene j) h.uses in
      subst (λ z. EndsWith numbers seen (then_do z (λ s left. Done (record { slots = slots s; tape = s.tape; events = reverse s.events }) (budget - left))) (Ok values) m.tape log) (sym done)
      (v h.scene h.holds, h.holds.tape, used, stands.log ∙ sym c)

-- ---- the statements that are used

-- a run that goes on from a unit uses what the unit uses
module _ {C : Type 0} (o : Runs C) (whole : ℕ → Outcome (Output C)) (go : ℕ → Scene C → ℕ → Outcome (Output C)) (budget : ℕ) (same : (k : ℕ) → k ≤ budget → whole k ≡ then_do (o k) (go k)) where
  count_of : (after used : ℕ) (P : ℕ → Outcome (Scene C) → Type 0) → ((z : Outcome (Scene C)) → P 0 z → IsMore (then_do z (go used)) → ⊥) → Uses o budget after P → used ≡ budget - after → (used ≤ budget) × IsCount whole used
  count_of after used P stops h u =
      let enough : used ≤ budget = omega (arith, u) in
      let e : budget - after + 0 ≡ used = omega (arith, u) in
      let at : P 0 (o used) = subst (λ z. P 0 (o z)) e (h.ends 0) in
      (enough, ((λ g. stops (o used) at (subst IsMore (same used enough) g)), (λ j lt. let le : j ≤ budget = omega (arith, lt, enough) in subst IsMore (sym (same j le)) (more_then (o j) (go j) (h.early j (omega (arith, lt, u)))))))

  module _ {numbers : Numbers C} (e : Entry numbers) (m : Machine C) (used : ℕ) where
    pub counts_stop : (A : Type 0) (x : Stop) → Ends e o budget (Err x) m → used ≡ used_at budget m.left (Err x) → Counts {A = A} whole budget (Err x) used
    counts_stop A stop.Memory h u = tt
    counts_stop A (stop.Trap t line) h u = count_of m.left used (λ j. IsTrapped numbers m t line) (λ z g. trapped_stops numbers t line z (go used) m g) h u
    counts_stop A stop.Budget h u = u
    counts_stop A stop.TapeFull h u = count_of m.left used (λ j. IsFull numbers m) (λ z g. full_stops numbers z (go used) m g) h u

    pub counts_done : {A : Type 0} (values : A) → ((s : Scene C) (j : ℕ) → IsMore (go used s j) → ⊥) → Ends e o budget (Ok tt) m → used ≡ budget - m.left → Counts {A = A} whole budget (Ok values) used
    counts_done values done h u = count_of m.left used (λ j z. z ≡ Done h.scene j) (λ z g f. done h.scene 0 (subst (λ y. IsMore (then_do y (go used))) g f)) h.uses u

-- a stop counts alike whatever a result would be
pub counts_alike : (A B : Type 0) {R : Type 0} (run : ℕ → Outcome R) (budget : ℕ) (x : Stop) (used : ℕ) → Counts {A = A} run budget (Err x) used → Counts {A = B} run budget (Err x) used
counts_alike A B run budget (stop.Trap t line) used h = h
counts_alike A B run budget stop.Budget used h = h
counts_alike A B run budget stop.TapeFull used h = h
counts_alike A B run budget stop.Memory used h = tt
