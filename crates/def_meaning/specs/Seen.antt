-- Runs seen under other names, and over other numbers: a store of one run gives that of the other cell by cell.
use Rattle.std.specs.Prelude.{◌≡◌, ℕ, ℤ, map}
use Rattle.adj_tree.specs.Code.{Var, var_eq}
use Rattle.def_meaning.specs.Numbers.{Numbers}
use Rattle.def_meaning.specs.Store.{Store}
use Rattle.def_meaning.specs.Value.{Setting}
use Rattle.def_meaning.specs.Scene.{Scene, Outcome, Done, then_do}
use Rattle.def_meaning.specs.Units.{Slot, Output}

-- ---- other names

-- a renaming that keeps variables apart
pub record Separates (r : Var → Var) : Type 0 where
  pub at : (x y : Var) → var_eq (r x) (r y) ≡ var_eq x y

-- each variable holds what its new name holds
abbrev pub pulled : {C : Type 0} → (Var → Var) → Store C → Store C
pulled r s x = s (r x)

abbrev pub pulled_setting : {C : Type 0} → (Var → Var) → Setting C → Setting C
pulled_setting r n = record n { shape = λ x. n.shape (r x) }

abbrev pub pulled_scene : {C : Type 0} → (Var → Var) → Scene C → Scene C
pulled_scene r s = record s { store = pulled r s.store }

abbrev pub pulled_outcome : {C : Type 0} → (Var → Var) → Outcome (Scene C) → Outcome (Scene C)
pulled_outcome r o = then_do o (λ s k. Done (pulled_scene r s) k)

-- ---- other numbers

-- h takes the numbers n to the numbers m: what is done with numbers may be done before or after
pub record Projects {C D : Type 0} (h : C → D) (n : Numbers C) (m : Numbers D) : Type 0 where
  pub of_word : (z : ℤ) → h (n.of_word z) ≡ m.of_word z
  pub shown : (a : C) → m.shown (h a) ≡ n.shown a
  pub negation : (a : C) → h (n.negation a) ≡ m.negation (h a)
  pub sum : (a b : C) → h (n.sum a b) ≡ m.sum (h a) (h b)
  pub difference : (a b : C) → h (n.difference a b) ≡ m.difference (h a) (h b)
  pub product : (a b : C) → h (n.product a b) ≡ m.product (h a) (h b)
  pub raised_to : (a : C) (k : ℕ) → h (n.raised_to a k) ≡ m.raised_to (h a) k

-- ---- both at once

abbrev pub seen : {C D : Type 0} → (Var → Var) → (C → D) → Store C → Store D
seen r h s x j = h (s (r x) j)

abbrev pub seen_setting : {C D : Type 0} → (Var → Var) → Numbers D → Setting C → Setting D
seen_setting r m n = record { numbers = m; shape = λ x. n.shape (r x); room = n.room; level = n.level }

abbrev pub seen_scene : {C D : Type 0} → (Var → Var) → (C → D) → Scene C → Scene D
seen_scene r h s = record { store = seen r h s.store; tape = map h s.tape; opened = s.opened; events = s.events }

abbrev pub seen_outcome : {C D : Type 0} → (Var → Var) → (C → D) → Outcome (Scene C) → Outcome (Scene D)
seen_outcome r h o = then_do o (λ s k. Done (seen_scene r h s) k)

-- ---- units of a program over other numbers

abbrev pub slot_seen : {C D : Type 0} → (C → D) → Slot C → Slot D
slot_seen h v = record { shape = v.shape; cells = map h v.cells }

abbrev pub output_seen : {C D : Type 0} → (C → D) → Output C → Output D
output_seen h out = record { slots = map (slot_seen h) out.slots; tape = map h out.tape; events = out.events }

-- how a run ends, over other numbers
abbrev pub ending_seen : {C D : Type 0} → (C → D) → Outcome (Output C) → Outcome (Output D)
ending_seen h o = then_do o (λ out used. Done (output_seen h out) used)
