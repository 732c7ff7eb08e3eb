-- Dually: inputs with tangents, programs that call no runtime, and how a dual run of a unit ends.
use Rattle.std.specs.Prelude.{◌≡◌, ℕ, ℤ, List, map, length, false, Result, Ok, Err}
use Rattle.std.specs.List.{zip, All, AllZip}
use Rattle.adj_tree.specs.Code.{Procedure}
use Rattle.adj_tree.specs.declared.value.Slot.{Slot as CodeSlot}
use Rattle.adj_tree.specs.declared.value.Trap.{Trap as CodeTrap}
use Rattle.def_names.specs.Statements.{statements}
use Rattle.def_names.specs.NameFaults.{calls_runtime}
use Rattle.def_meaning.specs.Scene.{Outcome, Done, Trapped, More, Full, IsMore}
use Rattle.def_meaning.specs.Units.{Slot, Output}
use Rattle.adj_interp_frame.specs.Framed.{trap_of}
use Rattle.adj_interp.specs.declared.stop.Stop.{Stop}
use Rattle.adj_interp.specs.declared.stop.Stop.TheVariants as stop

-- a slot of tangents is one for a slot of words
pub record IsTangent (v t : CodeSlot) : Type 0 where
  pub rows : t.rows ≡ v.rows
  pub cols : t.cols ≡ v.cols
  pub cells : length t.cells ≡ length v.cells

-- there is one for each
abbrev pub AreTangents : List CodeSlot → List CodeSlot → Type 0
AreTangents vs ts = AllZip IsTangent vs ts

-- words, each with its tangent, in the shape of the words
abbrev pub dual_slot : CodeSlot × CodeSlot → Slot (ℤ × ℤ)
dual_slot p = record { shape = record { rows = p.0.rows; cols = p.0.cols }; cells = zip p.0.cells p.1.cells }

abbrev pub dual_slots : List CodeSlot → List CodeSlot → List (Slot (ℤ × ℤ))
dual_slots vs ts = map dual_slot (zip vs ts)

-- no call of the runtime stands in a program
abbrev pub CallsNoRuntime : List Procedure → Type 0
CallsNoRuntime units = All (λ u. All (λ s. calls_runtime s.1 ≡ false) (statements u.body)) units

-- a dual run is done with these values and tangents
abbrev pub DualDone : Outcome (Output (ℤ × ℤ)) → List CodeSlot → List CodeSlot → Type 0
DualDone (Done out used) vs ts = AreTangents vs ts × (dual_slots vs ts ≡ out.slots)
DualDone (Trapped d l w) vs ts = ⊥
DualDone (More w) vs ts = ⊥
DualDone (Full w) vs ts = ⊥

-- it trapped at a line
abbrev pub DualTrapped : Outcome (Output (ℤ × ℤ)) → CodeTrap → ℕ → Type 0
DualTrapped (Done out used) t line = ⊥
DualTrapped (Trapped d l w) t line = (d ≡ trap_of t) × (l ≡ line)
DualTrapped (More w) t line = ⊥
DualTrapped (Full w) t line = ⊥

-- it found the tape full
abbrev pub DualFull : Outcome (Output (ℤ × ℤ)) → Type 0
DualFull (Done out used) = ⊥
DualFull (Trapped d l w) = ⊥
DualFull (More w) = ⊥
DualFull (Full w) = Unit {0}

-- a dual run ends with a result, unless memory ran out
abbrev pub DualEnds : Outcome (Output (ℤ × ℤ)) → Result (List CodeSlot × List CodeSlot) Stop → Type 0
DualEnds o (Ok r) = DualDone o r.0 r.1
DualEnds o (Err (stop.Trap t line)) = DualTrapped o t line
DualEnds o (Err stop.Budget) = IsMore o
DualEnds o (Err stop.TapeFull) = DualFull o
DualEnds o (Err stop.Memory) = Unit {0}
