-- Inputs: what the entry of a unit has of an input, and what becomes of it.
use Rattle.adj_tree.specs.Code.{Var, Procedure}
use Rattle.def_meaning.specs.Numbers.{Numbers}
use Rattle.def_meaning.specs.Store.{Shape, Store}
use Rattle.def_meaning.specs.Units.{Slot, extents_of, shape_of}
use Rattle.adj_interp_frame.specs.declared.slot.Slot.{Slot as EntrySlot}
use Rattle.adj_interp_frame.specs.Framed.{slot_shape}

-- a slot of an entry as what a variable holds
abbrev pub entry_seen : {C : Type 0} → EntrySlot C → Slot C
entry_seen v = record { shape = slot_shape v; cells = v.cells.items }

-- the shapes of a unit's variables by its store at the entry
abbrev pub input_shape : {C : Type 0} → Numbers C → Procedure → Store C → Var → Shape
input_shape numbers u s x = shape_of (extents_of numbers u s x)
