-- Given: the input that data without a fault are. (docs/DATA.md, "Entries")
use Rattle.std.specs.Prelude.{◌≡◌, ℕ, ℤ, false, List, [], map, Option, Some}
use Rattle.adj_tree.specs.Code.{plain, Procedure}
use Rattle.adj_tree.specs.declared.value.Slot.{Slot as CodeSlot}
use Rattle.def_meaning.specs.Store.{scalar}
use Rattle.def_meaning.specs.Units.{Slot, declared, shape_of}
use Rattle.adj_data.specs.DataCodes.{data_code_number}
use Rattle.adj_data.specs.Entries.{Entry, entries_of, entry_named}
use Rattle.adj_data.specs.Faults.{Fault, extents_given, data_items}
use Rattle.adj_data.specs.declared.entries.Entry.{Entry as CodeEntry}
use Rattle.adj_data.specs.declared.data_error.DataError.{DataError}
use Rattle.adj_data.specs.declared.data_error.DataError.TheVariants as error

-- the slot of an entry with these extents
abbrev pub slot_in : Option Entry → Option (List ℤ) → Slot ℤ
slot_in (Some e) (Some zs) = record { shape = shape_of zs; cells = e.numbers }
slot_in _ _ = record { shape = scalar; cells = [] }

abbrev pub slot_given : List Entry → Procedure → List ℕ → Slot ℤ
slot_given es u d = slot_in (entry_named d es) (extents_given es (declared u.declarations (plain d)))

-- a slot for each dummy
abbrev pub input_given : ℕ → List ℕ → Procedure → List (Slot ℤ)
input_given line bytes u = map (slot_given (entries_of (data_items false line bytes)) u) u.dummies

-- what an entry of the code says
abbrev pub entry_seen : CodeEntry → Entry
entry_seen e = record { name = e.name.items; line = e.line; numbers = e.numbers.items }

-- what a slot of the code holds
abbrev pub slot_seen : CodeSlot → Slot ℤ
slot_seen v = record { shape = record { rows = v.rows; cols = v.cols }; cells = v.cells }

-- the fault is the first of the data, or memory ran out
abbrev pub IsFirstFault : DataError → Option Fault → Type 0
IsFirstFault (error.Data c n) found = found ≡ Some (record { code = data_code_number c; line = n })
IsFirstFault error.Memory found = Unit {0}
