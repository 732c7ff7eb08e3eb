-- Marked: the data of `check`, with tangents and output adjoints. (docs/DATA.md, "Tangents and adjoints")
use Rattle.std.specs.Prelude.{ℕ, ◌==◌, ℤ, pos, Bool, true, List, [], ◌∷◌, ◌++◌, map, length, Option, Some, None, codes, if◌then◌else◌}
use Rattle.adj_tree.specs.Code.{Procedure}
use Rattle.def_meaning.specs.Units.{Slot}
use Rattle.adj_data.specs.Entries.{Entry, entries_of, entry_named}
use Rattle.adj_data.specs.Faults.{Fault, or_else, fault_at, data_items, items_fault, dummies_fault}
use Rattle.adj_data.specs.Given.{slot_given}

-- the marks of entries: of tangents, and of adjoints
abbrev pub tangent_mark : List ℕ
tangent_mark = codes ".D"

abbrev pub adjoint_mark : List ℕ
adjoint_mark = codes ".B"

-- a dummy: its name, whether an entry with a mark is wanted of it, and what its own entry gives it
pub record Wanted : Type 0 where
  pub name : List ℕ
  pub flag : Bool
  pub slot : Slot ℤ

abbrev pub wanted : List (List ℕ) → List Bool → List (Slot ℤ) → List Wanted
wanted (d ∷ ds) (f ∷ fs) (v ∷ vs) = record { name = d; flag = f; slot = v } ∷ wanted ds fs vs
wanted _ _ _ = []

-- the names with a mark that may stand there
abbrev pub marked_names : List ℕ → List (List ℕ) → List Bool → List (List ℕ)
marked_names mark (d ∷ ds) (f ∷ fs) = if f then (d ++ mark) ∷ marked_names mark ds fs else marked_names mark ds fs
marked_names mark _ _ = []

-- all names that may stand there
abbrev pub titles_of : Procedure → List Bool → List Bool → List (List ℕ)
titles_of u vars outvars = u.dummies ++ (marked_names tangent_mark u.dummies vars ++ marked_names adjoint_mark u.dummies outvars)

-- ---- faults

-- what is wrong with an entry with a mark: 4 where it isn't there, 5 where it has another count of numbers than its dummy has elements
abbrev pub mark_fault : Slot ℤ → Option Entry → Option Fault
mark_fault v None = Some (record { code = 4; line = 0 })
mark_fault v (Some e) = fault_at e.line (if length e.numbers == length v.cells then None else Some 5)

-- the first fault of entries with a mark, where they are wanted, in the order of the dummies
abbrev pub marks_fault : List Entry → List ℕ → List Wanted → Option Fault
marks_fault es mark [] = None
marks_fault es mark (w ∷ ws) = or_else (if w.flag then mark_fault w.slot (entry_named (w.name ++ mark) es) else None) (marks_fault es mark ws)

-- what the entries of dummies give
abbrev pub slots_of : List Entry → Procedure → List (Slot ℤ)
slots_of es u = map (slot_given es u) u.dummies

-- the same by the entries
abbrev pub entries_check : List Entry → Procedure → List Bool → List Bool → Option Fault
entries_check es u vars outvars =
    or_else (dummies_fault es u u.dummies)
    (or_else (marks_fault es tangent_mark (wanted u.dummies vars (slots_of es u))) (marks_fault es adjoint_mark (wanted u.dummies outvars (slots_of es u))))

-- the first fault of the data of `check`: of an item, in the order of the text, of a dummy, of a tangent, and of an adjoint
abbrev pub check_fault : ℕ → List ℕ → Procedure → List Bool → List Bool → Option Fault
check_fault line bytes u vars outvars =
    or_else (items_fault (titles_of u vars outvars) [] (data_items true line bytes)) (entries_check (entries_of (data_items true line bytes)) u vars outvars)

-- ---- values

-- a slot of zeros
abbrev pub zeros_like : Slot ℤ → Slot ℤ
zeros_like v = record { shape = v.shape; cells = map (λ z. pos 0) v.cells }

-- what an entry with a mark gives, in the shape of the dummy; zeros where none is wanted
abbrev pub filled : Slot ℤ → Option Entry → Slot ℤ
filled v None = zeros_like v
filled v (Some e) = record { shape = v.shape; cells = e.numbers }

abbrev pub marked_slot : List Entry → List ℕ → Wanted → Slot ℤ
marked_slot es mark w = if w.flag then filled w.slot (entry_named (w.name ++ mark) es) else zeros_like w.slot

-- a slot for each dummy
abbrev pub marked_slots : List Entry → List ℕ → List Wanted → List (Slot ℤ)
marked_slots es mark ws = map (marked_slot es mark) ws

-- the inputs, the tangents and the output adjoints that data are
abbrev pub inputs_given : ℕ → List ℕ → Procedure → List (Slot ℤ)
inputs_given line bytes u = slots_of (entries_of (data_items true line bytes)) u

abbrev pub tangents_given : ℕ → List ℕ → Procedure → List Bool → List (Slot ℤ)
tangents_given line bytes u vars = marked_slots (entries_of (data_items true line bytes)) tangent_mark (wanted u.dummies vars (inputs_given line bytes u))

abbrev pub adjoints_given : ℕ → List ℕ → Procedure → List Bool → List (Slot ℤ)
adjoints_given line bytes u outvars = marked_slots (entries_of (data_items true line bytes)) adjoint_mark (wanted u.dummies outvars (inputs_given line bytes u))
