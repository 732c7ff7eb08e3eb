-- Faults of data: each has a code and a line. (docs/DATA.md, "Faults")
use Rattle.std.specs.Prelude.{ℕ, ℤ, pos, negsuc, int_le, Bool, false, not, ◌&&◌, List, [], ◌∷◌, ◌++◌, map, length, Option, Some, None, if◌then◌else◌}
use Rattle.std.specs.Ordering.{int_eq}
use Rattle.adj_tree.specs.Code.{plain, Extent, fixed, given, Procedure}
use Rattle.def_text.specs.Line.{cut_lines}
use Rattle.def_meaning.specs.Units.{declared, are_extents, elements}
use Rattle.def_meaning.specs.Apart.{has_name}
use Rattle.adj_data.specs.Items.{Item, items_of, name_of, is_number, number_of_item}
use Rattle.adj_data.specs.Entries.{Entry, entries_of, entry_named, with_item}

-- a code, and the line where the fault stands, which is 0 where something isn't there
pub record Fault : Type 0 where
  pub code : ℕ
  pub line : ℕ

-- the first of two faults
abbrev pub or_else : Option Fault → Option Fault → Option Fault
or_else (Some f) other = Some f
or_else None other = other

-- ---- faults of items

abbrev pub in_range : ℤ → Bool
in_range z = int_le (negsuc 9223372036854775807) z && int_le z (pos 9223372036854775807)

-- what is wrong with a number: 1 before any name, 6 where it is no word
abbrev pub number_code : List Entry → List ℕ → Option ℕ
number_code [] w = Some 1
number_code (e ∷ es) w = if in_range (number_of_item w) then None else Some 6

-- what is wrong with a name: 2 where it isn't a dummy, 3 where it was given before
abbrev pub name_code : List (List ℕ) → List Entry → List ℕ → Option ℕ
name_code dummies before x =
    if not (has_name x dummies) then Some 2
    else (if has_name x (map (λ e. e.name) before) then Some 3 else None)

-- what is wrong with an item, where the items before it made some entries: 1 for a name that doesn't lead its line, and for what is neither a name nor a number
abbrev pub item_code : List (List ℕ) → List Entry → Item → Option ℕ
item_code dummies before w =
    if w.begins then (if w.leads then name_code dummies before (name_of w.text) else Some 1)
    else (if is_number w.text then number_code before w.text else Some 1)

abbrev pub fault_at : ℕ → Option ℕ → Option Fault
fault_at line None = None
fault_at line (Some c) = Some (record { code = c; line = line })

-- the first fault of items that stand behind others
abbrev pub items_fault : List (List ℕ) → List Item → List Item → Option Fault
items_fault dummies before [] = None
items_fault dummies before (w ∷ ws) = or_else (fault_at w.line (item_code dummies (entries_of before) w)) (items_fault dummies (before ++ w ∷ []) ws)

-- the same by the entries that were made before
abbrev pub entries_fault : List (List ℕ) → List Entry → List Item → Option Fault
entries_fault dummies es [] = None
entries_fault dummies es (w ∷ ws) = or_else (fault_at w.line (item_code dummies es w)) (entries_fault dummies (with_item es w) ws)

-- ---- faults of dummies

abbrev pub only : List ℤ → Option ℤ
only (z ∷ []) = Some z
only _ = None

-- the number of an entry that has exactly one
abbrev pub only_number : Option Entry → Option ℤ
only_number None = None
only_number (Some e) = only e.numbers

-- the value that entries give to an extent
abbrev pub extent_given : List Entry → Extent → Option ℤ
extent_given es (fixed z) = Some z
extent_given es (given x) = only_number (entry_named x es)

abbrev pub with_first : Option ℤ → Option (List ℤ) → Option (List ℤ)
with_first (Some z) (Some zs) = Some (z ∷ zs)
with_first _ _ = None

-- the values that entries give to extents, where they give one to each
abbrev pub extents_given : List Entry → List Extent → Option (List ℤ)
extents_given es [] = Some []
extents_given es (x ∷ xs) = with_first (extent_given es x) (extents_given es xs)

-- what is wrong with an entry of such extents: 7 for extents that no array has, 5 for another count of numbers than elements
abbrev pub entry_code : Entry → Option (List ℤ) → Option ℕ
entry_code e None = None
entry_code e (Some zs) =
    if not (are_extents zs && int_le (elements zs) (pos 1048576)) then Some 7
    else (if int_eq (elements zs) (pos (length e.numbers)) then None else Some 5)

-- what is wrong with a dummy: 4 where it has no entry
abbrev pub given_fault : List Entry → List Extent → Option Entry → Option Fault
given_fault es extents None = Some (record { code = 4; line = 0 })
given_fault es extents (Some e) = fault_at e.line (entry_code e (extents_given es extents))

abbrev pub dummy_fault : List Entry → Procedure → List ℕ → Option Fault
dummy_fault es u d = given_fault es (declared u.declarations (plain d)) (entry_named d es)

-- the first fault of dummies, in order
abbrev pub dummies_fault : List Entry → Procedure → List (List ℕ) → Option Fault
dummies_fault es u [] = None
dummies_fault es u (d ∷ ds) = or_else (dummy_fault es u d) (dummies_fault es u ds)

-- ---- the first fault

-- the items of data that stand behind the line of a number
abbrev pub data_items : Bool → ℕ → List ℕ → List Item
data_items marks line bytes = items_of marks line (cut_lines bytes)

-- the first fault of the data of a unit: of an item, in the order of the text, and then of a dummy
abbrev pub data_fault : ℕ → List ℕ → Procedure → Option Fault
data_fault line bytes u = or_else (items_fault u.dummies [] (data_items false line bytes)) (dummies_fault (entries_of (data_items false line bytes)) u u.dummies)
